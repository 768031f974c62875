-- The order of last places: what it is of a log that goes on, and what a turn of its front makes of it.
use Rattle.std.proofs.Common.{◌≡◌, ℕ, Bool, true, false, not, ◌||◌, ◌==◌, cond, List, [], ◌∷◌, ◌++◌, map, filter, refl, sym, ap, subst, ◌∙◌, inl, inr, arith}
use Rattle.std.proofs.lemmas.Bool.{cases_Bool, and_from, or_parts, or_from, or_left, or_right, not_from_true, not_from_false, eq-eqb}
use Rattle.std.proofs.lemmas.Bool.Decides.{nat_tests}
use Rattle.std.proofs.lemmas.List.Elements.{filter-append, filter_passes, recursion_from_All}
use Rattle.std.proofs.lemmas.List.Folds.{list_any-append}
use Rattle.std.specs.List.{AllByRecursion, list_any}
use Rattle.uplink_frame.specs.Station.{same_flag, same_station}
use Rattle.uplink_frame.specs.Laws.{StationsAreTold}
use Rattle.list_members.specs.Each.{AllByRecursion-front, AllByRecursion-back, AllByRecursion-weaker, filter_all, filter_none}
use Rattle.ground_core.specs.Item.{Item, Segment, same_item, same_segment}
use Rattle.ground_core.specs.Airing.{Touch, is_touched, last_touches, is_live, waiting_segments}
use Rattle.ground_core.proofs.ListLemmas.{filter_swap, filter-map, list_any-map}

-- the segments of a log, each at its last place
abbrev pub stands_in : List Segment → Segment → Bool
stands_in xs s = list_any (same_segment s) xs

abbrev pub last_places : List Segment → List Segment
last_places [] = []
last_places (s ∷ later) = cond (stands_in later s) (last_places later) (s ∷ last_places later)

abbrev pub touched_segments : List Touch → List Segment
touched_segments log = map (λ t. t.segment) log

touched_is : (log : List Touch) (s : Segment) → is_touched log s ≡ stands_in (touched_segments log) s
touched_is log s = sym (list_any-map (same_segment s) (λ (t : Touch). t.segment) log)

pub last_touches_are : (log : List Touch) → touched_segments (last_touches log) ≡ last_places (touched_segments log)
last_touches_are [] = refl
last_touches_are (t ∷ later) =
    let rest = last_touches_are later in
    let same = touched_is later t.segment in
    elim (cases_Bool (is_touched later t.segment)) [
      | inl u ↦ rw (u, (sym same ∙ u)) rest
      | inr f ↦ rw (f, (sym same ∙ f)) (ap (λ l. t.segment ∷ l) rest)
    ]

pub waiting_is : (all : List Item) (log : List Touch) (moment : ℕ)
    → waiting_segments all log moment ≡ filter (λ s. is_live all moment s.item) (last_places (touched_segments log))
waiting_is all log moment =
    sym (filter-map (λ s. is_live all moment s.item) (λ (t : Touch). t.segment) (last_touches log))
    ∙ ap (filter (λ s. is_live all moment s.item)) (last_touches_are log)

same_flag_comm : (a b : Bool) → same_flag a b ≡ same_flag b a
same_flag_comm true true = refl
same_flag_comm true false = refl
same_flag_comm false true = refl
same_flag_comm false false = refl

pub same_segment_comm : (a b : Segment) → same_segment a b ≡ same_segment b a
same_segment_comm a b = rw (same_flag_comm a.item.station.position_valid b.item.station.position_valid) (grind (arith, nat_tests))

pub same_segment_refl : StationsAreTold → (a : Segment) → same_segment a a ≡ true
same_segment_refl told a =
    and_from (same_item a.item a.item) (a.number == a.number)
    (and_from (same_station a.item.station a.item.station) (a.item.serial == a.item.serial)
    ((told a.item.station a.item.station).1 refl) (eq-eqb _ _ refl)) (eq-eqb _ _ refl)

pub stands_in-append : (xs ys : List Segment) (s : Segment) → stands_in (xs ++ ys) s ≡ (stands_in xs s || stands_in ys s)
stands_in-append xs ys s = list_any-append (same_segment s) xs ys

-- each segment of a list stands there once
abbrev pub Once : List Segment → Type 0
Once [] = Unit {0}
Once (s ∷ more) = (stands_in more s ≡ false) × Once more

-- what does not stand in a list does not stand in a part of it
stands_in-filter : (p : Segment → Bool) (xs : List Segment) (s : Segment) → stands_in xs s ≡ false → stands_in (filter p xs) s ≡ false
stands_in-filter p [] s h = refl
stands_in-filter p (x ∷ xs) s h =
    let rest = stands_in-filter p xs s (or_parts (same_segment s x) (stands_in xs s) h).1 in
    elim (cases_Bool (p x)) [
      | inl t ↦ rw t (or_from (same_segment s x) (stands_in (filter p xs) s) (or_parts (same_segment s x) (stands_in xs s) h).0 rest)
      | inr f ↦ rw f rest
    ]

stands_in-last_places : (xs : List Segment) (s : Segment) → stands_in xs s ≡ false → stands_in (last_places xs) s ≡ false
stands_in-last_places [] s h = refl
stands_in-last_places (x ∷ xs) s h =
    let rest = stands_in-last_places xs s (or_parts (same_segment s x) (stands_in xs s) h).1 in
    elim (cases_Bool (stands_in xs x)) [
      | inl t ↦ rw t rest
      | inr f ↦ rw f (or_from (same_segment s x) (stands_in (last_places xs) s) (or_parts (same_segment s x) (stands_in xs s) h).0 rest)
    ]

pub Once-last_places : (xs : List Segment) → Once (last_places xs)
Once-last_places [] = tt
Once-last_places (x ∷ xs) = elim (cases_Bool (stands_in xs x)) [
  | inl t ↦ rw t (Once-last_places xs)
  | inr f ↦ rw f (stands_in-last_places xs x f, Once-last_places xs)
]

pub Once-filter : (p : Segment → Bool) (xs : List Segment) → Once xs → Once (filter p xs)
Once-filter p [] h = tt
Once-filter p (x ∷ xs) h = elim (cases_Bool (p x)) [
  | inl t ↦ rw t (stands_in-filter p xs x h.0, Once-filter p xs h.1)
  | inr f ↦ rw f (Once-filter p xs h.1)
]

Once-front : (xs ys : List Segment) → Once (xs ++ ys) → Once xs
Once-front [] ys h = tt
Once-front (x ∷ xs) ys h = ((or_parts (stands_in xs x) (stands_in ys x) (rw (stands_in-append xs ys x) at h.0)).0, Once-front xs ys h.1)

-- a list where each stands once is its own order of last places
pub last_places_once : (xs : List Segment) → Once xs → last_places xs ≡ xs
last_places_once [] h = refl
last_places_once (x ∷ xs) h = rw h.0 (ap (λ l. x ∷ l) (last_places_once xs h.1))

-- of a log that goes on, what stands in the new part stands there last
pub last_places-append : (xs ys : List Segment) → last_places (xs ++ ys) ≡ filter (λ s. not (stands_in ys s)) (last_places xs) ++ last_places ys
last_places-append [] ys = refl
last_places-append (x ∷ xs) ys =
    let rest = last_places-append xs ys in
    rw (stands_in-append xs ys x) (elim (cases_Bool (stands_in xs x)) [
      | inl t ↦ rw t rest
      | inr f ↦ rw f (elim (cases_Bool (stands_in ys x)) [
        | inl u ↦ rw u rest
        | inr g ↦ rw g (ap (λ l. x ∷ l) rest)
      ])
    ])

-- none of these segments stands in a list in which each of them is other than each of its own
other_than : (s : Segment) (xs : List Segment) → stands_in xs s ≡ false → AllByRecursion (λ x. same_segment x s ≡ false) xs
other_than s [] h = tt
other_than s (x ∷ xs) h =
    (same_segment_comm x s ∙ (or_parts (same_segment s x) (stands_in xs s) h).0, other_than s xs (or_parts (same_segment s x) (stands_in xs s) h).1)

-- what stands behind a front is not in the front
behind_front : (xs ys : List Segment) → Once (xs ++ ys) → AllByRecursion (λ s. stands_in xs s ≡ false) ys
behind_front [] ys h = every ys where
  every : (ys : List Segment) → AllByRecursion (λ s. stands_in [] s ≡ false) ys
  every [] = tt
  every (y ∷ ys) = (refl, every ys)
behind_front (x ∷ xs) ys h =
    both ys (AllByRecursion-back _ xs ys (other_than x (xs ++ ys) h.0)) (behind_front xs ys h.1) where
      both : (ys : List Segment) → AllByRecursion (λ s. same_segment s x ≡ false) ys → AllByRecursion (λ s. stands_in xs s ≡ false) ys → AllByRecursion (λ s. stands_in (x ∷ xs) s ≡ false) ys
      both [] u v = tt
      both (y ∷ ys) u v = (or_from (same_segment y x) (stands_in xs y) u.0 v.0, both ys u.1 v.1)

each_stands : StationsAreTold → (xs : List Segment) → AllByRecursion (λ s. stands_in xs s ≡ true) xs
each_stands told [] = tt
each_stands told (x ∷ xs) =
    (or_left (same_segment x x) (stands_in xs x) (same_segment_refl told x), AllByRecursion-weaker _ _ (λ s h. or_right (same_segment s x) (stands_in xs s) h) xs (each_stands told xs))

-- a turn of a front that is aired
pub front-turned : StationsAreTold → (p : Segment → Bool) (xs front rest : List Segment) → filter p (last_places xs) ≡ front ++ rest → filter p (last_places (xs ++ front)) ≡ rest ++ front
front-turned told p xs front rest h =
    let once : Once (front ++ rest) = subst Once h (Once-filter p (last_places xs) (Once-last_places xs)) in
    let passing : AllByRecursion (λ s. p s ≡ true) (front ++ rest) = subst (AllByRecursion (λ s. p s ≡ true)) h
    (recursion_from_All (λ s. p s ≡ true) (filter p (last_places xs)) (filter_passes p (last_places xs))) in
    let off : Segment → Bool = λ s. not (stands_in front s) in
    let places : last_places (xs ++ front) ≡ filter off (last_places xs) ++ front
    = last_places-append xs front ∙ ap (λ l. filter off (last_places xs) ++ l) (last_places_once front (Once-front front rest once)) in
    let none : filter off front ≡ [] = filter_none off front (AllByRecursion-weaker _ _ (λ s k. not_from_true (stands_in front s) k) front (each_stands told front)) in
    let all : filter off rest ≡ rest = filter_all off rest (AllByRecursion-weaker _ _ (λ s k. not_from_false (stands_in front s) k) rest (behind_front front rest once)) in
    let left : filter p (filter off (last_places xs)) ≡ rest
    = filter_swap p off (last_places xs) ∙ ap (filter off) h ∙ filter-append off front rest ∙ ap (λ l. l ++ filter off rest) none ∙ all in
    ap (filter p) places ∙ filter-append p (filter off (last_places xs)) front ∙ ap (λ l. l ++ filter p front) left
    ∙ ap (λ l. rest ++ l) (filter_all p front (AllByRecursion-front _ front rest passing))

-- segments that are given stand behind all others
pub given_last : (xs : List Segment) (s : Segment) → AllByRecursion (λ x. same_segment x s ≡ false) (last_places xs) → last_places (xs ++ s ∷ []) ≡ last_places xs ++ s ∷ []
given_last xs s h = last_places-append xs (s ∷ [])
    ∙ ap (λ l. l ++ s ∷ []) (filter_all (λ x. not (stands_in (s ∷ []) x)) (last_places xs) (AllByRecursion-weaker _ _ (λ x k. not_from_false (stands_in (s ∷ []) x) (or_from (same_segment x s) false k refl)) (last_places xs) h))
