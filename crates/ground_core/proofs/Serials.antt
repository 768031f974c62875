-- Items are numbered by their place, and what is logged are segments of items that were given.
use Rattle.std.proofs.Common.{◌≡◌, ℕ, ◌+◌, ◌-◌, ◌<◌, ◌≤◌, Bool, true, false, not, ◌&&◌, ◌==◌, nat_lt, nat_le, if◌then◌else◌, List, [], ◌∷◌, ◌++◌, length, map, flat_map, Option, Some, None, refl, sym, ap, subst, ◌∙◌, inl, inr, arith, length-append}
use Rattle.std.specs.List.{AllByRecursion, list_any}
use Rattle.std.proofs.Math.Bool.{and-false}
use Rattle.std.proofs.lemmas.Bool.{cases_Bool, lt-ltb}
use Rattle.std.proofs.lemmas.Bool.Decides.{nat_tests}
use Rattle.std.proofs.lemmas.List.{map-append}
use Rattle.list_members.specs.Each.{AllByRecursion-append, AllByRecursion-weaker}
use Rattle.list_members.specs.Membership.{IsIn}
use Rattle.list_members.specs.Members.{IsIn-before, IsIn-after}
use Rattle.list_members.specs.ListMembers.{in_flat_map, in_any}
use Rattle.life_table.specs.LifeTable.{LifeTable}
use Rattle.uplink_frame.specs.declared.station.StationId.{StationId}
use Rattle.picture_core.specs.Key.{Key, same_key}
use Rattle.picture_core.specs.Entry.{Entry}
use Rattle.uplink_frame.specs.UplinkFrame.{frame_room}
use Rattle.list_members.specs.Ranges.{list_any_same}
use Rattle.ground_core.specs.Item.{Weather, Item, Segment, segments_of, end_of, room_of}
use Rattle.ground_core.specs.History.{Event, accepted, fill, items, new_items, items_made, item_of}
use Rattle.ground_core.specs.Update.{Update, weather_of}
use Rattle.ground_core.specs.Airing.{Touch, touch, log, airing, waiting_segments, longest_fitting, has_key, is_newest_for, is_live}
use Rattle.ground_core.specs.Piece.{Latest, piece_of, lives_as, live_by}
use Rattle.ground_core.specs.StandsFor.{latest_after, latest_of, latest_of_item}
use Rattle.ground_core.proofs.KeyLemmas.{KeyLaws}
use Rattle.ground_core.proofs.ListLemmas.{AllByRecursion-filter, AllByRecursion-in, list_any-map}
use Rattle.ground_core.proofs.Segments.{is_segment_of}
use Rattle.ground_core.proofs.Order.{last_places, touched_segments, stands_in, waiting_is}

abbrev pub Numbered : ℕ → List Item → Type 0
Numbered n [] = Unit {0}
Numbered n (item ∷ more) = (item.serial ≡ n) × Numbered (n + 1) more

pub Numbered-append : (n : ℕ) (xs ys : List Item) → Numbered n xs → Numbered (n + length xs) ys → Numbered n (xs ++ ys)
Numbered-append n [] ys h k = let e : n + 0 ≡ n = omega arith in subst (λ m. Numbered m ys) e k
Numbered-append n (x ∷ xs) ys h k = let e : n + length (x ∷ xs) ≡ (n + 1) + length xs = omega arith in
    (h.0, Numbered-append (n + 1) xs ys h.1 (subst (λ m. Numbered m ys) e k))

pub numbered_made : (table : LifeTable) (station : StationId) (moment : ℕ) (before : List Item) (ws : List Weather)
    → Numbered (length before) (items_made table station moment before ws)
numbered_made table station moment before [] = tt
numbered_made table station moment before (w ∷ more) =
    let item : Item = item_of table station moment before w in (
      refl,
      subst (λ n. Numbered n (items_made table station moment (before ++ item ∷ []) more)) (length-append before (item ∷ []))
          (numbered_made table station moment (before ++ item ∷ []) more),
    )

pub numbered_items : (table : LifeTable) (station : StationId) (history : List Event) → Numbered 0 (items table station history)
numbered_items table station [] = tt
numbered_items table station (accepted moment update ∷ past) =
    let before : List Item = items table station past in
    let e : 0 + length before ≡ length before = omega arith in
    Numbered-append 0 before _ (numbered_items table station past)
    (subst (λ n. Numbered n (items_made table station moment before (weather_of table update))) (sym e) (numbered_made table station moment before (weather_of table update)))
numbered_items table station (fill moment slot ∷ past) = Numbered-append 0 (items table station past) [] (numbered_items table station past) tt

pub serial_in : (n : ℕ) (xs : List Item) (x : Item) → Numbered n xs → IsIn x xs → (n ≤ x.serial) × (x.serial < n + length xs)
serial_in n [] x h i = absurd i
serial_in n (y ∷ ys) x h i = elim i [
  | inl e ↦ (let s : x.serial ≡ n = ap (λ (z : Item). z.serial) e ∙ h.0 in (omega arith, omega arith))
  | inr k ↦ (let both = serial_in (n + 1) ys x h.1 k in (omega (arith, both.0), omega (arith, both.1)))
]

-- what was given
pub record IsLogged (all : List Item) (s : Segment) : Type 0 where
  pub item : IsIn s.item all
  pub of_item : IsIn s (segments_of s.item)

pub logged_more : (all more : List Item) (s : Segment) → IsLogged all s → IsLogged (all ++ more) s
logged_more all more s h = record { item = IsIn-before s.item all more h.item; of_item = h.of_item }

pub logged_new : (all new : List Item) → AllByRecursion (IsLogged (all ++ new)) (flat_map segments_of new)
logged_new all new = AllByRecursion-in _ (flat_map segments_of new) (λ s i.
    let w = in_flat_map segments_of s new i in
    let same : s.item ≡ w.0 = (is_segment_of w.0 s w.2).item_is in
    record {
      item = IsIn-after s.item all new (subst (λ x. IsIn x new) (sym same) w.1);
      of_item = subst (λ x. IsIn s (segments_of x)) (sym same) w.2;
    })

pub segments_of_touches :
    (is_airing : Bool) (moment : ℕ) (xs : List Segment) → touched_segments (map (touch is_airing moment) xs) ≡ xs
segments_of_touches is_airing moment [] = refl
segments_of_touches is_airing moment (x ∷ xs) = ap (λ l. x ∷ l) (segments_of_touches is_airing moment xs)

pub AllByRecursion-last_places : (P : Segment → Type 0) (xs : List Segment) → AllByRecursion P xs → AllByRecursion P (last_places xs)
AllByRecursion-last_places P [] h = tt
AllByRecursion-last_places P (x ∷ xs) h = elim (cases_Bool (stands_in xs x)) [
  | inl t ↦ rw t (AllByRecursion-last_places P xs h.1)
  | inr f ↦ rw f (h.0, AllByRecursion-last_places P xs h.1)
]

pub AllByRecursion-fitting : (P : Segment → Type 0) (room : ℕ) (xs : List Segment) → AllByRecursion P xs → AllByRecursion P (longest_fitting room xs)
AllByRecursion-fitting P room [] h = tt
AllByRecursion-fitting P room (x ∷ xs) h = elim (cases_Bool (nat_le (room_of x) room)) [
  | inl t ↦ rw t (h.0, AllByRecursion-fitting P (room - room_of x) xs h.1)
  | inr f ↦ rw f tt
]

-- the segments that an event adds
pub log_given : (table : LifeTable) (station : StationId) (past : List Event) (moment : ℕ) (update : Update)
    → touched_segments (log table station (accepted moment update ∷ past))
    ≡ touched_segments (log table station past) ++ flat_map segments_of (new_items table station (items table station past) (accepted moment update))
log_given table station past moment update =
    let new : List Segment = flat_map segments_of (new_items table station (items table station past) (accepted moment update)) in
    map-append (λ (t : Touch). t.segment) (log table station past) (map (touch false moment) new)
    ∙ ap (λ l. touched_segments (log table station past) ++ l) (segments_of_touches false moment new)

pub log_filled : (table : LifeTable) (station : StationId) (past : List Event) (moment slot : ℕ)
    → touched_segments (log table station (fill moment slot ∷ past))
    ≡ touched_segments (log table station past) ++ airing (items table station past) (log table station past) moment
log_filled table station past moment slot =
    let new : List Segment = airing (items table station past) (log table station past) moment in
    map-append (λ (t : Touch). t.segment) (log table station past) (map (touch true moment) new)
    ∙ ap (λ l. touched_segments (log table station past) ++ l) (segments_of_touches true moment new)

pub AllByRecursion-waiting : (P : Segment → Type 0) (all : List Item) (touched : List Touch) (moment : ℕ) → AllByRecursion P (touched_segments touched) → AllByRecursion P (waiting_segments all touched moment)
AllByRecursion-waiting P all touched moment h = subst (AllByRecursion P) (sym (waiting_is all touched moment))
    (AllByRecursion-filter P (λ s. is_live all moment s.item) _ (AllByRecursion-last_places P (touched_segments touched) h))

pub segments-logged : (table : LifeTable) (station : StationId) (history : List Event)
    → AllByRecursion (IsLogged (items table station history)) (touched_segments (log table station history))
segments-logged table station [] = tt
segments-logged table station (accepted moment update ∷ past) =
    let all : List Item = items table station past in
    let new : List Item = new_items table station all (accepted moment update) in
    subst (AllByRecursion (IsLogged (all ++ new))) (sym (log_given table station past moment update))
    (AllByRecursion-append _ (touched_segments (log table station past)) (flat_map segments_of new)
    (AllByRecursion-weaker _ _ (logged_more all new) _ (segments-logged table station past)) (logged_new all new))
segments-logged table station (fill moment slot ∷ past) =
    let all : List Item = items table station past in
    let before = segments-logged table station past in
    subst (AllByRecursion (IsLogged (all ++ []))) (sym (log_filled table station past moment slot))
    (AllByRecursion-weaker _ _ (logged_more all []) _
    (AllByRecursion-append _ (touched_segments (log table station past)) _ before
    (AllByRecursion-fitting _ frame_room _ (AllByRecursion-waiting _ all (log table station past) moment before))))

abbrev has_serial : ℕ → Option Latest → Bool
has_serial serial None = false
has_serial serial (Some latest) = latest.serial == serial

-- the last item with a key has the serial of an item that has the key exactly where no later one has it
other_serial : (s n : ℕ) (key : Key) (later : List Item) (before : Option Latest) → s < n → Numbered n later → has_serial s before ≡ false
    → has_serial s (latest_after key later before) ≡ false
other_serial s n key [] before lt h e = e
other_serial s n key (o ∷ more) before lt h e =
    other_serial s (n + 1) key more (if has_key key o then Some (latest_of_item o) else before) (omega arith) h.1
    (elim (cases_Bool (has_key key o)) [
      | inl t ↦ rw t (rw h.0 (grind (arith, nat_tests)))
      | inr f ↦ rw f e
    ])

abbrev is_later : ℕ → Key → Item → Bool
is_later s key other = nat_lt s other.serial && has_key key other

after_it : (s n : ℕ) (key : Key) (later : List Item) (before : Option Latest) → s < n → Numbered n later → has_serial s before ≡ true
    → has_serial s (latest_after key later before) ≡ not (list_any (is_later s key) later)
after_it s n key [] before lt h e = e
after_it s n key (o ∷ more) before lt h e =
    let later : nat_lt s o.serial ≡ true = rw h.0 (lt-ltb s n lt) in
    elim (cases_Bool (has_key key o)) [
      | inl t ↦ rw (later, t) (other_serial s (n + 1) key more (Some (latest_of_item o)) (omega arith) h.1 (rw h.0 (grind (arith, nat_tests))))
      | inr f ↦ rw (later, f) (after_it s (n + 1) key more before (omega arith) h.1 e)
    ]

pub latest_is : (n : ℕ) (key : Key) (all : List Item) (before : Option Latest) (item : Item) → Numbered n all → IsIn item all → has_key key item ≡ true
    → has_serial item.serial (latest_after key all before) ≡ not (list_any (is_later item.serial key) all)
latest_is n key [] before item h i k = absurd i
latest_is n key (o ∷ more) before item h i k = elim i [
  | inl e ↦ (
      let own : has_key key o ≡ true = subst (λ (z : Item). has_key key z ≡ true) e k in
      let s : item.serial ≡ n = ap (λ (z : Item). z.serial) e ∙ h.0 in
      let head : nat_lt item.serial o.serial ≡ false = rw (s, h.0) (grind (arith, nat_tests)) in
      rw (own, head) (after_it item.serial (n + 1) key more (Some (latest_of_item o)) (omega arith) h.1 (rw (s, h.0) (grind (arith, nat_tests)))))
  | inr j ↦ (
      let above = (serial_in (n + 1) more item h.1 j).0 in
      let head : nat_lt item.serial o.serial ≡ false = rw h.0 (grind (arith, nat_tests)) in
      rw head (latest_is (n + 1) key more (if has_key key o then Some (latest_of_item o) else before) item h.1 j k))
]

-- the item of a serial has one end
abbrev EndsAs : ℕ → ℕ → Option Latest → Type 0
EndsAs serial until None = Unit {0}
EndsAs serial until (Some latest) = latest.serial ≡ serial → latest.until ≡ until

ends_as : (serial until : ℕ) (key : Key) (all : List Item) (before : Option Latest)
    → AllByRecursion (λ o. o.serial ≡ serial → end_of o.weather ≡ until) all → EndsAs serial until before → EndsAs serial until (latest_after key all before)
ends_as serial until key [] before h e = e
ends_as serial until key (o ∷ more) before h e =
    ends_as serial until key more (if has_key key o then Some (latest_of_item o) else before) h.1
    (elim (cases_Bool (has_key key o)) [ inl t ↦ rw t h.0 | inr f ↦ rw f e ])

lives_split : (moment serial until : ℕ) (latest : Option Latest) → EndsAs serial until latest
    → lives_as moment serial latest ≡ (nat_lt moment until && has_serial serial latest)
lives_split moment serial until None h = sym (and-false (nat_lt moment until))
lives_split moment serial until (Some latest) h = elim (cases_Bool (latest.serial == serial)) [
  | inl t ↦ ap (λ n. nat_lt moment n && (latest.serial == serial)) (h (grind (arith, nat_tests)))
  | inr f ↦ rw f (and-false (nat_lt moment latest.until) ∙ sym (and-false (nat_lt moment until)))
]

any_and : {X : Type 0} (b : Bool) (p : X → Bool) (xs : List X) → list_any (λ x. b && p x) xs ≡ (b && list_any p xs)
any_and true p xs = refl
any_and false p [] = refl
any_and false p (x ∷ xs) = any_and false p xs

one_serial : (n : ℕ) (xs : List Item) (x y : Item) → Numbered n xs → IsIn x xs → IsIn y xs → x.serial ≡ y.serial → x ≡ y
one_serial n [] x y h i j e = absurd i
one_serial n (z ∷ zs) x y h i j e = elim i [
  | inl a ↦ elim j [
    | inl b ↦ a ∙ sym b
    | inr d ↦ (
        let above = (serial_in (n + 1) zs y h.1 d).0 in
        let s : x.serial ≡ n = ap (λ (w : Item). w.serial) a ∙ h.0 in
        absurd (omega arith))
  ]
  | inr c ↦ elim j [
    | inl b ↦ (
        let above = (serial_in (n + 1) zs x h.1 c).0 in
        let s : y.serial ≡ n = ap (λ (w : Item). w.serial) b ∙ h.0 in
        absurd (omega arith))
    | inr d ↦ one_serial (n + 1) zs x y h.1 c d e
  ]
]

-- so the last serials of its keys tell whether an item is live
pub live_same : KeyLaws → (all : List Item) (moment : ℕ) (s : Segment) → Numbered 0 all → IsIn s.item all
    → live_by (latest_of all) moment (piece_of s) ≡ is_live all moment s.item
live_same keys all moment s h i =
    let until : ℕ = end_of s.item.weather in
    let ends = AllByRecursion-in (λ o. o.serial ≡ s.item.serial → end_of o.weather ≡ until) all (λ o j e.
    ap (λ (x : Item). end_of x.weather) (one_serial 0 all o s.item h j i e)) in
    list_any-map (λ key. lives_as moment s.item.serial (latest_of all key)) (λ (entry : Entry). entry.key) s.item.weather.entries
    ∙ list_any_same _ (λ entry. nat_lt moment until && is_newest_for all s.item entry.key) s.item.weather.entries
    (λ entry j.
    lives_split moment s.item.serial until (latest_of all entry.key) (ends_as s.item.serial until entry.key all None ends tt)
    ∙ ap (λ b. nat_lt moment until && b)
    (latest_is 0 entry.key all None s.item h i (in_any (λ e. same_key entry.key e.key) entry s.item.weather.entries j ((keys.same entry.key entry.key).1 refl))))
    ∙ any_and (nat_lt moment until) (λ entry. is_newest_for all s.item entry.key) s.item.weather.entries

pub latest_push : (key : Key) (xs : List Item) (item : Item) (before : Option Latest)
    → latest_after key (xs ++ item ∷ []) before ≡ (if has_key key item then Some (latest_of_item item) else latest_after key xs before)
latest_push key [] item before = refl
latest_push key (x ∷ xs) item before = latest_push key xs item (if has_key key x then Some (latest_of_item x) else before)

pub latest_after-append : (key : Key) (xs ys : List Item) (before : Option Latest)
    → latest_after key (xs ++ ys) before ≡ latest_after key ys (latest_after key xs before)
latest_after-append key [] ys before = refl
latest_after-append key (x ∷ xs) ys before = latest_after-append key xs ys (if has_key key x then Some (latest_of_item x) else before)
