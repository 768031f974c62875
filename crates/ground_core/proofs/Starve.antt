-- A segment that waits comes nearer to the front with each fill.
use Rattle.std.proofs.Common.{◌≡◌, ℕ, ◌+◌, ◌-◌, ◌*◌, ◌/◌, ◌<◌, ◌≤◌, ◌⊎◌, Bool, true, nat_lt, nat_le, cond, if◌then◌else◌, List, [], ◌∷◌, ◌++◌, length, filter, flat_map, refl, sym, ap, subst, ◌∙◌, inl, inr, arith, append_assoc}
use Rattle.std.specs.List.{AllByRecursion}
use Rattle.std.proofs.lemmas.Bool.{cases_Bool, leb-true, leb-false, le-leb, lt-ltb, ltb-true, and_parts, and_from}
use Rattle.std.proofs.lemmas.List.Elements.{filter-append}
use Rattle.list_members.specs.Each.{AllByRecursion-weaker, AllByRecursion-at}
use Rattle.list_members.specs.Membership.{IsIn}
use Rattle.list_members.specs.Members.{IsIn-before, IsIn-after, IsIn-from_filter}
use Rattle.list_members.specs.ListMembers.{heads}
use Rattle.life_table.specs.LifeTable.{LifeTable}
use Rattle.uplink_frame.specs.declared.station.StationId.{StationId}
use Rattle.uplink_frame.specs.Laws.{StationsAreTold}
use Rattle.segment_core.specs.Cutting.{PartsFitFrames}
use Rattle.ground_core.specs.Item.{Item, Segment, room_of, segments_of, file_of, end_of}
use Rattle.ground_core.specs.Update.{Update}
use Rattle.ground_core.specs.Piece.{piece_of}
use Rattle.ground_core.specs.History.{Event, accepted, fill, event_moment, items}
use Rattle.ground_core.specs.Airing.{log, longest_fitting, is_live}
use Rattle.ground_core.specs.Broadcast.{IsHistory, IsNotBeforeLast}
use Rattle.ground_core.specs.Starving.{bytes_of, waiting_after, fills, WaitsStill, AreFrom, NoStarvation}
use Rattle.ground_core.proofs.KeyLemmas.{KeyLaws}
use Rattle.list_members.specs.Each.{AllByRecursion-all, filter_less}
use Rattle.ground_core.proofs.Order.{last_places, touched_segments, waiting_is}
use Rattle.ground_core.proofs.Serials.{Numbered, numbered_items, serial_in, IsLogged, segments-logged, logged_more, AllByRecursion-waiting, live_same}
use Rattle.ground_core.proofs.Segments.{is_segment_of}
use Rattle.ground_core.proofs.Queue.{segments_left, fitting_left, waiting_filled, older_lives_all, logged_places, made_items, numbered_new, order_given}

abbrev head_bytes : List Segment → ℕ
head_bytes [] = 0
head_bytes (s ∷ more) = room_of s

bytes-append : (xs ys : List Segment) → bytes_of (xs ++ ys) ≡ bytes_of xs + bytes_of ys
bytes-append [] ys = let none_more : bytes_of ys ≡ 0 + bytes_of ys = omega arith in none_more
bytes-append (x ∷ xs) ys = let rest = bytes-append xs ys in omega arith

bytes-filter : (p : Segment → Bool) (xs : List Segment) → bytes_of (filter p xs) ≤ bytes_of xs
bytes-filter p [] = omega arith
bytes-filter p (x ∷ xs) = let rest = bytes-filter p xs in elim (cases_Bool (p x)) [
  | inl t ↦ rw t (omega arith)
  | inr f ↦ rw f (omega arith)
]

-- what is dropped counts twice, the head once
head-filter : (p : Segment → Bool) (xs : List Segment) → 2 * bytes_of (filter p xs) + head_bytes xs ≤ 2 * bytes_of xs + head_bytes (filter p xs)
head-filter p [] = omega arith
head-filter p (x ∷ xs) = let rest = bytes-filter p xs in elim (cases_Bool (p x)) [
  | inl t ↦ rw t (omega arith)
  | inr f ↦ rw f (omega arith)
]

-- after so many fills, of so many bytes at first
abbrev IsNear : ℕ → ℕ → List Segment → Type 0
IsNear count bytes before = (425 * count + 2 * bytes_of before ≤ 2 * bytes + head_bytes before)
    ⊎ ((before ≡ []) × (425 * count ≤ 2 * bytes + 425))

record IsPlaced (count bytes : ℕ) (s : Segment) (line : List Segment) : Type 0 where
  before : List Segment
  after : List Segment
  line_is : line ≡ before ++ s ∷ after
  near : IsNear count bytes before

near-filter : (count bytes : ℕ) (p : Segment → Bool) (before : List Segment) → IsNear count bytes before → IsNear count bytes (filter p before)
near-filter count bytes p before h = elim h [
  | inl a ↦ (let less = head-filter p before in inl (omega arith))
  | inr b ↦ inr (ap (filter p) b.0, b.1)
]

placed-filter : (count bytes : ℕ) (s : Segment) (p : Segment → Bool) (line : List Segment) → p s ≡ true → IsPlaced count bytes s line → IsPlaced count bytes s (filter p line)
placed-filter count bytes s p line t h = record {
  before = filter p h.before;
  after = filter p h.after;
  line_is = ap (filter p) h.line_is ∙ filter-append p h.before (s ∷ h.after) ∙ ap (λ b. filter p h.before ++ cond b (s ∷ filter p h.after) (filter p h.after)) t;
  near = near-filter count bytes p h.before h.near;
}

placed-more : (count bytes : ℕ) (s : Segment) (line more : List Segment) → IsPlaced count bytes s line → IsPlaced count bytes s (line ++ more)
placed-more count bytes s line more h = record {
  before = h.before;
  after = h.after ++ more;
  line_is = ap (λ l. l ++ more) h.line_is ∙ append_assoc h.before (s ∷ h.after) more;
  near = h.near;
}

-- the front of a list that does not have an element is a front of what stands before it
record IsFront (front rest before : List Segment) (s : Segment) (after : List Segment) : Type 0 where
  between : List Segment
  before_is : before ≡ front ++ between
  rest_is : rest ≡ between ++ s ∷ after

front_before : (front rest before : List Segment) (s : Segment) (after : List Segment) → before ++ s ∷ after ≡ front ++ rest → (IsIn s front → ⊥) → IsFront front rest before s after
front_before [] rest before s after e absent = record { between = before; before_is = refl; rest_is = sym e }
front_before (x ∷ front) rest [] s after e absent = absurd (absent (inl (heads s x after (front ++ rest) e).0))
front_before (x ∷ front) rest (b ∷ before) s after e absent =
    let both = heads b x (before ++ s ∷ after) (front ++ rest) e in
    let f = front_before front rest before s after both.1 (λ i. absent (inr i)) in
    record {
      between = f.between;
      before_is = ap (λ z. z ∷ before) both.0 ∙ ap (λ l. x ∷ l) f.before_is;
      rest_is = f.rest_is;
    }

-- what stands behind a front that fits does not fit with it
left_over : (room : ℕ) (xs : List Segment) (y : Segment) (more : List Segment) → segments_left room xs ≡ y ∷ more → room < bytes_of (longest_fitting room xs) + room_of y
left_over room [] y more e = absurd (cc)
left_over room (x ∷ xs) y more e = elim (cases_Bool (nat_le (room_of x) room)) [
  | inl t ↦ (
      let rest = left_over (room - room_of x) xs y more (ap (λ b. if b then segments_left (room - room_of x) xs else x ∷ xs) (sym t) ∙ e) in
      let within = leb-true (room_of x) room t in
      rw t (omega arith))
  | inr f ↦ (
      let both = heads x y xs more (ap (λ b. if b then segments_left (room - room_of x) xs else x ∷ xs) (sym f) ∙ e) in
      let above = leb-false (room_of x) room f in
      let same : room_of x ≡ room_of y = ap room_of both.0 in
      rw f (omega arith))
]

head_fits : (room : ℕ) (x : Segment) (xs : List Segment) → room_of x ≤ room → longest_fitting room (x ∷ xs) ≡ x ∷ longest_fitting (room - room_of x) xs
head_fits room x xs le = ap (λ b. if b then x ∷ longest_fitting (room - room_of x) xs else []) (le-leb (room_of x) room le)

step_near : (count bytes : ℕ) (s : Segment) (front between before : List Segment) (after rest line : List Segment)
    → before ≡ front ++ between → rest ≡ between ++ s ∷ after → rest ≡ segments_left 424 line → front ≡ longest_fitting 424 line
    → 425 * count + 2 * bytes_of before ≤ 2 * bytes + head_bytes before → head_bytes before ≤ bytes_of front
    → IsNear (count + 1) bytes between
step_near count bytes s front [] before after rest line b r l f h k =
    let all : bytes_of before ≡ bytes_of front + 0 = ap bytes_of b ∙ bytes-append front [] in
    inr (refl, omega arith)
step_near count bytes s front (y ∷ between) before after rest line b r l f h k =
    let all : bytes_of before ≡ bytes_of front + (room_of y + bytes_of between) = ap bytes_of b ∙ bytes-append front (y ∷ between) in
    let over = left_over 424 line y (between ++ s ∷ after) (sym l ∙ r) in
    let same : bytes_of front ≡ bytes_of (longest_fitting 424 line) = ap bytes_of f in
    inl (omega arith)

nothing : (b : Segment) (before : List Segment) → b ∷ before ≡ [] → ⊥
nothing b before h = cc

-- a fill without the segment brings it nearer
placed-filled : (count bytes : ℕ) (s : Segment) (line : List Segment) → AllByRecursion (λ x. room_of x ≤ 424) line → (IsIn s (longest_fitting 424 line) → ⊥)
    → IsPlaced count bytes s line → IsPlaced (count + 1) bytes s (segments_left 424 line)
placed-filled count bytes s line fits absent h = go h.before refl where
  go : (before : List Segment) → before ≡ h.before → IsPlaced (count + 1) bytes s (segments_left 424 line)
  go [] e =
      let line_is : line ≡ s ∷ h.after = h.line_is ∙ ap (λ b. b ++ s ∷ h.after) (sym e) in
      let first = (subst (AllByRecursion (λ x. room_of x ≤ 424)) line_is fits).0 in
      absurd (absent (subst (λ l. IsIn s (longest_fitting 424 l)) (sym line_is) (subst (IsIn s) (sym (head_fits 424 s h.after first)) (inl refl))))
  go (b ∷ before) e =
      let line_is : line ≡ (b ∷ before) ++ s ∷ h.after = h.line_is ∙ ap (λ l. l ++ s ∷ h.after) (sym e) in
      let first = (subst (AllByRecursion (λ x. room_of x ≤ 424)) line_is fits).0 in
      let taken : longest_fitting 424 line ≡ b ∷ longest_fitting (424 - room_of b) (before ++ s ∷ h.after) = ap (longest_fitting 424) line_is ∙ head_fits 424 b (before ++ s ∷ h.after) first in
      let more : room_of b ≤ bytes_of (longest_fitting 424 line) = subst (λ l. room_of b ≤ bytes_of l) (sym taken) (omega arith) in
      let f = front_before (longest_fitting 424 line) (segments_left 424 line) (b ∷ before) s h.after (sym line_is ∙ fitting_left 424 line) absent in
      record {
        before = f.between;
        after = h.after;
        line_is = f.rest_is;
        near = elim (subst (IsNear count bytes) (sym e) h.near) [
          | inl a ↦ step_near count bytes s (longest_fitting 424 line) f.between (b ∷ before) h.after (segments_left 424 line) line f.before_is f.rest_is refl refl a more
          | inr n ↦ absurd (nothing b before n.0)
        ];
      }

at_least_head : (xs : List Segment) → head_bytes xs ≤ bytes_of xs
at_least_head [] = omega arith
at_least_head (x ∷ xs) = omega arith

few_fills : (count bytes : ℕ) (s : Segment) (line : List Segment) → IsPlaced (count + 1) bytes s line → 425 * count ≤ 2 * bytes
few_fills count bytes s line h = elim h.near [
  | inl a ↦ (let head = at_least_head h.before in omega arith)
  | inr b ↦ (let few = b.1 in omega arith)
]

-- each segment that was given fits a frame
fits_frame : PartsFitFrames → (all : List Item) (s : Segment) → IsLogged all s → room_of s ≤ 424
fits_frame fit all s h =
    let file = file_of s.item in
    let number = is_segment_of s.item s h.of_item in
    let fits = (fit file s.number number.least number.most).fits in
    omega (arith, fits)

rooms_fit : PartsFitFrames → (table : LifeTable) (station : StationId) (history : List Event) (moment : ℕ) → AllByRecursion (λ x. room_of x ≤ 424) (waiting_after table station history moment)
rooms_fit fit table station history moment = AllByRecursion-waiting (λ x. room_of x ≤ 424) (items table station history) (log table station history) moment
    (AllByRecursion-weaker _ _ (λ s h. fits_frame fit (items table station history) s h) (touched_segments (log table station history)) (segments-logged table station history))

live_earlier : (all : List Item) (clock moment : ℕ) (item : Item) → clock ≤ moment → is_live all moment item ≡ true → is_live all clock item ≡ true
live_earlier all clock moment item le h =
    let both = and_parts (nat_lt moment (end_of item.weather)) _ h in
    and_from (nat_lt clock (end_of item.weather)) _ (lt-ltb clock (end_of item.weather) (omega (arith, ltb-true moment (end_of item.weather) both.0))) both.1

-- at a later moment
waiting_later : (table : LifeTable) (station : StationId) (history : List Event) (clock moment : ℕ) → clock ≤ moment
    → waiting_after table station history moment ≡ filter (λ s. is_live (items table station history) moment s.item) (waiting_after table station history clock)
waiting_later table station history clock moment le =
    let all : List Item = items table station history in
    waiting_is all (log table station history) moment
    ∙ sym (filter_less (λ s. is_live all clock s.item) (λ s. is_live all moment s.item) (last_places (touched_segments (log table station history)))
    (AllByRecursion-all _ (λ s h. live_earlier all clock moment s.item le h) _))
    ∙ ap (filter (λ s. is_live all moment s.item)) (sym (waiting_is all (log table station history) clock))

-- an older item is live behind new ones only where it was live before
live_before : KeyLaws → (all new : List Item) (moment : ℕ) (s : Segment) → Numbered 0 all → Numbered (length all) new → Numbered 0 (all ++ new) → IsLogged all s
    → is_live (all ++ new) moment s.item ≡ true → is_live all moment s.item ≡ true
live_before keys all new moment s n k m h t =
    let b = serial_in 0 all s.item n h.item in
    sym (live_same keys all moment s n h.item)
    ∙ older_lives_all all new moment moment (piece_of s) k (omega arith) (omega (arith, b.1)) (live_same keys (all ++ new) moment s m (IsIn-before s.item all new h.item) ∙ t)

-- behind an update
waiting_given : KeyLaws → (table : LifeTable) (station : StationId) (history : List Event) (given moment : ℕ) (update : Update)
    → (more : List Segment) × (waiting_after table station (accepted given update ∷ history) moment
    ≡ filter (λ s. is_live (items table station (accepted given update ∷ history)) moment s.item) (waiting_after table station history moment) ++ more)
waiting_given keys table station history given moment update =
    let all : List Item = items table station history in
    let after : List Event = accepted given update ∷ history in
    let before : List Segment = touched_segments (log table station history) in
    let segments : List Segment = flat_map segments_of (made_items table station given history update) in
    let numbered = numbered_items table station history in
    let live : Segment → Bool = λ s. is_live (items table station after) moment s.item in
    let less : filter live (filter (λ s. is_live all moment s.item) (last_places before)) ≡ filter live (last_places before)
    = filter_less (λ s. is_live all moment s.item) live (last_places before)
    (AllByRecursion-weaker _ _ (λ s h. live_before keys all (made_items table station given history update) moment s numbered
    (numbered_new table station given history update) (numbered_items table station after) h) (last_places before) (logged_places table station history)) in (
      filter live segments,
      waiting_is (items table station after) (log table station after) moment
          ∙ ap (filter live) (order_given table station given history update) ∙ filter-append live (last_places before) segments
          ∙ ap (λ l. l ++ filter live segments) (sym less ∙ ap (filter live) (sym (waiting_is all (log table station history) moment))),
    )

abbrev IsLater : ℕ → ℕ → List Event → Type 0
IsLater at moment [] = at ≤ moment
IsLater at moment (event ∷ later) = event_moment event ≤ moment

later_more : (at now moment : ℕ) (past later : List Event) (event : Event) → event_moment event ≤ moment → IsNotBeforeLast (event_moment event) (later ++ past) → at ≤ event_moment event → IsLater at moment later
later_more at now moment past [] event le h f = omega arith
later_more at now moment past (e ∷ later) event le h f = omega arith

later_now : (at : ℕ) (past later : List Event) (event : Event) → IsNotBeforeLast (event_moment event) (later ++ past) → at ≤ event_moment event → IsLater at (event_moment event) later
later_now at past [] event h f = f
later_now at past (e ∷ later) event h f = h

logged_later : (table : LifeTable) (station : StationId) (past later : List Event) (s : Segment) → IsLogged (items table station past) s → IsLogged (items table station (later ++ past)) s
logged_later table station past [] s h = h
logged_later table station past (event ∷ later) s h = logged_more (items table station (later ++ past)) _ s (logged_later table station past later s h)

segment-placed : StationsAreTold → KeyLaws → PartsFitFrames → (table : LifeTable) (station : StationId) (past later : List Event) (at : ℕ) (s : Segment) (before after : List Segment)
    → IsHistory table station (later ++ past) → AreFrom at later → IsLogged (items table station past) s
    → waiting_after table station past at ≡ before ++ s ∷ after → WaitsStill table station past s later
    → (moment : ℕ) → IsLater at moment later → is_live (items table station (later ++ past)) moment s.item ≡ true
    → IsPlaced (fills later) (bytes_of before) s (waiting_after table station (later ++ past) moment)
segment-placed told keys fit table station past [] at s before after h f l e w moment le t =
    subst (IsPlaced 0 (bytes_of before) s) (sym (waiting_later table station past at moment le))
    (placed-filter 0 (bytes_of before) s _ (waiting_after table station past at) t (record { before = before; after = after; line_is = e; near = inl (omega arith) }))
segment-placed told keys fit table station past (accepted given update ∷ later) at s before after h f l e w moment le t =
    let history : List Event = later ++ past in
    let all : List Item = items table station history in
    let lived : is_live all moment s.item ≡ true
    = live_before keys all (made_items table station given history update) moment s (numbered_items table station history)
    (numbered_new table station given history update) (numbered_items table station (accepted given update ∷ history)) (logged_later table station past later s l) t in
    let g = waiting_given keys table station history given moment update in
    let old = segment-placed told keys fit table station past later at s before after h.1 f.1 l e w moment (later_more at given moment past later (accepted given update) le h.0.not_before f.0) lived in
    subst (IsPlaced (fills later) (bytes_of before) s) (sym g.1) (placed-more (fills later) (bytes_of before) s _ g.0 (placed-filter (fills later) (bytes_of before) s _ _ t old))
segment-placed told keys fit table station past (fill now slot ∷ later) at s before after h f l e w moment le t =
    let history : List Event = later ++ past in
    let all : List Item = items table station history in
    let line : List Segment = waiting_after table station history now in
    let lived : is_live all now s.item ≡ true
    = (IsIn-from_filter (λ x. is_live all now x.item) s _ (subst (IsIn s) (waiting_is all (log table station history) now) w.0)).1 in
    let old = segment-placed told keys fit table station past later at s before after h.1 f.1 l e w.2 now (later_now at past later (fill now slot) h.0.not_before f.0) lived in
    let new = placed-filled (fills later) (bytes_of before) s line (rooms_fit fit table station history now) w.1 old in
    subst (IsPlaced (fills later + 1) (bytes_of before) s) (sym (waiting_later table station (fill now slot ∷ history) now moment le))
    (placed-filter (fills later + 1) (bytes_of before) s _ _ t
    (subst (IsPlaced (fills later + 1) (bytes_of before) s) (sym (waiting_filled told table station history now slot)) (placed-more (fills later + 1) (bytes_of before) s (segments_left 424 line) _ new)))

few_left : (count bytes : ℕ) → 425 * count ≤ 2 * bytes → count + 1 < 2 * bytes / 425 + 2
few_left count bytes h = omega arith

run : StationsAreTold → KeyLaws → PartsFitFrames → (table : LifeTable) (station : StationId) (past later : List Event) (at : ℕ) (s : Segment) (before after : List Segment)
    → IsHistory table station (later ++ past) → AreFrom at later → IsLogged (items table station past) s
    → waiting_after table station past at ≡ before ++ s ∷ after → WaitsStill table station past s later
    → fills later < 2 * bytes_of before / 425 + 2
run told keys fit table station past [] at s before after h f l e w = omega arith
run told keys fit table station past (accepted given update ∷ later) at s before after h f l e w = run told keys fit table station past later at s before after h.1 f.1 l e w
run told keys fit table station past (fill now slot ∷ later) at s before after h f l e w =
    let history : List Event = later ++ past in
    let all : List Item = items table station history in
    let lived : is_live all now s.item ≡ true
    = (IsIn-from_filter (λ x. is_live all now x.item) s _ (subst (IsIn s) (waiting_is all (log table station history) now) w.0)).1 in
    let old = segment-placed told keys fit table station past later at s before after h.1 f.1 l e w.2 now (later_now at past later (fill now slot) h.0.not_before f.0) lived in
    let new = placed-filled (fills later) (bytes_of before) s (waiting_after table station history now) (rooms_fit fit table station history now) w.1 old in
    few_left (fills later) (bytes_of before) (few_fills (fills later) (bytes_of before) s _ new)

pub no_starvation : StationsAreTold → KeyLaws → PartsFitFrames → NoStarvation
no_starvation told keys fit table station past later at s before after h f e w =
    let here : IsIn s (waiting_after table station past at) = subst (IsIn s) (sym e) (IsIn-after s before (s ∷ after) (inl refl)) in
    let l = AllByRecursion-at _ (waiting_after table station past at) s (AllByRecursion-waiting _ (items table station past) (log table station past) at (segments-logged table station past)) here in
    run told keys fit table station past later at s before after h f l e w
