-- What is live of the queue is what waits: at a later moment, behind a frame that was filled, and behind an item that was given.
use Rattle.std.proofs.Common.{◌≡◌, ℕ, zero, suc, ◌+◌, ◌-◌, ◌<◌, ◌≤◌, Bool, true, false, not, ◌&&◌, ◌==◌, nat_lt, nat_le, if◌then◌else◌, List, [], ◌∷◌, ◌++◌, length, map, filter, flat_map, Option, Some, None, refl, sym, ap, subst, ◌∙◌, inl, inr, arith, append-nil, length-append}
use Rattle.std.specs.List.{AllByRecursion, range_with_len}
use Rattle.std.proofs.lemmas.Bool.{cases_Bool, lt-ltb, ltb-true, and_parts, and_from, and_right}
use Rattle.std.proofs.lemmas.Bool.Decides.{nat_tests}
use Rattle.std.proofs.lemmas.List.{map-append, append_assoc}
use Rattle.std.proofs.lemmas.List.Elements.{filter-append}
use Rattle.life_table.specs.LifeTable.{LifeTable}
use Rattle.uplink_frame.specs.declared.station.StationId.{StationId}
use Rattle.uplink_frame.specs.Station.{same_station}
use Rattle.uplink_frame.specs.Laws.{StationsAreTold}
use Rattle.picture_core.specs.Key.{Key}
use Rattle.list_members.specs.Each.{AllByRecursion-append, AllByRecursion-weaker, filter_same, filter_all}
use Rattle.ground_core.specs.Item.{Item, Segment, segments_of, segment_of, same_item, same_segment, room_of}
use Rattle.ground_core.specs.History.{Event, accepted, fill, items, new_items}
use Rattle.ground_core.specs.Update.{Update, weather_of}
use Rattle.ground_core.specs.Airing.{log, airing, waiting_segments, longest_fitting, is_live, has_key}
use Rattle.ground_core.specs.Piece.{Piece, Latest, piece_of, lives_as, live_by, fitting_pieces, left_pieces}
use Rattle.ground_core.specs.StandsFor.{latest_of, latest_of_item}
use Rattle.ground_core.proofs.KeyLemmas.{KeyLaws}
use Rattle.list_members.specs.Each.{AllByRecursion-all, filter_less}
use Rattle.ground_core.proofs.ListLemmas.{AllByRecursion-in, AllByRecursion-map, filter-map, list_any-weaker}
use Rattle.ground_core.proofs.Order.{last_places, touched_segments, stands_in, waiting_is, front-turned, Once, last_places-append, last_places_once}
use Rattle.ground_core.proofs.Segments.{is_segment_of}
use Rattle.ground_core.proofs.Serials.{Numbered, Numbered-append, numbered_items, numbered_made, serial_in, IsLogged, segments-logged, logged_more, logged_new, log_given, log_filled, AllByRecursion-last_places, live_same, latest_push}

-- the pieces of segments that were given are live where their items are
pub pieces_live : KeyLaws → (all : List Item) (moment : ℕ) (segments : List Segment) → Numbered 0 all → AllByRecursion (IsLogged all) segments
    → filter (live_by (latest_of all) moment) (map piece_of segments) ≡ map piece_of (filter (λ s. is_live all moment s.item) segments)
pieces_live keys all moment segments n h =
    filter-map (live_by (latest_of all) moment) piece_of segments
    ∙ ap (map piece_of) (filter_same _ (λ s. is_live all moment s.item) segments
    (AllByRecursion-weaker _ _ (λ s k. live_same keys all moment s n k.item) segments h))

abbrev pub places : LifeTable → StationId → List Event → List Segment
places table station history = last_places (touched_segments (log table station history))

pub logged_places : (table : LifeTable) (station : StationId) (history : List Event)
    → AllByRecursion (IsLogged (items table station history)) (places table station history)
logged_places table station history = AllByRecursion-last_places _ _ (segments-logged table station history)

pub waits_are : KeyLaws → (table : LifeTable) (station : StationId) (history : List Event) (moment : ℕ)
    → map piece_of (waiting_segments (items table station history) (log table station history) moment)
    ≡ filter (live_by (latest_of (items table station history)) moment) (map piece_of (places table station history))
waits_are keys table station history moment =
    ap (map piece_of) (waiting_is (items table station history) (log table station history) moment)
    ∙ sym (pieces_live keys (items table station history) moment (places table station history) (numbered_items table station history) (logged_places table station history))

-- a test that passes less
pub less_same : (p q : Piece → Bool) (xs ys : List Piece) → AllByRecursion (λ x. q x ≡ true → p x ≡ true) xs → AllByRecursion (λ x. q x ≡ true → p x ≡ true) ys
    → filter p xs ≡ filter p ys → filter q xs ≡ filter q ys
less_same p q xs ys h k e = sym (filter_less p q xs h) ∙ ap (filter q) e ∙ filter_less p q ys k

lives_earlier : (clock moment serial : ℕ) (latest : Option Latest) → clock ≤ moment → lives_as moment serial latest ≡ true → lives_as clock serial latest ≡ true
lives_earlier clock moment serial None le h = h
lives_earlier clock moment serial (Some latest) le h =
    let both = and_parts (nat_lt moment latest.until) (latest.serial == serial) h in
    and_from (nat_lt clock latest.until) _ (lt-ltb clock latest.until (omega (arith, ltb-true moment latest.until both.0))) both.1

later_lives : (latest : Key → Option Latest) (clock moment : ℕ) (p : Piece) → clock ≤ moment → live_by latest moment p ≡ true → live_by latest clock p ≡ true
later_lives latest clock moment p le h =
    list_any-weaker (λ key. lives_as moment p.serial (latest key)) (λ key. lives_as clock p.serial (latest key))
    (λ key k. lives_earlier clock moment p.serial (latest key) le k) p.keys h

-- at a later moment
pub line_later : KeyLaws → (table : LifeTable) (station : StationId) (history : List Event) (clock moment : ℕ) (line : List Piece) → clock ≤ moment
    → filter (live_by (latest_of (items table station history)) clock) line ≡ map piece_of (waiting_segments (items table station history) (log table station history) clock)
    → filter (live_by (latest_of (items table station history)) moment) line ≡ map piece_of (waiting_segments (items table station history) (log table station history) moment)
line_later keys table station history clock moment line le e =
    let latest : Key → Option Latest = latest_of (items table station history) in
    let less : (xs : List Piece) → AllByRecursion (λ x. live_by latest moment x ≡ true → live_by latest clock x ≡ true) xs
    = λ (xs : List Piece). AllByRecursion-all _ (λ x. later_lives latest clock moment x le) xs in
    less_same (live_by latest clock) (live_by latest moment) line (map piece_of (places table station history)) (less line) (less _)
    (e ∙ waits_are keys table station history clock) ∙ sym (waits_are keys table station history moment)

-- pieces fit as their segments do
pub fitting_pieces_are : (room : ℕ) (xs : List Segment) → map piece_of (longest_fitting room xs) ≡ fitting_pieces room (map piece_of xs)
fitting_pieces_are room [] = refl
fitting_pieces_are room (x ∷ xs) = elim (cases_Bool (nat_le (room_of x) room)) [
  | inl t ↦ rw t (ap (λ l. piece_of x ∷ l) (fitting_pieces_are (room - room_of x) xs))
  | inr f ↦ rw f refl
]

abbrev pub segments_left : ℕ → List Segment → List Segment
segments_left room [] = []
segments_left room (s ∷ more) = if nat_le (room_of s) room then segments_left (room - room_of s) more else s ∷ more

pub left_pieces_are : (room : ℕ) (xs : List Segment) → map piece_of (segments_left room xs) ≡ left_pieces room (map piece_of xs)
left_pieces_are room [] = refl
left_pieces_are room (x ∷ xs) = elim (cases_Bool (nat_le (room_of x) room)) [
  | inl t ↦ rw t (left_pieces_are (room - room_of x) xs)
  | inr f ↦ rw f refl
]

pub fitting_left : (room : ℕ) (xs : List Segment) → xs ≡ longest_fitting room xs ++ segments_left room xs
fitting_left room [] = refl
fitting_left room (x ∷ xs) = elim (cases_Bool (nat_le (room_of x) room)) [
  | inl t ↦ rw t (ap (λ l. x ∷ l) (fitting_left (room - room_of x) xs))
  | inr f ↦ rw f refl
]

-- behind a fill
pub record IsFilled (table : LifeTable) (station : StationId) (past : List Event) (moment slot : ℕ) (old new : List Piece) : Type 0 where
  pub aired : map piece_of (airing (items table station past) (log table station past) moment)
      ≡ fitting_pieces 424 (filter (live_by (latest_of (items table station past)) moment) old)
  pub line : filter (live_by (latest_of (items table station past)) moment) new
      ≡ map piece_of (waiting_segments (items table station (fill moment slot ∷ past)) (log table station (fill moment slot ∷ past)) moment)

-- what waits behind a fill: what was left, and then what was aired
pub waiting_filled : StationsAreTold → (table : LifeTable) (station : StationId) (past : List Event) (moment slot : ℕ)
    → waiting_segments (items table station (fill moment slot ∷ past)) (log table station (fill moment slot ∷ past)) moment
    ≡ segments_left 424 (waiting_segments (items table station past) (log table station past) moment)
    ++ airing (items table station past) (log table station past) moment
waiting_filled told table station past moment slot =
    let all : List Item = items table station past in
    let before : List Segment = touched_segments (log table station past) in
    let now : List Segment = waiting_segments all (log table station past) moment in
    let front : List Segment = longest_fitting 424 now in
    let live : Segment → Bool = λ s. is_live all moment s.item in
    let cut : filter live (last_places before) ≡ front ++ segments_left 424 now = sym (waiting_is all (log table station past) moment) ∙ fitting_left 424 now in
    waiting_is (all ++ []) (log table station (fill moment slot ∷ past)) moment
    ∙ ap (λ is. filter (λ s. is_live is moment s.item) (last_places (touched_segments (log table station (fill moment slot ∷ past))))) (append-nil all)
    ∙ ap (λ l. filter live (last_places l)) (log_filled table station past moment slot)
    ∙ front-turned told live before front (segments_left 424 now) cut

pub line-filled : StationsAreTold → KeyLaws → (table : LifeTable) (station : StationId) (past : List Event) (clock moment slot : ℕ) (old new : List Piece) → clock ≤ moment
    → filter (live_by (latest_of (items table station past)) clock) old ≡ map piece_of (waiting_segments (items table station past) (log table station past) clock)
    → filter (live_by (latest_of (items table station past)) moment) new
    ≡ left_pieces 424 (filter (live_by (latest_of (items table station past)) moment) old)
    ++ fitting_pieces 424 (filter (live_by (latest_of (items table station past)) moment) old)
    → IsFilled table station past moment slot old new
line-filled told keys table station past clock moment slot old new le e n =
    let all : List Item = items table station past in
    let now : List Segment = waiting_segments all (log table station past) moment in
    let live : filter (live_by (latest_of all) moment) old ≡ map piece_of now = line_later keys table station past clock moment old le e in
    record {
      aired = fitting_pieces_are 424 now ∙ ap (fitting_pieces 424) (sym live);
      line = n ∙ ap (λ l. left_pieces 424 l ++ fitting_pieces 424 l) live
          ∙ ap (λ l. l ++ fitting_pieces 424 (map piece_of now)) (sym (left_pieces_are 424 now))
          ∙ ap (λ l. map piece_of (segments_left 424 now) ++ l) (sym (fitting_pieces_are 424 now))
          ∙ sym (map-append piece_of (segments_left 424 now) (longest_fitting 424 now))
          ∙ ap (map piece_of) (sym (waiting_filled told table station past moment slot));
    }

-- segments of one item are told apart by their numbers
none_below : (item : Item) (low at n : ℕ) → low < at → stands_in (map (segment_of item) (range_with_len at n)) (segment_of item low) ≡ false
none_below item low at zero lt = refl
none_below item low at (suc n) lt =
    let head : same_segment (segment_of item low) (segment_of item at) ≡ false = and_right (same_item item item) (low == at) (grind (arith, nat_tests)) in
    rw head (none_below item low (at + 1) n (omega arith))

once_numbers : (item : Item) (at n : ℕ) → Once (map (segment_of item) (range_with_len at n))
once_numbers item at zero = tt
once_numbers item at (suc n) = (none_below item at (at + 1) n (omega arith), once_numbers item (at + 1) n)

-- a segment of another serial is none of an item's
none_of_item : (s : Segment) (serial : ℕ) (xs : List Segment) → s.item.serial < serial → AllByRecursion (λ x. x.item.serial ≡ serial) xs → stands_in xs s ≡ false
none_of_item s serial [] lt h = refl
none_of_item s serial (x ∷ xs) lt h =
    let other : (s.item.serial == x.item.serial) ≡ false = rw h.0 (grind (arith, nat_tests)) in
    let head : same_segment s x ≡ false = ap (λ b. b && (s.number == x.number)) (and_right (same_station s.item.station x.item.station) (s.item.serial == x.item.serial) other) in
    rw head (none_of_item s serial xs lt h.1)

item_of_each : (item : Item) → AllByRecursion (λ x. x.item.serial ≡ item.serial) (segments_of item)
item_of_each item = AllByRecursion-in _ (segments_of item) (λ x i. ap (λ (z : Item). z.serial) (is_segment_of item x i).item_is)

-- the segments of a new item stand behind all others
pub places_given : (all : List Item) (before : List Segment) (item : Item) → item.serial ≡ length all → Numbered 0 all → AllByRecursion (IsLogged all) before
    → last_places (before ++ segments_of item) ≡ last_places before ++ segments_of item
places_given all before item e n h =
    let new : List Segment = segments_of item in
    last_places-append before new
    ∙ ap (λ l. filter (λ s. not (stands_in new s)) (last_places before) ++ l) (last_places_once new (once_numbers item 1 _))
    ∙ ap (λ l. l ++ new) (filter_all (λ s. not (stands_in new s)) (last_places before) (AllByRecursion-weaker _ _ (λ s k.
    let below = (serial_in 0 all s.item n k.item).1 in
    ap not (none_of_item s item.serial new (omega arith) (item_of_each item))) (last_places before) (AllByRecursion-last_places _ before h)))

-- an older piece is live behind a new item only where it was live before
older_serial : (all : List Item) (item : Item) (clock moment serial : ℕ) (key : Key) → item.serial ≡ length all → clock ≤ moment → serial < length all
    → lives_as moment serial (latest_of (all ++ item ∷ []) key) ≡ true → lives_as clock serial (latest_of all key) ≡ true
older_serial all item clock moment serial key e le lt h =
    let k = ap (lives_as moment serial) (sym (latest_push key all item None)) ∙ h in
    elim (cases_Bool (has_key key item)) [
      | inl t ↦ (
          let lives : lives_as moment serial (Some (latest_of_item item)) ≡ true
          = ap (λ b. lives_as moment serial (if b then Some (latest_of_item item) else latest_of all key)) (sym t) ∙ k in
          let bad : (item.serial == serial) ≡ true = (and_parts (nat_lt moment (latest_of_item item).until) (item.serial == serial) lives).1 in
          let no : (item.serial == serial) ≡ false = grind (arith, nat_tests) in
          absurd (cc))
      | inr f ↦ lives_earlier clock moment serial (latest_of all key) le
          (ap (λ b. lives_as moment serial (if b then Some (latest_of_item item) else latest_of all key)) (sym f) ∙ k)
    ]

pub older_lives : (all : List Item) (item : Item) (clock moment : ℕ) (p : Piece) → item.serial ≡ length all → clock ≤ moment → p.serial < length all
    → live_by (latest_of (all ++ item ∷ [])) moment p ≡ true → live_by (latest_of all) clock p ≡ true
older_lives all item clock moment p e le lt h =
    list_any-weaker (λ key. lives_as moment p.serial (latest_of (all ++ item ∷ []) key)) (λ key. lives_as clock p.serial (latest_of all key))
    (λ key k. older_serial all item clock moment p.serial key e le lt k) p.keys h

-- the segments of new items stand behind all others
pub places_given_all : (all : List Item) (before : List Segment) (new : List Item) → Numbered 0 all → Numbered (length all) new → AllByRecursion (IsLogged all) before
    → last_places (before ++ flat_map segments_of new) ≡ last_places before ++ flat_map segments_of new
places_given_all all before [] n m h = ap last_places (append-nil before) ∙ sym (append-nil (last_places before))
places_given_all all before (item ∷ more) n m h =
    let after : List Item = all ++ item ∷ [] in
    let segments : List Segment = segments_of item in
    let size : length after ≡ length all + 1 = length-append all (item ∷ []) in
    let numbered : Numbered 0 after = Numbered-append 0 all (item ∷ []) n (m.0 ∙ sym (zero_less (length all)), tt) in
    let one : last_places (before ++ segments) ≡ last_places before ++ segments = places_given all before item m.0 n h in
    let own : AllByRecursion (IsLogged after) segments = subst (AllByRecursion (IsLogged after)) (append-nil segments) (logged_new all (item ∷ [])) in
    let logged_all : AllByRecursion (IsLogged after) (before ++ segments) =
    AllByRecursion-append _ before segments (AllByRecursion-weaker _ _ (logged_more all (item ∷ [])) before h) own
    in
    ap last_places (sym (append_assoc before segments (flat_map segments_of more)))
    ∙ places_given_all after (before ++ segments) more numbered (subst (λ k. Numbered k more) (sym size) m.1) logged_all
    ∙ ap (λ l. l ++ flat_map segments_of more) one
    ∙ append_assoc (last_places before) segments (flat_map segments_of more) where
      zero_less : (k : ℕ) → 0 + k ≡ k
      zero_less k = omega arith

-- an older piece is live behind new items only where it was live before
pub older_lives_all : (all new : List Item) (clock moment : ℕ) (p : Piece) → Numbered (length all) new → clock ≤ moment → p.serial < length all
    → live_by (latest_of (all ++ new)) moment p ≡ true → live_by (latest_of all) clock p ≡ true
older_lives_all all [] clock moment p m le lt h =
    later_lives (latest_of all) clock moment p le (ap (λ is. live_by (latest_of is) moment p) (sym (append-nil all)) ∙ h)
older_lives_all all (item ∷ more) clock moment p m le lt h =
    let after : List Item = all ++ item ∷ [] in
    let size : length after ≡ length all + 1 = length-append all (item ∷ []) in
    let same : moment ≤ moment = omega arith in
    older_lives all item clock moment p m.0 le lt
    (older_lives_all after more moment moment p (subst (λ k. Numbered k more) (sym size) m.1) same (omega arith)
    (ap (λ is. live_by (latest_of is) moment p) (append_assoc all (item ∷ []) more) ∙ h))

-- what an update makes
abbrev pub made_items : LifeTable → StationId → ℕ → List Event → Update → List Item
made_items table station moment past update = new_items table station (items table station past) (accepted moment update)

pub numbered_new : (table : LifeTable) (station : StationId) (moment : ℕ) (past : List Event) (update : Update)
    → Numbered (length (items table station past)) (made_items table station moment past update)
numbered_new table station moment past update = numbered_made table station moment (items table station past) (weather_of table update)

pub order_given : (table : LifeTable) (station : StationId) (moment : ℕ) (past : List Event) (update : Update)
    → places table station (accepted moment update ∷ past)
    ≡ places table station past ++ flat_map segments_of (made_items table station moment past update)
order_given table station moment past update =
    ap last_places (log_given table station past moment update)
    ∙ places_given_all (items table station past) (touched_segments (log table station past)) (made_items table station moment past update)
    (numbered_items table station past) (numbered_new table station moment past update) (segments-logged table station past)

-- what waits behind items that were given
pub given_line : KeyLaws → (table : LifeTable) (station : StationId) (past : List Event) (moment : ℕ) (update : Update) (clock : ℕ) (old new : List Piece)
    → clock ≤ moment
    → AllByRecursion (λ p. p.serial < length (items table station past)) old
    → filter (live_by (latest_of (items table station past)) clock) old ≡ map piece_of (waiting_segments (items table station past) (log table station past) clock)
    → new ≡ old ++ map piece_of (flat_map segments_of (made_items table station moment past update))
    → filter (live_by (latest_of (items table station (accepted moment update ∷ past))) moment) new
    ≡ map piece_of (waiting_segments (items table station (accepted moment update ∷ past)) (log table station (accepted moment update ∷ past)) moment)
given_line keys table station past moment update clock old new le low e n =
    let all : List Item = items table station past in
    let made : List Item = made_items table station moment past update in
    let history : List Event = accepted moment update ∷ past in
    let segments : List Segment = flat_map segments_of made in
    let numbered = numbered_new table station moment past update in
    let test : Piece → Bool = live_by (latest_of (all ++ made)) moment in
    let older : filter test old ≡ filter test (map piece_of (places table station past))
    = less_same (live_by (latest_of all) clock) test old (map piece_of (places table station past))
    (AllByRecursion-weaker _ _ (λ p lt. older_lives_all all made clock moment p numbered le lt) old low)
    (AllByRecursion-map _ piece_of (places table station past) (AllByRecursion-weaker _ _ (λ s k.
    older_lives_all all made clock moment (piece_of s) numbered le (let b = serial_in 0 all s.item (numbered_items table station past) k.item in omega (arith, b.1))) (places table station past) (logged_places table station past)))
    (e ∙ waits_are keys table station past clock) in
    ap (filter test) n ∙ filter-append test old (map piece_of segments)
    ∙ ap (λ l. l ++ filter test (map piece_of segments)) older
    ∙ sym (filter-append test (map piece_of (places table station past)) (map piece_of segments))
    ∙ ap (filter test) (sym (map-append piece_of (places table station past) segments) ∙ ap (map piece_of) (sym (order_given table station moment past update)))
    ∙ sym (waits_are keys table station history moment)
