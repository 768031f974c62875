-- What a fill airs: segments of items that were given before and live on, as many as fit.
use Rattle.std.proofs.Common.{◌≡◌, ℕ, ◌+◌, ◌-◌, ◌<◌, ◌≤◌, Bool, true, nat_le, List, [], ◌∷◌, ◌++◌, filter, sum_by, sym, subst, inl, inr, arith}
use Rattle.std.proofs.lemmas.Bool.{cases_Bool, cond-true, cond-false, ltb-true, leb-true, and_parts}
use Rattle.std.proofs.lemmas.List.Sums.{sum_by-cons}
use Rattle.life_table.specs.LifeTable.{LifeTable}
use Rattle.life_table.specs.Rules.{IsTable}
use Rattle.uplink_frame.specs.declared.station.StationId.{StationId}
use Rattle.list_members.specs.Each.{AllByRecursion-at}
use Rattle.list_members.specs.Membership.{IsIn}
use Rattle.list_members.specs.Members.{IsIn-either, IsIn-from_filter}
use Rattle.list_members.specs.ListMembers.{in_map, map_has}
use Rattle.uplink_frame.specs.UplinkFrame.{frame_room}
use Rattle.ground_core.specs.Item.{Weather, Item, Segment, room_of, end_of}
use Rattle.ground_core.specs.Update.{weather_of}
use Rattle.ground_core.specs.History.{Event, accepted, fill, item_of, items_made, new_items, items}
use Rattle.ground_core.specs.Airing.{Touch, is_live, is_touched, last_touches, waiting_segments, longest_fitting, airing, log}
use Rattle.ground_core.specs.Broadcast.{IsNotBeforeLast, IsHistory}
use Rattle.ground_core.specs.Sound.{AreGiven, AcceptedIsGiven}
use Rattle.ground_core.proofs.Order.{touched_segments}
use Rattle.ground_core.proofs.Serials.{IsLogged, segments-logged}

in_last : (t : Touch) (touched : List Touch) → IsIn t (last_touches touched) → IsIn t touched
in_last t [] h = absurd h
in_last t (x ∷ later) h = elim (cases_Bool (is_touched later x.segment)) [
  | inl is ↦ inr (in_last t later (subst (IsIn t) (cond-true (is_touched later x.segment) (last_touches later) (x ∷ last_touches later) is) h))
  | inr isnt ↦ let k : IsIn t (x ∷ last_touches later) = subst (IsIn t) (cond-false (is_touched later x.segment) (last_touches later) (x ∷ last_touches later) isnt) h in elim k [
    | inl e ↦ inl e
    | inr r ↦ inr (in_last t later r)
  ]
]

in_fitting : (s : Segment) (room : ℕ) (more : List Segment) → IsIn s (longest_fitting room more) → IsIn s more
in_fitting s room [] h = absurd h
in_fitting s room (x ∷ more) h =
    let rest = x ∷ longest_fitting (room - room_of x) more in
    elim (cases_Bool (nat_le (room_of x) room)) [
      | inl t ↦ let k : IsIn s (x ∷ longest_fitting (room - room_of x) more) = subst (IsIn s) (cond-true (nat_le (room_of x) room) rest [] t) h in elim k [
        | inl e ↦ inl e
        | inr r ↦ inr (in_fitting s (room - room_of x) more r)
      ]
      | inr f ↦ absurd (subst (IsIn s) (cond-false (nat_le (room_of x) room) rest [] f) h)
    ]

pub fitting-fits : (room : ℕ) (more : List Segment) → sum_by room_of (longest_fitting room more) ≤ room
fitting-fits room [] = omega arith
fitting-fits room (x ∷ more) =
    let rest = x ∷ longest_fitting (room - room_of x) more in
    elim (cases_Bool (nat_le (room_of x) room)) [
      | inl t ↦
          let fits = leb-true (room_of x) room t in
          let others = fitting-fits (room - room_of x) more in
          let sums = sum_by-cons room_of x (longest_fitting (room - room_of x) more) in
          subst (λ ss. sum_by room_of ss ≤ room) (sym (cond-true (nat_le (room_of x) room) rest [] t)) (omega arith)
      | inr f ↦ subst (λ ss. sum_by room_of ss ≤ room) (sym (cond-false (nat_le (room_of x) room) rest [] f)) (omega arith)
    ]

-- a segment of the log that is live
record IsWaiting (all : List Item) (touched : List Touch) (moment : ℕ) (s : Segment) : Type 0 where
  pub last : Touch
  pub in_log : IsIn last touched
  pub segment : s ≡ last.segment
  pub live : is_live all moment s.item ≡ true

aired-waiting : (all : List Item) (touched : List Touch) (moment : ℕ) (s : Segment) → IsIn s (airing all touched moment) → IsWaiting all touched moment s
aired-waiting all touched moment s h =
    let live : Touch → Bool = λ t. is_live all moment t.segment.item in
    let found = in_map (λ (t : Touch). t.segment) s (filter live (last_touches touched)) (in_fitting s frame_room (waiting_segments all touched moment) h) in
    let lives = IsIn-from_filter live found.0 (last_touches touched) found.1 in
    record {
      last = found.0;
      in_log = in_last found.0 touched lives.0;
      segment = found.2;
      live = subst (λ (x : Segment). is_live all moment x.item ≡ true) (sym found.2) lives.1;
    }

-- each segment of the log is one of an item
segment-logged : (table : LifeTable) (station : StationId) (history : List Event) (t : Touch) → IsIn t (log table station history)
    → IsLogged (items table station history) t.segment
segment-logged table station history t i =
    AllByRecursion-at (IsLogged (items table station history)) (touched_segments (log table station history)) t.segment
    (segments-logged table station history) (map_has (λ (x : Touch). x.segment) t (log table station history) i)

-- an item is at most a minute ahead of every moment that is not before its giving
made-lead : (table : LifeTable) (station : StationId) (moment : ℕ) (before : List Item) (ws : List Weather) (i : Item)
    → AreGiven table station moment before ws → IsIn i (items_made table station moment before ws) → i.weather.version ≤ moment + 60
made-lead table station moment before [] i given h = absurd h
made-lead table station moment before (w ∷ more) i given (inl e) =
    subst (λ (x : Item). x.weather.version ≤ moment + 60) (sym e) (given.0).not_ahead
made-lead table station moment before (w ∷ more) i given (inr h) =
    made-lead table station moment (before ++ item_of table station moment before w ∷ []) more i given.1 h

pub items-lead : AcceptedIsGiven → (table : LifeTable) (station : StationId) (history : List Event) (m : ℕ) (i : Item) → IsTable table
    → IsHistory table station history → IsNotBeforeLast m history → IsIn i (items table station history) → i.weather.version ≤ m + 60
items-lead accepting table station [] m i is_table is not_before h = absurd h
items-lead accepting table station (accepted moment update ∷ past) m i is_table is not_before h =
    let before = items table station past in
    elim (IsIn-either i before (new_items table station before (accepted moment update)) h) [
      | inl old ↦
          let low = items-lead accepting table station past moment i is_table is.1 (is.0).not_before old in
          omega arith
      | inr new ↦
          let low = made-lead table station moment before (weather_of table update) i (accepting table station before moment update is_table (is.0).is_accepted) new in
          omega arith
    ]
items-lead accepting table station (fill moment slot ∷ past) m i is_table is not_before h =
    elim (IsIn-either i (items table station past) [] h) [
      | inl old ↦
          let low = items-lead accepting table station past moment i is_table is.1 (is.0).not_before old in
          omega arith
      | inr none ↦ absurd none
    ]

-- what is known of a segment that is aired after a history
pub record IsAiredAfter (table : LifeTable) (station : StationId) (past : List Event) (moment : ℕ) (s : Segment) : Type 0 where
  pub of_item : IsLogged (items table station past) s
  pub live : moment < end_of s.item.weather

pub aired-after : (table : LifeTable) (station : StationId) (past : List Event) (moment : ℕ) (s : Segment)
    → IsIn s (airing (items table station past) (log table station past) moment) → IsAiredAfter table station past moment s
aired-after table station past moment s h =
    let logged = aired-waiting (items table station past) (log table station past) moment s h in
    record {
      of_item = subst (IsLogged (items table station past)) (sym logged.segment) (segment-logged table station past logged.last logged.in_log);
      live = ltb-true moment (end_of s.item.weather) (and_parts _ _ logged.live).0;
    }
