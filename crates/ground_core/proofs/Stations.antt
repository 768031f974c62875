-- The items of a broadcast are those of its stations' histories.
use Rattle.std.proofs.Common.{◌≡◌, ℕ, Bool, true, false, List, [], ◌∷◌, ◌++◌, map, filter, refl, sym, ap, subst, inl, inr}
use Rattle.std.proofs.lemmas.Bool.{cases_Bool, cond-true, cond-false}
use Rattle.life_table.specs.LifeTable.{LifeTable}
use Rattle.uplink_frame.specs.declared.station.StationId.{StationId}
use Rattle.uplink_frame.specs.Station.{same_station}
use Rattle.uplink_frame.specs.Laws.{StationsAreTold}
use Rattle.list_members.specs.Membership.{IsIn}
use Rattle.list_members.specs.Members.{IsIn-before, IsIn-after, IsIn-either}
use Rattle.ground_core.specs.Item.{Weather, Item}
use Rattle.ground_core.specs.Update.{weather_of}
use Rattle.ground_core.specs.History.{Event, accepted, fill, item_of, items_made, new_items, items}
use Rattle.ground_core.specs.Broadcast.{IsNext, IsHistory, StationEvent, IsBroadcast, history_of, all_items}
use Rattle.ground_core.specs.Sent.{HistoriesGrow, ItemsAreOfStations}

-- the history of a station grows by its own events alone
abbrev is_of_station : StationId → StationEvent → Bool
is_of_station station b = same_station b.station station

pub history-same : (station : StationId) (b : StationEvent) (past : List StationEvent) → same_station b.station station ≡ true
    → history_of station (b ∷ past) ≡ b.event ∷ history_of station past
history-same station b past e =
    ap (map (λ (x : StationEvent). x.event)) (cond-true (is_of_station station b) (b ∷ filter (is_of_station station) past) (filter (is_of_station station) past) e)

pub history-other : (station : StationId) (b : StationEvent) (past : List StationEvent) → same_station b.station station ≡ false
    → history_of station (b ∷ past) ≡ history_of station past
history-other station b past e =
    ap (map (λ (x : StationEvent). x.event)) (cond-false (is_of_station station b) (b ∷ filter (is_of_station station) past) (filter (is_of_station station) past) e)

pub same-equal : StationsAreTold → (a b : StationId) → same_station a b ≡ true → a ≡ b
same-equal told a b e = (told a b).0 e

pub histories-grow : StationsAreTold → HistoriesGrow
histories-grow told b past = record {
  own = history-same b.station b past ((told b.station b.station).1 refl);
  others = λ station e. history-other station b past e;
}

-- each station has a history
pub station-history : StationsAreTold → (table : LifeTable) (broadcast : List StationEvent) → IsBroadcast table broadcast
    → (station : StationId) → IsHistory table station (history_of station broadcast)
station-history told table [] is station = tt
station-history told table (b ∷ past) is station = elim (cases_Bool (same_station b.station station)) [
  | inl t ↦
      subst (IsHistory table station) (sym (history-same station b past t))
      (subst (λ (s : StationId). IsNext table s (history_of s past) b.event) (same-equal told b.station station t) is.1, station-history told table past is.2 station)
  | inr f ↦ subst (IsHistory table station) (sym (history-other station b past f)) (station-history told table past is.2 station)
]

-- what a station is given is of that station
made-station : (table : LifeTable) (station : StationId) (moment : ℕ) (before : List Item) (ws : List Weather) (i : Item)
    → IsIn i (items_made table station moment before ws) → i.station ≡ station
made-station table station moment before [] i h = absurd h
made-station table station moment before (w ∷ more) i (inl e) = ap (λ (x : Item). x.station) e
made-station table station moment before (w ∷ more) i (inr h) = made-station table station moment (before ++ item_of table station moment before w ∷ []) more i h

new-station : (table : LifeTable) (station : StationId) (before : List Item) (event : Event) (i : Item)
    → IsIn i (new_items table station before event) → i.station ≡ station
new-station table station before (accepted moment update) i h = made-station table station moment before (weather_of table update) i h
new-station table station before (fill moment slot) i h = absurd h

-- what an event adds at a station, as the items of the longer history
pub items-grow : (table : LifeTable) (station : StationId) (b : StationEvent) (past : List StationEvent) → same_station b.station station ≡ true
    → items table station (history_of station (b ∷ past))
    ≡ items table station (history_of station past) ++ new_items table station (items table station (history_of station past)) b.event
items-grow table station b past e = ap (items table station) (history-same station b past e)

old-item : (table : LifeTable) (station : StationId) (b : StationEvent) (past : List StationEvent) (i : Item)
    → IsIn i (items table station (history_of station past)) → IsIn i (items table station (history_of station (b ∷ past)))
old-item table station b past i h = elim (cases_Bool (same_station b.station station)) [
  | inl t ↦
      let before = items table station (history_of station past) in
      subst (IsIn i) (sym (items-grow table station b past t)) (IsIn-before i before (new_items table station before b.event) h)
  | inr f ↦ subst (λ (es : List Event). IsIn i (items table station es)) (sym (history-other station b past f)) h
]

new-item : StationsAreTold → (table : LifeTable) (b : StationEvent) (past : List StationEvent) (i : Item)
    → IsIn i (new_items table b.station (items table b.station (history_of b.station past)) b.event)
    → IsIn i (items table i.station (history_of i.station (b ∷ past)))
new-item told table b past i h =
    let before = items table b.station (history_of b.station past) in
    subst (λ (s : StationId). IsIn i (items table s (history_of s (b ∷ past)))) (sym (new-station table b.station before b.event i h))
    (subst (IsIn i) (sym (items-grow table b.station b past ((told b.station b.station).1 refl))) (IsIn-after i before (new_items table b.station before b.event) h))

of_station : StationsAreTold → (table : LifeTable) (broadcast : List StationEvent) (i : Item) → IsIn i (all_items table broadcast)
    → IsIn i (items table i.station (history_of i.station broadcast))
of_station told table [] i h = absurd h
of_station told table (b ∷ past) i h =
    elim (IsIn-either i (all_items table past) (new_items table b.station (items table b.station (history_of b.station past)) b.event) h) [
      | inl old ↦ old-item table i.station b past i (of_station told table past i old)
      | inr new ↦ new-item told table b past i new
    ]

pub of_all : StationsAreTold → (table : LifeTable) (broadcast : List StationEvent) (station : StationId) (i : Item)
    → IsIn i (items table station (history_of station broadcast)) → IsIn i (all_items table broadcast)
of_all told table [] station i h = absurd h
of_all told table (b ∷ past) station i h =
    let news = new_items table b.station (items table b.station (history_of b.station past)) b.event in
    elim (cases_Bool (same_station b.station station)) [
      | inl t ↦
          let before = items table station (history_of station past) in
          elim (IsIn-either i before (new_items table station before b.event) (subst (IsIn i) (items-grow table station b past t) h)) [
            | inl old ↦ IsIn-before i (all_items table past) news (of_all told table past station i old)
            | inr new ↦ IsIn-after i (all_items table past) news
                (subst (λ (s : StationId). IsIn i (new_items table s (items table s (history_of s past)) b.event)) (sym (same-equal told b.station station t)) new)
          ]
      | inr f ↦ IsIn-before i (all_items table past) news
          (of_all told table past station i (subst (λ (es : List Event). IsIn i (items table station es)) (history-other station b past f) h))
    ]

pub items-of_stations : StationsAreTold → ItemsAreOfStations
items-of_stations told table broadcast is = record {
  histories = station-history told table broadcast is;
  of_station = of_station told table broadcast;
  of_all = λ i h. of_all told table broadcast i.station i h;
}
