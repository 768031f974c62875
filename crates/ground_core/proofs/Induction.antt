-- What goes on with each item that is given holds of the items of every history.
use Rattle.std.proofs.Common.{ℕ, List, [], ◌∷◌, ◌++◌, sym, subst, append-nil}
use Rattle.std.proofs.lemmas.List.{append_assoc}
use Rattle.life_table.specs.LifeTable.{LifeTable}
use Rattle.life_table.specs.Rules.{IsTable}
use Rattle.uplink_frame.specs.declared.station.StationId.{StationId}
use Rattle.ground_core.specs.Item.{Weather, Item}
use Rattle.ground_core.specs.Update.{weather_of}
use Rattle.ground_core.specs.History.{Event, accepted, fill, item_of, items_made, items}
use Rattle.ground_core.specs.Broadcast.{IsHistory}
use Rattle.ground_core.specs.Sound.{IsGiven, AreGiven, AcceptedIsGiven}

abbrev pub GoesOn : LifeTable → StationId → (List Item → Type 0) → Type 0
GoesOn table station P = (moment : ℕ) (before : List Item) (w : Weather) → IsGiven table before moment w → P before
    → P (before ++ item_of table station moment before w ∷ [])

pub by_made : (table : LifeTable) (station : StationId) (P : List Item → Type 0) → GoesOn table station P
    → (moment : ℕ) (before : List Item) (ws : List Weather) → AreGiven table station moment before ws → P before
    → P (before ++ items_made table station moment before ws)
by_made table station P step moment before [] given so = subst P (sym (append-nil before)) so
by_made table station P step moment before (w ∷ more) given so =
    let new = item_of table station moment before w in
    subst P (append_assoc before (new ∷ []) (items_made table station moment (before ++ new ∷ []) more))
    (by_made table station P step moment (before ++ new ∷ []) more given.1 (step moment before w given.0 so))

pub by_items : AcceptedIsGiven → (table : LifeTable) (station : StationId) (P : List Item → Type 0) → IsTable table → GoesOn table station P → P []
    → (history : List Event) → IsHistory table station history → P (items table station history)
by_items accepting table station P is_table step none [] h = none
by_items accepting table station P is_table step none (accepted moment update ∷ past) h =
    let before = items table station past in
    by_made table station P step moment before (weather_of table update)
    (accepting table station before moment update is_table h.0.is_accepted)
    (by_items accepting table station P is_table step none past h.1)
by_items accepting table station P is_table step none (fill moment slot ∷ past) h =
    subst P (sym (append-nil (items table station past))) (by_items accepting table station P is_table step none past h.1)
