-- An event that the clock of its station lets pass is not before the last one.
use Rattle.std.proofs.Common.{◌≡◌, ℕ, List, [], ◌∷◌, Some, None}
use Rattle.segment_core.specs.InTime as clock
use Rattle.segment_core.specs.Store.{last_above}
use Rattle.ground_core.specs.Broadcast.{IsNotBeforeLast}
use Rattle.ground_core.specs.History.{Event, event_moment}
use Rattle.ground_core.specs.OnAir.{history_clock}

pub not_before : (history : List Event) (moment : ℕ)
    → last_above (history_clock history) moment ≡ None → IsNotBeforeLast moment history
not_before [] moment none = tt
not_before (event ∷ past) moment none = clock.not_before (Some (event_moment event)) moment none
