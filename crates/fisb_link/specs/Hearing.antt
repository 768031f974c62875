-- Hearings that a receiver can make of the frames of a broadcast, and what it receives by them.
use Rattle.std.specs.Prelude.{ℕ, ◌+◌, ◌≤◌, List, [], ◌∷◌, map, Option, Some, None, slice_get}
use Rattle.fisb_time.specs.Moment.{IsMoment}
use Rattle.ground_core.specs.Airing.{Frame, frame_payload}
use Rattle.receiver_core.specs.Reception.{Reception}

-- the number of a frame, and the moment at which it was heard; the newest hearing stands first
pub record Hearing : Type 0 where
  pub frame : ℕ
  pub moment : ℕ

-- the frame was sent, at most so many seconds before the moment
abbrev pub IsInTime : ℕ → Option Frame → ℕ → Type 0
IsInTime late None moment = ⊥
IsInTime late (Some frame) moment = (frame.moment ≤ moment) × (moment ≤ frame.moment + late)

abbrev pub IsAfterHearings : ℕ → List Hearing → Type 0
IsAfterHearings moment [] = Unit {0}
IsAfterHearings moment (h ∷ past) = h.moment ≤ moment

-- frames that were sent are heard in time, at moments that do not fall
abbrev pub AreHeard : ℕ → List Frame → List Hearing → Type 0
AreHeard late sent [] = Unit {0}
AreHeard late sent (h ∷ past) = IsInTime late (slice_get sent h.frame) h.moment × IsMoment h.moment
    × IsAfterHearings h.moment past × AreHeard late sent past

-- what is received of these hearings
abbrev pub payload_sent : Option Frame → List ℕ
payload_sent None = []
payload_sent (Some frame) = frame_payload frame

abbrev pub reception_of : List Frame → Hearing → Reception
reception_of sent h = record { moment = h.moment; payload = payload_sent (slice_get sent h.frame) }

abbrev pub receptions_of : List Frame → List Hearing → List Reception
receptions_of sent heard = map (reception_of sent) heard
