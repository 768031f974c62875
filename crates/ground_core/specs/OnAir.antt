-- The moment of the last event of a history, and a frame as it goes on the air.
use Rattle.std.specs.Prelude.{◌≡◌, ℕ, List, [], ◌∷◌, length, Option, Some, None, unwrap_or}
use Rattle.uplink_weave.specs.Functions.{woven_frame}
use Rattle.ground_core.specs.History.{Event, event_moment}
use Rattle.ground_core.specs.Airing.{Frame, used_room, frame_payload}
use Rattle.ground_core.specs.declared.air_frame.AirFrame.{AirFrame}

-- the moment of the last event
abbrev pub history_clock : List Event → Option ℕ
history_clock [] = None
history_clock (event ∷ past) = Some (event_moment event)

abbrev pub history_moment : List Event → ℕ
history_moment history = unwrap_or (history_clock history) 0

-- the frame is this one, woven
pub record IsOnAir (sent : Frame) (frame : AirFrame) : Type 0 where
  pub moment : frame.moment ≡ sent.moment
  pub slot : frame.slot ≡ sent.slot
  pub bodies : frame.bodies ≡ length sent.segments
  pub used : frame.used ≡ used_room sent
  pub air : frame.air ≡ woven_frame (frame_payload sent)
