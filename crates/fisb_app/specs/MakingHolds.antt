-- What the steps of a workload have made, against the lines acted on.
use Rattle.std.specs.Prelude.{◌≡◌, ◌≢◌, ℕ, ◌+◌, List, Option, Some, None, option_map}
use Rattle.std.specs.Prelude.{Result, Ok, Err, OnOk}
use Rattle.life_table.specs.LifeTable.{LifeTable}
use Rattle.ground_core.specs.Airing.{Frame}
use Rattle.workload.specs.declared.step.Step.{Step}
use Rattle.script_core.specs.Script.{Line}
use Rattle.run_core.specs.declared.stop.Stop.{Stop}
use Rattle.run_core.specs.declared.stop.Stop.TheVariants.{Refused, NoMemory}
use Rattle.fisb_app.specs.declared.making.Making.{Making}
use Rattle.fisb_app.specs.declared.sent_frame.SentFrame.{SentFrame}
use Rattle.fisb_app.specs.Past.{station_after, events, sent_frames, receptions, air_of}
use Rattle.fisb_app.specs.Past.{receiver_clock}
use Rattle.fisb_app.specs.Reading.{frame_refusal}
use Rattle.fisb_app.specs.Stands.{Sends, Hears, Aired, sent_view, aired_view}
use Rattle.fisb_app.specs.Make.{after_step, counts_of, last_frame}

abbrev pub sent_one : Option SentFrame → Option Aired
sent_one last = option_map sent_view last

abbrev pub aired_one : Option Frame → Option Aired
aired_one sent = option_map aired_view sent

-- the ground, the receiver, the frame that was sent last, the receiver's clock and the counts are
-- those of the lines acted on
pub record MakingHolds {G E : Type 0} (sends : Sends G) (hears : Hears E) (table : LifeTable)
    (acted : List Line) (making : Making G E) : Type 0 where
  pub ground : sends table (station_after acted) (events acted) making.ground
  pub ear : hears table (receptions table acted) making.ear
  pub late : making.late ≡ table.late
  pub clock : making.clock ≡ receiver_clock acted
  pub last : sent_one making.last ≡ aired_one (last_frame (sent_frames table acted))
  pub counts : making.counts ≡ counts_of table acted

-- a step was acted on, unless a reason stands against it
abbrev pub HasStepped : {G E A F : Type 0} → Sends G → Hears E → Making G E → Making G E → Step
    → Result A F → Type 0
HasStepped sends hears old new step result = (table : LifeTable) (acted : List Line)
    → MakingHolds sends hears table acted old
    → OnOk result (MakingHolds sends hears table (after_step table acted step) new)

-- what was made with an update more
abbrev pub with_update : {G E : Type 0} → Making G E → Making G E
with_update old = record old { counts = record old.counts { updates = old.counts.updates + 1 } }

-- an update that was given was counted, and one that was refused was not
abbrev pub IsCounted : {G E A B F : Type 0} → Making G E → Making G E → Result A Stop
    → Result B F → Type 0
IsCounted old new (Ok given) result = OnOk result (new ≡ with_update old)
IsCounted old new (Err (Refused why)) result = OnOk result (new ≡ old)
IsCounted old new (Err NoMemory) result = OnOk result ⊥

-- the bytes on the air of a frame that was sent, unless a reason stands against hearing it
abbrev pub IsInAir : ℕ → ℕ → Option Frame → Option (List ℕ) → Type 0
IsInAir late moment sent (Some air) = (frame : Frame) × (sent ≡ Some frame)
    × (frame_refusal late moment sent ≡ None) × (air ≡ air_of frame)
IsInAir late moment sent None = frame_refusal late moment sent ≢ None
