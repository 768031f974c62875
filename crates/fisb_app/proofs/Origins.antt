-- What is known of the lines that a receiver acted on, where they are said to hear the frames of a broadcast.
use Rattle.std.proofs.Common.{◌≡◌, ℕ, ◌+◌, ◌&&◌, nat_le, true, List, [], ◌∷◌, length, Option, Some, None, refl, sym, ap, ◌∙◌, arith, slice_get, slice_index}
use Rattle.std.specs.List.{cons_option}
use Rattle.std.proofs.lemmas.Bool.{and_parts}
use Rattle.std.proofs.lemmas.Bool.Decides.{nat_tests}
use Rattle.life_table.specs.LifeTable.{LifeTable}
use Rattle.life_table.specs.Rules.{IsTable}
use Rattle.ground_core.specs.Airing.{Frame}
use Rattle.ground_core.specs.Broadcast.{frames}
use Rattle.segment_core.specs.Store.{IsNotBefore}
use Rattle.receiver_core.specs.Reception.{received_picture}
use Rattle.fisb_link.specs.Hearing.{IsInTime, IsAfterHearings, AreHeard, receptions_of, payload_sent}
use Rattle.script_core.specs.Script.{Line, empty, rx, show}
use Rattle.script_core.specs.LineView.{HasRanges}
use Rattle.fisb_app.specs.declared.party.Party.TheVariants.{Receive}
use Rattle.fisb_app.specs.Past.{air_of, receptions, receiver_clock}
use Rattle.fisb_app.specs.Reading.{refusal_of, own_refusal}
use Rattle.fisb_app.specs.Damage.{has_near_blocks}
use Rattle.fisb_app.specs.Origin.{Origin, IsOrigin, numbered_hearings, is_sent_frame, all_sent, origin_picture}
use Rattle.fisb_app.proofs.Judging.{or-none, IsClear, clear}
use Rattle.fisb_app.proofs.Sound.{Laws, not-behind, behind-past, received-near}

pub record IsHeardFrom (origin : Origin) (table : LifeTable) (acted : List Line) : Type 0 where
  pub heard : all_sent origin table acted ≡ true → AreHeard table.late (frames table (origin.broadcast table)) (numbered_hearings origin.numbers acted)
  pub received_is : all_sent origin table acted ≡ true
      → receptions table acted ≡ receptions_of (frames table (origin.broadcast table)) (numbered_hearings origin.numbers acted)
  pub heard_before : (moment : ℕ) → IsNotBefore (receiver_clock acted) moment → IsAfterHearings moment (numbered_hearings origin.numbers acted)

pub heard-start : (origin : Origin) (table : LifeTable) → IsHeardFrom origin table []
heard-start origin table = record { heard = λ all. tt; received_is = λ all. refl; heard_before = λ moment is. tt }

-- a frame that is claimed to be one of the broadcast
record IsClaimed (late moment : ℕ) (air : List ℕ) (found : Option Frame) : Type 0 where
  frame : Frame
  is : found ≡ Some frame
  near : has_near_blocks air (air_of frame) ≡ true
  time : IsInTime late found moment

claimed : (late moment : ℕ) (air : List ℕ) (found : Option Frame) → is_sent_frame late moment air found ≡ true → IsClaimed late moment air found
claimed late moment air None e = cc
claimed late moment air (Some frame) e =
    let (near, time) = and_parts (has_near_blocks air (air_of frame)) (nat_le frame.moment moment && nat_le moment (frame.moment + late)) e in
    let (after, before) = and_parts (nat_le frame.moment moment) (nat_le moment (frame.moment + late)) time in
    record { frame = frame; is = refl; near = near; time = (grind (arith, nat_tests), grind (arith, nat_tests)) }

heard-rx : (origin : Origin) → IsOrigin origin → Laws → (table : LifeTable) (acted : List Line) (moment size : ℕ) (air : List ℕ) → IsTable table → HasRanges size (rx moment air)
    → IsClear Receive acted (rx moment air) → own_refusal Receive table acted (rx moment air) ≡ None → IsHeardFrom origin table acted
    → IsHeardFrom origin table (rx moment air ∷ acted)
heard-rx origin from laws table acted moment size air rules ranges is own s =
    let sent = frames table (origin.broadcast table) in
    let number = slice_index origin.numbers (length (numbered_hearings origin.numbers acted)) in
    let behind = not-behind moment (receiver_clock acted) is.clock in
    record {
      heard = λ all.
          let (this, others) = and_parts (is_sent_frame table.late moment air (slice_get sent number)) _ all in
          let c = claimed table.late moment air (slice_get sent number) this in
          (c.time, ranges.0, s.heard_before moment behind, s.heard others);
      received_is = λ all.
          let (this, others) = and_parts (is_sent_frame table.late moment air (slice_get sent number)) _ all in
          let c = claimed table.late moment air (slice_get sent number) this in
          ap (λ r. cons_option r (receptions table acted))
          (received-near laws table (origin.broadcast table) (receptions table acted) moment number air c.frame rules (from table) own c.is c.near)
          ∙ ap (λ found. record { moment = moment; payload = payload_sent found } ∷ receptions table acted) (sym c.is)
          ∙ ap (λ rest. record { moment = moment; payload = payload_sent (slice_get sent number) } ∷ rest) (s.received_is others);
      heard_before = λ m after. after;
    }

-- a line more that was acted on
pub heard-line : (origin : Origin) → IsOrigin origin → Laws → (table : LifeTable) (acted : List Line) (line : Line) (size : ℕ) → IsTable table → HasRanges size line
    → refusal_of Receive table acted line ≡ None → IsHeardFrom origin table acted → IsHeardFrom origin table (line ∷ acted)
heard-line origin from laws table acted empty size rules ranges e s = record { heard = s.heard; received_is = s.received_is; heard_before = s.heard_before }
heard-line origin from laws table acted (rx moment air) size rules ranges e s =
    heard-rx origin from laws table acted moment size air rules ranges (clear Receive acted _ (or-none _ _ e).0) (or-none _ _ e).1 s
heard-line origin from laws table acted (show moment) size rules ranges e s =
    let is = clear Receive acted (show moment) (or-none _ _ e).0 in
    let behind = not-behind moment (receiver_clock acted) is.clock in
    record {
      heard = s.heard;
      received_is = s.received_is;
      heard_before = λ m after. s.heard_before m (behind-past m moment (receiver_clock acted) after behind);
    }
heard-line origin from laws table acted line size rules ranges e s = cc

-- at a moment that a line may have both pictures are one, where each frame is one of the broadcast
pub origin-pictures : (origin : Origin) → IsOrigin origin → Laws → (table : LifeTable) (acted : List Line) (moment : ℕ) → IsTable table
    → refusal_of Receive table acted (show moment) ≡ None → IsHeardFrom origin table acted → all_sent origin table acted ≡ true
    → received_picture table (receptions table acted) moment ≡ origin_picture origin table acted moment
origin-pictures origin from laws table acted moment rules e s all =
    let is = clear Receive acted (show moment) (or-none _ _ e).0 in
    ap (λ heard. received_picture table heard moment) (s.received_is all)
    ∙ laws.agree table (origin.broadcast table) (numbered_hearings origin.numbers acted) moment rules (from table) (s.heard all)
    (s.heard_before moment (not-behind moment (receiver_clock acted) is.clock))
