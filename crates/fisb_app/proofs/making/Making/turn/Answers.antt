use Rattle.std.proofs.Common.{◌≤◌, ◌<◌, None, Some, sym, ap, subst, length, arith}
use Rattle.ground_core.specs.Told.{kept_told}
use Rattle.workload.specs.declared.step.Step.TheVariants.{Turn}
use Rattle.fisb_app.specs.declared.counts.Counts.{Counts}
use Rattle.fisb_app.specs.Past.{sent_frames, station_after, events}
use Rattle.fisb_app.specs.Reading.{frame_limit}
use Rattle.fisb_app.specs.Make.{after_step}
use Rattle.fisb_app.specs.MakingHolds.{MakingHolds}
use Rattle.fisb_app.proofs.Stepping.{refused-step, acted-step}
use Rattle.fisb_app.proofs.StepKinds.{turn-step, turn-made, full-turn, room-turn}
use Rattle.fisb_app.proofs.making.Making.turn.Goals as goal

pub returns-then-self-ge-FRAME_LIMIT : goal.returns-then-self-ge-FRAME_LIMIT
returns-then-self-ge-FRAME_LIMIT g c = λ table acted h.
    let after = turn-step table acted c.args.moment c.args.slot in
    let turns = ap (λ (n : Counts). n.turns) h.counts in
    let over = c.if-self-ge-FRAME_LIMIT.true in
    let full : frame_limit ≤ length (sent_frames table acted) = omega (arith, turns, over) in
    let (why, is) = full-turn (length (sent_frames table acted)) acted c.args.moment full in
    refused-step g.G.Sender.stands g.E.Ear.stands table acted _ _ _ why c.args.self.now after is h

pub returns-in_default : goal.returns-in_default
returns-in_default g c = λ table acted h.
    let after = turn-step table acted c.args.moment c.args.slot in
    let turns = ap (λ (n : Counts). n.turns) h.counts in
    let under = c.if-self-ge-FRAME_LIMIT.false in
    let room : length (sent_frames table acted) < frame_limit = omega (arith, turns, under) in
    subst (λ ground. MakingHolds g.G.Sender.stands g.E.Ear.stands table (after_step table acted (Turn c.args.moment c.args.slot)) (record c.args.self.now { ground = ground })) (sym c.in_default.ensures.same)
    (refused-step g.G.Sender.stands g.E.Ear.stands table acted _ _ _ _ c.args.self.now after
    (room-turn (length (sent_frames table acted)) acted c.args.moment (Some (kept_told c.in_default.field-0)) room
    (c.in_default.ensures.refused table (station_after acted) (events acted) h.ground)) h)

pub returns : goal.returns
returns g c = λ table acted h.
    let after = turn-step table acted c.args.moment c.args.slot in
    let turns = ap (λ (n : Counts). n.turns) h.counts in
    let under = c.if-self-ge-FRAME_LIMIT.false in
    let room : length (sent_frames table acted) < frame_limit = omega (arith, turns, under) in
    acted-step g.G.Sender.stands g.E.Ear.stands table acted _ _ _ _ after
    (room-turn (length (sent_frames table acted)) acted c.args.moment None room
    (c.in-Ok.ensures.in_time table (station_after acted) (events acted) h.ground))
    (turn-made c.histories_grow.ensures g.G.Sender.stands g.E.Ear.stands table acted c.args.moment c.args.slot c.args.self.now c.fill.new.self c.in-Ok.frame h
    (c.in-Ok.ensures.filled table (station_after acted) (events acted) h.ground)
    (c.in-Ok.ensures.frame table (station_after acted) (events acted) h.ground))
