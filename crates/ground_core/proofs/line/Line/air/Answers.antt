use Rattle.std.proofs.Common.{◌≡◌, ◌+◌, ◌<◌, ◌≤◌, length, sym, subst, rules}
use Rattle.ground_core.specs.Piece.{live_by}
use Rattle.ground_core.specs.Turn.{IsDropped, IsFrontAired, IsStopped}
use Rattle.ground_core.specs.Views.{latest_at, pieces_in}
use Rattle.ground_core.proofs.Kept.{kept_then, live_kept}
use Rattle.ground_core.proofs.Turns.{IsTurned, IsDone, turned_drop, turned_air, turned_stops, turned_ends, turns_left, turns_ahead}
use Rattle.ground_core.proofs.line.Line.air.Goals as goal
use Rattle.ground_core.proofs.line.Line.air.Goals.{in-Dropped, in-Aired}

live : (c : goal.In-Stopped) → live_by (latest_at c.loop-turn.newest) c.args.moment ≡ live_by (latest_at c.args.newest.now) c.args.moment
live c = live_kept c.args.moment (latest_at c.args.newest.now) (latest_at c.loop-turn.newest) c.loop-turn.invariant.kept

done_at : (c : goal.In-Stopped) → IsDone (live_by (latest_at c.args.newest.now) c.args.moment) (pieces_in c.args.self.now) c.turn.new.frames (pieces_in c.turn.new.self) c.loop-turn.aired
done_at c = turned_stops _ _ c.loop-turn._turn c.loop-turn.frames c.turn.new.frames (pieces_in c.loop-turn.self) (pieces_in c.turn.new.self) c.loop-turn.aired c.loop-turn.invariant.turned
    (subst (λ f. IsStopped f (pieces_in c.loop-turn.self) c.loop-turn.frames (pieces_in c.turn.new.self) c.turn.new.frames) (live c) c.in-Stopped.ensures.turn)

pub returns-in-Stopped-clause-number : goal.returns-in-Stopped-clause-number
returns-in-Stopped-clause-number c = (done_at c).number

pub returns-in-Stopped-clause-frames : goal.returns-in-Stopped-clause-frames
returns-in-Stopped-clause-frames c = (done_at c).frames_are

pub returns-in-Stopped-clause-line : goal.returns-in-Stopped-clause-line
returns-in-Stopped-clause-line c = (done_at c).line

pub returns-in-Stopped-clause-among : goal.returns-in-Stopped-clause-among
returns-in-Stopped-clause-among c = (done_at c).among

pub returns-in-Stopped-clause-kept : goal.returns-in-Stopped-clause-kept
returns-in-Stopped-clause-kept c key = kept_then c.args.moment _ _ _ (c.loop-turn.invariant.kept key) (c.turn.ensures.kept key)

pub returns-in-Stopped-clause-placed : goal.returns-in-Stopped-clause-placed
returns-in-Stopped-clause-placed c h = c.turn.ensures.placed (c.loop-turn.invariant.placed h)

pub loop-turn-preserved : goal.loop-turn-preserved
loop-turn-preserved c =
    let some : c.loop-turn._turn < length (pieces_in c.args.self.now) = turns_ahead c.args.self.now.places.items c.loop-turn._turn (search rules) in
    let live = live_by (latest_at c.args.newest.now) c.args.moment in
    let start = pieces_in c.args.self.now in
    let same = live_kept c.args.moment (latest_at c.args.newest.now) (latest_at c.loop-turn.newest) c.loop-turn.invariant.kept in
    record {
      turned = elim c.match-turn.branch [
        | in-Dropped w ↦ subst (IsTurned live start (c.loop-turn._turn + 1) c.turn.new.frames (pieces_in c.turn.new.self)) (sym w.aired-is)
            (turned_drop live start c.loop-turn._turn c.loop-turn.frames c.turn.new.frames (pieces_in c.loop-turn.self) (pieces_in c.turn.new.self) c.loop-turn.aired
            c.loop-turn.invariant.turned some
            (subst (λ f. IsDropped f (pieces_in c.loop-turn.self) c.loop-turn.frames (pieces_in c.turn.new.self) c.turn.new.frames) same w.in-Dropped.ensures.turn))
        | in-Aired w ↦ subst (IsTurned live start (c.loop-turn._turn + 1) c.turn.new.frames (pieces_in c.turn.new.self)) (sym w.aired-is)
            (turned_air live start c.loop-turn._turn c.loop-turn.frames c.turn.new.frames (pieces_in c.loop-turn.self) (pieces_in c.turn.new.self) c.loop-turn.aired
            c.loop-turn.invariant.turned some
            (subst (λ f. IsFrontAired f (pieces_in c.loop-turn.self) c.loop-turn.frames (pieces_in c.turn.new.self) c.turn.new.frames) same w.in-Aired.ensures.turn))
      ];
      placed = λ h. c.turn.ensures.placed (c.loop-turn.invariant.placed h);
      kept = λ key. kept_then c.args.moment _ _ _ (c.loop-turn.invariant.kept key) (c.turn.ensures.kept key);
    }

pub returns-clause-line : goal.returns-clause-line
returns-clause-line c =
    let all : length (pieces_in c.args.self.now) ≤ c.loop-turn._turn = turns_left c.args.self.now.places.items c.loop-turn._turn (search rules) in
    (turned_ends _ _ c.loop-turn._turn c.loop-turn.frames (pieces_in c.loop-turn.self) c.loop-turn.aired c.loop-turn.invariant.turned all).line

pub returns-clause-among : goal.returns-clause-among
returns-clause-among c =
    let all : length (pieces_in c.args.self.now) ≤ c.loop-turn._turn = turns_left c.args.self.now.places.items c.loop-turn._turn (search rules) in
    (turned_ends _ _ c.loop-turn._turn c.loop-turn.frames (pieces_in c.loop-turn.self) c.loop-turn.aired c.loop-turn.invariant.turned all).among
