-- The TAF, if there is one in this minute.
use Rattle.std.proofs.Common.{◌≡◌, [], ◌∷◌}
use Rattle.workload.specs.declared.progress.Phase.TheVariants.{Taf}
use Rattle.workload.specs.Progress.{still_to_come}
use Rattle.workload.proofs.progress.Progress.taf.Goals as goal
use Rattle.workload.proofs.Ranges.{fits-at, FitsPhase-after_taf, distance-after_taf, distance-within}
use Rattle.workload.proofs.Transitions.{rest-within, taf-none, taf-next}

pub returns-then-station-ge40-clause-sound : goal.returns-then-station-ge40-clause-sound
returns-then-station-ge40-clause-sound c =
    let none : c.args.self.now.listed.items ≡ [] = fits-at c.args.self.now Taf c.requires.sound c.requires.phase in
    record {
      minutes = c.requires.sound.minutes;
      phase = FitsPhase-after_taf c.args.self.now.minute c.phase_after_taf-next.result c.args.self.now.listed.items c.phase_after_taf-next.ensures none;
    }

pub returns-then-station-ge40-clause-handed : goal.returns-then-station-ge40-clause-handed
unfolding still_to_come
returns-then-station-ge40-clause-handed c =
    let none : c.args.self.now.listed.items ≡ [] = fits-at c.args.self.now Taf c.requires.sound c.requires.phase in
    rest-within _ _ _ _ _ _ _ _ _ [] c.requires.more c.requires.phase
    (taf-none c.args.self.now.minute c.args.self.now.draws.state c.args.self.now.listed.items c.phase_after_taf-next.result c.if-station-ge40.true none c.phase_after_taf-next.ensures)

pub returns-then-station-ge40-clause-nearer : goal.returns-then-station-ge40-clause-nearer
returns-then-station-ge40-clause-nearer c =
    distance-within c.args.self.now c.phase_after_taf-next.result c.requires.phase (distance-after_taf c.args.self.now.minute c.phase_after_taf-next.result c.phase_after_taf-next.ensures)

pub returns-clause-sound : goal.returns-clause-sound
returns-clause-sound c =
    let none : c.args.self.now.listed.items ≡ [] = fits-at c.args.self.now Taf c.requires.sound c.requires.phase in
    record {
      minutes = c.requires.sound.minutes;
      phase = FitsPhase-after_taf c.args.self.now.minute c.phase_after_taf-next.result c.args.self.now.listed.items c.phase_after_taf-next.ensures none;
    }

pub returns-clause-handed : goal.returns-clause-handed
unfolding still_to_come
returns-clause-handed c =
    let none : c.args.self.now.listed.items ≡ [] = fits-at c.args.self.now Taf c.requires.sound c.requires.phase in
    rest-within _ _ _ _ _ _ _ _ _ (c.in_ok-step.step ∷ []) c.requires.more c.requires.phase
    (taf-next c.args.self.now.minute c.moment.result c.args.self.now.draws.state c.taf.new.self.state c.args.self.now.listed.items c.phase_after_taf-next.result
    (c.in_ok-step.step ∷ []) c.if-station-ge40.false none c.phase_after_taf-next.ensures c.moment.ensures c.in_ok-step.ensures)

pub returns-clause-nearer : goal.returns-clause-nearer
returns-clause-nearer c =
    distance-within c.args.self.now c.phase_after_taf-next.result c.requires.phase (distance-after_taf c.args.self.now.minute c.phase_after_taf-next.result c.phase_after_taf-next.ensures)
