-- A METAR of a station, if it has one in this minute.
use Rattle.std.proofs.Common.{◌<◌, ◌≤◌, [], ◌∷◌, arith}
use Rattle.workload.specs.declared.progress.Phase.TheVariants.{Metar}
use Rattle.workload.specs.Progress.{still_to_come}
use Rattle.workload.proofs.progress.Progress.metar.Goals as goal
use Rattle.workload.proofs.Ranges.{fits-at}
use Rattle.workload.proofs.Transitions.{rest-within, metars-none, metars-next, metars-end}

pub returns-then-station-eq40-clause-handed : goal.returns-then-station-eq40-clause-handed
unfolding still_to_come
returns-then-station-eq40-clause-handed c =
    let last : 40 ≤ c.args.station = omega arith in
    rest-within _ _ _ _ _ _ _ _ _ [] c.requires.more c.requires.phase
    (metars-end c.args.self.now.minute c.args.station c.args.self.now.draws.state c.args.self.now.listed.items last)

pub returns-then-station-self-clause-handed : goal.returns-then-station-self-clause-handed
unfolding still_to_come
returns-then-station-self-clause-handed c =
    let fits = fits-at c.args.self.now (Metar c.args.station) c.requires.sound c.requires.phase in
    let inside : c.args.station < 40 = omega (arith, fits.0) in
    rest-within _ _ _ _ _ _ _ _ _ [] c.requires.more c.requires.phase
    (metars-none c.args.self.now.minute c.args.station c.args.self.now.draws.state c.args.self.now.listed.items inside c.if-station-self.true)

pub returns-clause-handed : goal.returns-clause-handed
unfolding still_to_come
returns-clause-handed c =
    let fits = fits-at c.args.self.now (Metar c.args.station) c.requires.sound c.requires.phase in
    let inside : c.args.station < 40 = omega (arith, fits.0) in
    rest-within _ _ _ _ _ _ _ _ _ (c.in_ok-step.step ∷ []) c.requires.more c.requires.phase
    (metars-next c.args.self.now.minute c.args.station c.moment.result c.args.self.now.draws.state c.metar.new.self.state c.args.self.now.listed.items
    (c.in_ok-step.step ∷ []) inside c.if-station-self.false c.moment.ensures c.in_ok-step.ensures)
