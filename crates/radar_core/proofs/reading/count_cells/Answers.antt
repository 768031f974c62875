use Rattle.std.proofs.Common.{◌≡◌, ◌<◌, length, get_or, sym, ap, ◌∙◌, arith}
use Rattle.std.proofs.lemmas.List.{take_all}
use Rattle.radar_core.specs.Runs.{cells_in}
use Rattle.radar_core.proofs.RunCells.{length-cells_in-least, length-cells_in-more}
use Rattle.radar_core.proofs.reading.count_cells.Goals as goal

pub returns-then-runs-gt-CELLS : goal.returns-then-runs-gt-CELLS
returns-then-runs-gt-CELLS c =
    let least = length-cells_in-least c.args.runs.now in (λ e. absurd (omega arith), λ e. absurd (omega arith))

pub loop-run-preserved : goal.loop-run-preserved
loop-run-preserved c =
    let fits : get_or c.args.runs.now c.loop-run.run-index 0 < 256 = omega (arith, c.type_inv.runs c.loop-run.run-index) in
    let more = length-cells_in-more c.args.runs.now c.loop-run.run-index (omega arith) fits in
    record { is = omega (arith, c.loop-run.invariant.is); most = omega (arith, c.loop-run.invariant.most) }

pub returns : goal.returns
returns c =
    let all : c.from-2.result ≡ length (cells_in c.args.runs.now) =
    c.from-2.ensures ∙ c.loop-run.invariant.is ∙ ap (λ b. length (cells_in b)) (take_all c.loop-run.run-index c.args.runs.now (omega arith))
    in
    (λ e. sym all ∙ e, λ e. all ∙ e)
