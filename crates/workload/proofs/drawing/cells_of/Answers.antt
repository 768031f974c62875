-- The cells of intensities are cells of a block.
use Rattle.std.proofs.Common.{subst, sym, List, ℕ, ◌<◌}
use Rattle.std.specs.List.{All}
use Rattle.workload.proofs.drawing.cells_of.Goals as goal
use Rattle.workload.proofs.CellLemmas.{cells_of-small}

pub unwrap-requires : goal.unwrap-requires
unwrap-requires c =
    let small = cells_of-small c.args.intensities.now c.told-intensities c.requires in
    let P : List ℕ → Type 0 = λ cells. All (λ n. n < 8) cells in
    c.new.ensures.exactly.1 (subst P (sym c.spread.ensures) small)
