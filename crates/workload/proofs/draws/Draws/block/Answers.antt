-- The intensities of a block are drawn.
use Rattle.std.proofs.Common.{◌<◌, ℕ, List, sym, subst, arith}
use Rattle.std.specs.List.{All}
use Rattle.workload.proofs.draws.Draws.block.Goals as goal
use Rattle.workload.proofs.DrawLemmas.{draws-below}
use Rattle.workload.proofs.PartLemmas.{block-is}

pub cells_of-requires : goal.cells_of-requires
cells_of-requires c =
    let P : List ℕ → Type 0 = λ numbers. All (λ n. n < 8) numbers in
    subst P (sym c.intensities.ensures.numbers) (draws-below 8 16 c.args.self.now.state (omega arith))

pub returns : goal.returns
returns c =
    block-is c.args.moment c.args.number c.args.self.now.state c.intensities.new.self.state c.intensities.new.intensities c.cells_of.result
    c.intensities.ensures.numbers c.cells_of.ensures c.intensities.ensures.state
