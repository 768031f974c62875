use Rattle.std.proofs.Common.{ℕ, ◌<◌, ◌∙◌, arith, subst, sym, List}
use Rattle.std.specs.List.{All}
use Rattle.std.proofs.lemmas.List.Elements.{All-replicate}
use Rattle.radar_core.specs.Cells.{blank_cells}
use Rattle.radar_core.proofs.cells.Cells.blank.Goals as goal

pub of-requires : goal.of-requires
of-requires c = subst (λ (cells : List ℕ). All (λ cell. cell < 8) cells) (sym c.zeros.ensures) (All-replicate (λ cell. cell < 8) 128 0 (omega arith))

pub returns : goal.returns
unfolding blank_cells
returns c = c.of.ensures ∙ c.zeros.ensures
