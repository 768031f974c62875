use Rattle.std.proofs.Common.{◌≡◌, ◌+◌, ◌≤◌, [], map, length}
use Rattle.toml.specs.View.{items_view}
use Rattle.life_table.specs.RowsOf.{text_rows}
use Rattle.life_table.specs.Views.{text_view}
use Rattle.life_table.proofs.document.text_rows.Given as goal

abbrev pub invariant-loop-rest : goal.invariant-loop-rest
invariant-loop-rest l = (text_rows l.fn.late [] (items_view l.fn.rows) ≡ text_rows l.fn.late (map text_view l.texts.items) (items_view l.rest)) × (length l.texts.items + length l.rest ≤ 64)

abbrev pub decreases-loop-rest : goal.decreases-loop-rest
decreases-loop-rest l = length l.rest
