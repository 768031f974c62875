use Rattle.std.proofs.Common.{◌≡◌, ◌+◌, ◌≤◌, [], map, length}
use Rattle.toml.specs.View.{items_view}
use Rattle.life_table.specs.RowsOf.{radar_rows}
use Rattle.life_table.specs.Views.{radar_view}
use Rattle.life_table.proofs.document.radar_rows.Given as goal

abbrev pub invariant-loop-rest : goal.invariant-loop-rest
invariant-loop-rest l = (radar_rows l.fn.late l.fn.before [] (items_view l.fn.rows) ≡ radar_rows l.fn.late l.fn.before (map radar_view l.radars.items) (items_view l.rest)) × (length l.radars.items + length l.rest ≤ 2)

abbrev pub decreases-loop-rest : goal.decreases-loop-rest
decreases-loop-rest l = length l.rest
