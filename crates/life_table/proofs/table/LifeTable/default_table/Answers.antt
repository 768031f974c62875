use Rattle.std.proofs.Common.{◌≡◌, List, IfOk, sym, subst, refl}
use Rattle.life_table.specs.LifeTable.{LifeTable, TextRow, RadarRow, default_table}
use Rattle.life_table.specs.Rules.{IsTable}
use Rattle.life_table.proofs.Default.{default_table_keeps_the_rules}
use Rattle.life_table.proofs.table.LifeTable.default_table.Goals as goal

-- a table of the default rows is the default table
of_rows : (texts : List TextRow) (radars : List RadarRow) (t : LifeTable) → t.late ≡ 600 → texts ≡ t.texts → radars ≡ t.radars → record { late = 600; texts = texts; radars = radars } ≡ t
of_rows texts radars t e f g = rw (f, g, ← e)

late : default_table.late ≡ 600
unfolding default_table
late = refl

pub of_rows-requires : goal.of_rows-requires
of_rows-requires c = subst IsTable (sym (of_rows _ _ default_table late c.in_ok-texts.ensures c.in_ok-radars.ensures)) default_table_keeps_the_rules

pub returns : goal.returns
returns c = subst (λ t. IfOk c.of_rows.result (λ table. table ≡ t)) (of_rows _ _ default_table late c.in_ok-texts.ensures c.in_ok-radars.ensures) c.of_rows.ensures
