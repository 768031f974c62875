-- What the rows that a table keeps stand for, and the faults of the code.
use Rattle.std.specs.Prelude.{◌≡◌, ⊤, ℕ, List, map, max, Option, unwrap_or, Result, Err}
use Rattle.std.specs.Prelude.{string_bytes}
use Rattle.life_table.specs.LifeTable.{LifeTable, TextRow, RadarRow, row, radar}
use Rattle.life_table.specs.declared.rows.KeptText.{KeptText}
use Rattle.life_table.specs.declared.rows.KeptRadar.{KeptRadar}
use Rattle.life_table.specs.declared.rows.JudgedText.{JudgedText}
use Rattle.life_table.specs.declared.document.Head.{Head}
use Rattle.life_table.specs.Document as spec
use Rattle.life_table.specs.Fault.{Fault, not_toml, bad_row}
use Rattle.life_table.specs.declared.fault.TableFault.{TableFault}
use Rattle.life_table.specs.declared.fault.TableFault.TheVariants.{NotToml, BadRow, NoMemory}
use Rattle.toml.specs.View.{items_view}

abbrev pub text_view : KeptText → TextRow
text_view kept =
    row (string_bytes kept.word) (string_bytes kept.kind) kept.words kept.life kept.form

abbrev pub radar_view : KeptRadar → RadarRow
radar_view kept = radar kept.product kept.life kept.form

abbrev pub table_of : ℕ → List KeptText → List KeptRadar → LifeTable
table_of late texts radars =
    record { late = late; texts = map text_view texts; radars = map radar_view radars }

-- the greater of a number and the greatest so far, if there is one
abbrev pub greater : Option ℕ → ℕ → ℕ
greater best life = max (unwrap_or best 0) life

abbrev pub judged_view : JudgedText → TextRow
judged_view judged = row judged.word.now judged.kind.now judged.words judged.life judged.form

abbrev pub head_view : Head → spec.Head
head_view head =
    record {
      late = head.late;
      texts = items_view head.texts.now;
      radars = items_view head.radars.now;
    }

-- the fault is the one of the answer; out of memory may come at any answer
abbrev pub IsFault : {A : Type 0} → TableFault → Result A Fault → Type 0
IsFault NotToml answer = answer ≡ Err not_toml
IsFault (BadRow row reason) answer = answer ≡ Err (bad_row row reason)
IsFault NoMemory answer = ⊤
