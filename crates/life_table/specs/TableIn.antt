-- The table that a text writes, or why it writes none.
use Rattle.std.specs.Prelude.{ℕ, if◌then◌else◌, List, [], length, Option, Some, None, Result, Ok}
use Rattle.std.specs.Prelude.{Err}
use Rattle.std.specs.Str.{is_utf8}
use Rattle.toml.specs.Data.{Data, table, Members}
use Rattle.toml.specs.Parse.{parse_document}
use Rattle.life_table.specs.LifeTable.{LifeTable}
use Rattle.life_table.specs.Document.{Head, head}
use Rattle.life_table.specs.RowsOf.{and_then, with_row_number, text_rows, radar_rows}
use Rattle.life_table.specs.Fault.{Fault, not_toml}

abbrev pub table_of_head : Head → Result LifeTable Fault
table_of_head h = and_then
    (λ texts. and_then (λ radars. Ok (record { late = h.late; texts = texts; radars = radars }))
    (radar_rows h.late (length texts) [] h.radars)) (text_rows h.late [] h.texts)

-- the table of a document's tree, or its first faulty row with the first fault
unfoldable pub table_of_tree : Data → Result LifeTable Fault
table_of_tree tree = and_then table_of_head (with_row_number 0 (head tree))

abbrev pub table_of_document : Option Members → Result LifeTable Fault
table_of_document None = Err not_toml
table_of_document (Some members) = table_of_tree (table members)

-- a text that is no UTF-8 is no document
unfoldable pub table_in : List ℕ → Result LifeTable Fault
table_in text = if is_utf8 text then table_of_document (parse_document text) else Err not_toml
