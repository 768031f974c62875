-- The rows that a document writes: each the entry of its value after the rows before it, or the
-- first fault.
use Rattle.std.specs.Prelude.{ℕ, ◌+◌, ℤ, not, ◌==◌, if◌then◌else◌, List, [], ◌∷◌, ◌++◌, length}
use Rattle.std.specs.Prelude.{codes, find, is_some, Result, Ok, Err}
use Rattle.std.specs.Str.{bytes_eq}
use Rattle.toml.specs.Data.{Data, Items, no_items, item}
use Rattle.life_table.specs.LifeTable.{TextRow, RadarRow, row, radar}
use Rattle.life_table.specs.Document.{or_fault, member_count, integer_at, text_at, is_word}
use Rattle.life_table.specs.Document.{key_words, form_of, radar_product, life_in}
use Rattle.life_table.specs.declared.fault.RowFault.{RowFault}
use Rattle.life_table.specs.declared.fault.RowFault.TheVariants.{Shape, Word, Twice, As, Words}
use Rattle.life_table.specs.declared.fault.RowFault.TheVariants.{Form, Life, Product}
use Rattle.life_table.specs.Fault.{Fault, bad_row}

-- an answer, its value seen by a function
abbrev pub map_answer : {A B E : Type 0} → (A → B) → Result A E → Result B E
map_answer f (Ok x) = Ok (f x)
map_answer f (Err e) = Err e

-- what follows an answer
abbrev pub and_then : {A B E : Type 0} → (A → Result B E) → Result A E → Result B E
and_then go (Ok x) = go x
and_then go (Err e) = Err e

-- a fault of a row, with the row's number
abbrev pub with_row_number : {A : Type 0} → ℕ → Result A RowFault → Result A Fault
with_row_number number (Ok x) = Ok x
with_row_number number (Err reason) = Err (bad_row number reason)

abbrev pub row_of_its_own : ℕ → List TextRow → List ℕ → ℤ → ℤ → ℤ → Result TextRow RowFault
row_of_its_own late rows word words life form =
    if not (is_word word) then Err Word
    else if is_some (find (λ r. bytes_eq r.word word) rows) then Err Twice
    else or_fault Words (key_words words) (λ count.
    or_fault Form (form_of form) (λ shown. or_fault Life (life_in late shown life) (λ seconds.
    Ok (row word word count seconds shown))))

-- a row with words, a life and a form of its own
unfoldable pub own_text : ℕ → List TextRow → Data → Result TextRow RowFault
own_text late rows value =
    or_fault Shape (text_at (codes "type") value) (λ word.
    or_fault Shape (integer_at (codes "words") value) (λ words.
    or_fault Shape (integer_at (codes "life") value) (λ life.
    or_fault Shape (integer_at (codes "form") value) (λ form.
    row_of_its_own late rows word words life form))))

-- a row that is kept as an earlier row, which is kept as itself
abbrev pub alike_row : List TextRow → List ℕ → List ℕ → Result TextRow RowFault
alike_row rows word kind =
    if not (is_word word) then Err Word
    else if not (is_word kind) then Err Word
    else if is_some (find (λ r. bytes_eq r.word word) rows) then Err Twice
    else or_fault As (find (λ r. bytes_eq r.word kind) rows) (λ own.
    if not (bytes_eq own.kind kind) then Err As else Ok (row word kind own.words own.life own.form))

unfoldable pub alike_text : List TextRow → Data → Result TextRow RowFault
alike_text rows value = or_fault Shape (text_at (codes "type") value)
    (λ word. or_fault Shape (text_at (codes "as") value) (λ kind. alike_row rows word kind))

unfoldable pub text_entry : ℕ → List TextRow → Data → Result TextRow RowFault
text_entry late rows value =
    if member_count value == 4 then own_text late rows value
    else if member_count value == 2 then alike_text rows value
    else Err Shape

abbrev pub radar_row_of : ℕ → List RadarRow → ℤ → ℤ → ℤ → Result RadarRow RowFault
radar_row_of late rows product life form =
    or_fault Product (radar_product product) (λ number.
    if is_some (find (λ r. r.product == number) rows) then Err Twice
    else or_fault Form (form_of form) (λ shown.
    or_fault Life (life_in late shown life) (λ seconds. Ok (radar number seconds shown))))

unfoldable pub radar_entry : ℕ → List RadarRow → Data → Result RadarRow RowFault
radar_entry late rows value =
    if not (member_count value == 3) then Err Shape
    else or_fault Shape (integer_at (codes "product") value) (λ product.
    or_fault Shape (integer_at (codes "life") value) (λ life.
    or_fault Shape (integer_at (codes "form") value)
    (λ form. radar_row_of late rows product life form)))

-- the rows of reports, after those that are read; the document is row 0
abbrev pub text_rows : ℕ → List TextRow → Items → Result (List TextRow) Fault
text_rows late rows no_items = Ok rows
text_rows late rows (item value more) = and_then (λ r. text_rows late (rows ++ r ∷ []) more)
    (with_row_number (length rows + 1) (text_entry late rows value))

-- the rows of radar, after so many rows of reports
abbrev pub radar_rows : ℕ → ℕ → List RadarRow → Items → Result (List RadarRow) Fault
radar_rows late before rows no_items = Ok rows
radar_rows late before rows (item value more) = and_then
    (λ r. radar_rows late before (rows ++ r ∷ []) more)
    (with_row_number (before + length rows + 1) (radar_entry late rows value))
