-- The table of a tree, part by part.
use Rattle.std.proofs.Common.{◌≡◌, ◌≢◌, ℕ, List, [], length, Some, None, Result, Ok, Err, ap, inl, inr}
use Rattle.std.proofs.lemmas.Bool.{cases_Bool}
use Rattle.std.proofs.lemmas.Str.{IsUtf8-from_is_utf8, is_utf8-from_IsUtf8}
use Rattle.std.specs.Str.{IsUtf8, is_utf8}
use Rattle.toml.specs.Data.{Data, Members, table}
use Rattle.toml.specs.Parse.{parse_document}
use Rattle.life_table.specs.LifeTable.{TextRow, RadarRow}
use Rattle.life_table.specs.Document.{Head, head}
use Rattle.life_table.specs.RowsOf.{and_then, text_rows, radar_rows}
use Rattle.life_table.specs.TableIn.{table_of_tree, table_in}
use Rattle.life_table.specs.declared.fault.RowFault.{RowFault}
use Rattle.life_table.specs.declared.fault.TableFault.{TableFault}
use Rattle.life_table.specs.declared.fault.TableFault.TheVariants.{NotToml, BadRow, NoMemory}
use Rattle.life_table.specs.Fault.{Fault, not_toml, bad_row}
use Rattle.life_table.specs.Views.{IsFault}

-- a fault is that of what follows too
fault_followed : {A B : Type 0} (fault : TableFault) (answer : Result A Fault) (go : A → Result B Fault) → IsFault fault answer → IsFault fault (and_then go answer)
fault_followed NotToml answer go is = ap (and_then go) is
fault_followed (BadRow row reason) answer go is = ap (and_then go) is
fault_followed NoMemory answer go is = tt

-- but for out of memory a fault is told
pub any_fault : {A : Type 0} (fault : TableFault) (answer : Result A Fault) → (fault ≢ NoMemory → IsFault fault answer) → IsFault fault answer
any_fault NotToml answer is = is (λ e. cc)
any_fault (BadRow row reason) answer is = is (λ e. cc)
any_fault NoMemory answer is = tt

pub bad_head : (tree : Data) (reason : RowFault) → Err reason ≡ head tree → table_of_tree tree ≡ Err (bad_row 0 reason)
unfolding table_of_tree
bad_head tree reason e = rw (← e)

pub bad_text : (tree : Data) (h : Head) (fault : TableFault) → Ok h ≡ head tree → IsFault fault (text_rows h.late [] h.texts) → IsFault fault (table_of_tree tree)
unfolding table_of_tree
bad_text tree h fault e texts = rw (← e) (fault_followed fault (text_rows h.late [] h.texts) _ texts)

pub bad_radar : (tree : Data) (h : Head) (texts : List TextRow) (before : ℕ) (fault : TableFault) → Ok h ≡ head tree → text_rows h.late [] h.texts ≡ Ok texts → before ≡ length texts
    → IsFault fault (radar_rows h.late before [] h.radars) → IsFault fault (table_of_tree tree)
unfolding table_of_tree
bad_radar tree h texts before fault e read_texts same radars = rw (← e, read_texts, ← same) (fault_followed fault (radar_rows h.late before [] h.radars) _ radars)

pub whole_table : (tree : Data) (h : Head) (texts : List TextRow) (radars : List RadarRow) (before : ℕ) → Ok h ≡ head tree → text_rows h.late [] h.texts ≡ Ok texts → before ≡ length texts
    → radar_rows h.late before [] h.radars ≡ Ok radars → table_of_tree tree ≡ Ok (record { late = h.late; texts = texts; radars = radars })
unfolding table_of_tree
whole_table tree h texts radars before e read_texts same read_radars = rw (← e, read_texts, ← same, read_radars)

pub text_is_document : (text : List ℕ) (entries : Members) → IsUtf8 text → parse_document text ≡ Some entries → table_in text ≡ table_of_tree (table entries)
unfolding table_in
text_is_document text entries utf8 e = rw (is_utf8-from_IsUtf8 text utf8, e)

pub no_document : (text : List ℕ) → (IsUtf8 text → parse_document text ≡ None) → table_in text ≡ Err not_toml
unfolding table_in
no_document text refused =
    elim (cases_Bool (is_utf8 text)) [
      | inl utf8 ↦ rw (utf8, refused (IsUtf8-from_is_utf8 text utf8))
      | inr other ↦ rw other
    ]
