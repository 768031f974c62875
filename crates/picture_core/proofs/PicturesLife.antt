-- The life of what a receiver learns is that of its key.
use Rattle.std.proofs.Common.{◌≡◌, ℕ, ◌+◌, ◌==◌, List, Option, Some, None, Result, Ok, Err, refl, sym}
use Rattle.std.proofs.Common.{ap, ◌∙◌, inl, inr}
use Rattle.std.proofs.lemmas.Bool.{cases_Bool}
use Rattle.dlac_text.specs.Reports.{reports_of}
use Rattle.life_table.specs.LifeTable.{LifeTable, TextRow, text_row}
use Rattle.text_reports.specs.TextKey.{TextKey, KeyFault, text_key}
use Rattle.picture_core.specs.Entry.{Entry}
use Rattle.picture_core.specs.Key.{Key, text_report}
use Rattle.list_members.specs.Membership.{IsIn}
use Rattle.picture_core.specs.Contents.{entry_by_row, entry_by_key, report_entries, payload_entries, life_of, life_of_row}
use Rattle.life_table.specs.Products.{text_product}
use Rattle.picture_core.specs.Kept.{HaveLife}
use Rattle.picture_core.specs.Lives.{HaveLife-flat_map}
use Rattle.picture_core.proofs.RadarLife.{radar-HaveLife}

by_row :
    (life : ℕ) (key : TextKey) (version : ℕ) (text : List ℕ) (row : Option TextRow) (e : Entry) → life ≡ life_of_row row
    → IsIn e (entry_by_row key version text row) → (e.key ≡ text_report key) × (e.until ≡ e.version + life)
by_row life key version text None e is here = absurd here
by_row life key version text (Some row) e is (inr none) = absurd none
by_row life key version text (Some row) e is (inl same) = (
  ap (λ (x : Entry). x.key) same,
  ap (λ (x : Entry). x.until) same ∙ ap (λ (n : ℕ). version + n) (sym is)
      ∙ ap (λ (v : ℕ). v + life) (sym (ap (λ (x : Entry). x.version) same)),
)

by_key :
    (table : LifeTable) (version : ℕ) (text : List ℕ) (key : Result TextKey KeyFault)
    → HaveLife (life_of table) (entry_by_key table version text key)
by_key table version text (Err fault) e here = absurd here
by_key table version text (Ok key) e here =
    let row = by_row (life_of_row (text_row table key.kind)) key version text (text_row table key.kind) e refl here in
    row.1 ∙ ap (λ (k : Key). e.version + life_of table k) (sym row.0)

pub report-HaveLife :
    (table : LifeTable) (version : ℕ) (text : List ℕ) → HaveLife (life_of table) (report_entries table version text)
report-HaveLife table version text = by_key table version text (text_key table text)

pub payload-HaveLife :
    (table : LifeTable) (product version : ℕ) (payload : List ℕ)
    → HaveLife (life_of table) (payload_entries table product version payload)
payload-HaveLife table product version payload = elim (cases_Bool (product == text_product)) [
  | inl t ↦
      rw t (HaveLife-flat_map (life_of table) (report_entries table version) (reports_of payload) (report-HaveLife table version))
  | inr f ↦ rw f (radar-HaveLife table product version payload)
]
