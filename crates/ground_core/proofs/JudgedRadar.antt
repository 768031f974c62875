-- What stands against radar whose product has a row and which records can name.
use Rattle.std.proofs.Common.{◌≡◌, ℕ, ◌<◌, Bool, true, not, if◌then◌else◌, List, Option, Some, None, ap, ◌∙◌, inl, inr, arith}
use Rattle.life_table.specs.LifeTable.{LifeTable, RadarRow, radar_row}
use Rattle.life_table.specs.Rules.{IsTable}
use Rattle.ground_core.specs.Refusal.{bad_block, timing, version_refusal, radar_refusal}
use Rattle.ground_core.proofs.GivenRadar.{of_row}

pub radar_judged : (moment version : ℕ) (named : Bool) (kept : List (Option ℕ)) (row : RadarRow) (found : Option RadarRow) → found ≡ Some row → named ≡ true
    → radar_refusal moment version named kept found ≡ version_refusal moment (timing row.form version row.life) kept None
radar_judged moment version named kept row found e n =
    ap (radar_refusal moment version named kept) e
    ∙ ap (λ b. if not b then Some bad_block else version_refusal moment (timing row.form version row.life) kept None) n

pub known_product : (table : LifeTable) (product : ℕ) (row : RadarRow) → IsTable table → radar_row table product ≡ Some row → product < 2048
known_product table product row is_table found = elim (of_row table product row is_table found) [
  | inl e ↦ (let same : product ≡ 63 = e in omega arith)
  | inr e ↦ (let same : product ≡ 64 = e in omega arith)
]
