-- A row has the longest life of its product, and a look-up finds that row.
use Rattle.std.proofs.Common.{◌≡◌, ◌≢◌, ◌⊎◌, ◌↔◌, ℕ, ◌≤◌, ◌==◌, nat_le, Bool, true, List, [], ◌∷◌, map, filter, fold, max, Option, Some, None, refl, sym, subst, ◌∙◌, arith, inl, inr}
use Rattle.std.specs.List.{AllByRecursion}
use Rattle.std.specs.Str.{bytes_eq}
use Rattle.std.proofs.lemmas.Bool.{cases_Bool, eq-eqb, eqb-true, ne_eqb, leb-true, leb-false, false≢true}
use Rattle.std.proofs.lemmas.List.Elements.{recursion_from_All}
use Rattle.life_table.specs.LifeTable.{LifeTable, TextRow, RadarRow, radar_row, greatest_of, longest}
use Rattle.life_table.specs.Longest.{IsLifeOf, of_text, of_radar, IsLongest}
use Rattle.life_table.specs.Rules.{IsTable, IsTextRow, IsRadarRow}
use Rattle.life_table.proofs.Finding.{found_product}
use Rattle.life_table.proofs.Greatest.{fold_above, found_first, greatest_above}

-- a row of a list with this life and a property
record IsOne {X : Type 0} (P : X → Type 0) (life : X → ℕ) (most : ℕ) : Type 0 where
  row : X
  has : P row
  is : life row ≡ most

max_is : (a b : ℕ) → (max a b ≡ a) ⊎ (max a b ≡ b)
max_is a b = elim (cases_Bool (nat_le a b)) [ inl t ↦ inr (omega (arith, leb-true a b t)) | inr f ↦ inl (omega (arith, leb-false a b f)) ]

-- the greatest of a row's life and of others is that of one of them
attained_from :
    {X : Type 0} (P : X → Type 0) (life : X → ℕ) (start : ℕ) (rows : List X) → IsOne P life start →
    AllByRecursion P rows → IsOne P life (fold max start (map life rows))
attained_from P life start [] one all = one
attained_from P life start (r ∷ rows) one all =
    let next : IsOne P life (max start (life r)) =
    elim (max_is start (life r)) [
      | inl e ↦ subst (IsOne P life) (sym e) one
      | inr e ↦ subst (IsOne P life) (sym e) (record { row = r; has = all.0; is = refl })
    ] in
    attained_from P life (max start (life r)) rows next all.1

attained :
    {X : Type 0} (P : X → Type 0) (life : X → ℕ) (rows : List X) (most : ℕ) → AllByRecursion P rows →
    greatest_of (map life rows) ≡ Some most → IsOne P life most
attained P life [] most all e = absurd (cc)
attained P life (q ∷ rows) most all e =
    let same : fold max (life q) (map life rows) ≡ most = cc in
    subst (IsOne P life) same (attained_from P life (life q) rows (record { row = q; has = all.0; is = refl }) all.1)

-- the rows that pass a test, each with what it has in the list
passed : {X : Type 0} (P : X → Type 0) (test : X → Bool) (rows : List X) → AllByRecursion P rows →
    AllByRecursion (λ r. P r × (test r ≡ true)) (filter test rows)
passed P test [] all = tt
passed P test (r ∷ rows) all =
    elim (cases_Bool (test r)) [
      | inl t ↦ rw t ((all.0, t), passed P test rows all.1)
      | inr f ↦ rw f (passed P test rows all.1)
    ]

-- a life that a look-up finds is at most the longest one, which is there
pub at_most_longest :
    (t : LifeTable) (product life : ℕ) → IsLifeOf t product life →
    (most : ℕ) × (longest t product ≡ Some most) × (life ≤ most)
at_most_longest t product life (of_text word row reports found same) =
    let above = greatest_above (λ (r : TextRow). r.life) (λ r. bytes_eq r.word word) t.texts row found in
    (above.0, rw reports above.1, omega (arith, above.2, same))
at_most_longest t product life (of_radar row other found same) =
    let first = found_first (λ (r : RadarRow). r.product == product) t.radars row found in
    let lives : List ℕ = map (λ r. r.life) first.0 in
    (fold max row.life lives, rw (ne_eqb product 413 other, first.1) refl, omega (arith, fold_above lives row.life, same))

-- the longest life is that of a row that a look-up finds
pub longest_found :
    (t : LifeTable) (product most : ℕ) → IsTable t → longest t product ≡ Some most → IsLifeOf t product most
longest_found t product most rules e =
    elim (cases_Bool (product == 413)) [
      | inl reports ↦
          let e' : greatest_of (map (λ r. r.life) t.texts) ≡ Some most = rw reports at e in
          let one = attained (IsTextRow t) (λ r. r.life) t.texts most (recursion_from_All (IsTextRow t) t.texts rules.all_texts) e' in
          of_text one.row.word one.row (eqb-true product 413 reports) one.has.found one.is
      | inr other ↦
          let test : RadarRow → Bool = λ r. r.product == product in
          let e' : greatest_of (map (λ r. r.life) (filter test t.radars)) ≡ Some most = rw other at e in
          let all = passed (IsRadarRow t) test t.radars (recursion_from_All (IsRadarRow t) t.radars rules.all_radars) in
          let one = attained (λ r. IsRadarRow t r × (test r ≡ true)) (λ r. r.life) (filter test t.radars) most all e' in
          let same : one.row.product ≡ product = eqb-true one.row.product product one.has.1 in
          of_radar one.row (λ is. false≢true (sym other ∙ eq-eqb product 413 is))
          (subst (λ p. radar_row t p ≡ Some one.row) same one.has.0.found) one.is
    ]

pub longest-is :
    (t : LifeTable) (product life : ℕ) → IsTable t → (longest t product ≡ Some life) ↔ IsLongest t product life
longest-is t product life rules = (
  λ e. record {
    attained = longest_found t product life rules e;
    most = λ other is.
        let above = at_most_longest t product other is in
        let same : Some above.0 ≡ Some life = sym above.1 ∙ e in
        let least : above.0 ≡ life = cc in
        omega (arith, above.2);
  },
  λ is.
      let above = at_most_longest t product life is.attained in
      let back = is.most above.0 (longest_found t product above.0 rules above.1) in
      let same : above.0 ≡ life = omega (arith, above.2) in
      subst (λ n. longest t product ≡ Some n) same above.1,
)

no_number : (answer : Option ℕ) → ((n : ℕ) → answer ≢ Some n) → answer ≡ None
no_number None never = refl
no_number (Some n) never = absurd (never n refl)

pub longest-none :
    (t : LifeTable) (product : ℕ) → IsTable t → (longest t product ≡ None) ↔ ((life : ℕ) → ¬ IsLifeOf t product life)
longest-none t product rules = (
  λ e life is.
      let above = at_most_longest t product life is in
      let same : None ≡ Some above.0 = sym e ∙ above.1 in
      absurd (cc),
  λ never. no_number (longest t product) (λ n e. never n (longest_found t product n rules e)),
)

-- the product of a radar row that keeps the rules is not that of reports
pub radar_below :
    (t : LifeTable) (product : ℕ) (row : RadarRow) → IsTable t → radar_row t product ≡ Some row →
    (most : ℕ) × (longest t product ≡ Some most) × (row.life ≤ most)
radar_below t product row rules found =
    let is = (rules.radars product row found).product in
    let same : row.product ≡ product = found_product product t.radars row found in
    let other : product ≢ 413 = λ e. elim is [ inl a ↦ omega arith | inr b ↦ omega arith ] in
    at_most_longest t product row.life (of_radar row other found refl)
