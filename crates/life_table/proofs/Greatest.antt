-- No row of reports lives longer than the longest life, and the longest life is at most thirty days.
use Rattle.std.proofs.Common.{◌≡◌, ℕ, ◌≤◌, ◌==◌, Bool, List, [], ◌∷◌, map, filter, fold, max, Some, IfSome, refl, sym, ap, arith, inl, inr}
use Rattle.std.specs.List.{find, All, AllByRecursion}
use Rattle.std.proofs.lemmas.Bool.{cases_Bool}
use Rattle.std.proofs.lemmas.List.Elements.{All-weaker, All-map, All-filter, recursion_from_All}
use Rattle.fisb_time.specs.declared.form.TimeForm.{TimeForm}
use Rattle.fisb_time.specs.declared.form.TimeForm.TheVariants.{Minute, Second, DayMinute, DaySecond}
use Rattle.life_table.specs.LifeTable.{LifeTable, TextRow, RadarRow, text_row, radar_row, row, radar, greatest_of, longest, thirty_days}
use Rattle.life_table.specs.Rules.{IsTable, IsTextRow, IsRadarRow, IsWithinForm}

pub fold_above : (xs : List ℕ) (a : ℕ) → a ≤ fold max a xs
fold_above [] a = omega arith
fold_above (x ∷ xs) a = omega (arith, fold_above xs (max a x))

-- the row that a test finds is the first of those that pass it
pub found_first :
    {X : Type 0} (test : X → Bool) (rows : List X) (r : X) → find test rows ≡ Some r →
    (more : List X) × (filter test rows ≡ r ∷ more)
found_first test [] r h = absurd (cc)
found_first test (q ∷ rows) r h =
    elim (cases_Bool (test q)) [
      | inl t ↦ let h' : Some q ≡ Some r = rw t at h in let same : q ≡ r = cc in (filter test rows, rw (t, same) refl)
      | inr f ↦ let rest = found_first test rows r (rw f at h) in (rest.0, rw f rest.1)
    ]

found_below :
    {X : Type 0} (life : X → ℕ) (test : X → Bool) (rows : List X) (r : X) (start : ℕ) → find test rows ≡ Some r →
    life r ≤ fold max start (map life rows)
found_below life test [] r start h = absurd (cc)
found_below life test (q ∷ rows) r start h =
    elim (cases_Bool (test q)) [
      | inl t ↦
          let h' : Some q ≡ Some r = rw t at h in
          let same : q ≡ r = cc in
          let lives : life q ≡ life r = ap life same in
          omega (arith, fold_above (map life rows) (max start (life q)))
      | inr f ↦ found_below life test rows r (max start (life q)) (rw f at h)
    ]

-- a row that is found lives no longer than the greatest life, which is there
pub greatest_above :
    {X : Type 0} (life : X → ℕ) (test : X → Bool) (rows : List X) (r : X) → find test rows ≡ Some r →
    (most : ℕ) × (greatest_of (map life rows) ≡ Some most) × (life r ≤ most)
greatest_above life test [] r h = absurd (cc)
greatest_above life test (q ∷ rows) r h =
    let most : ℕ = fold max (life q) (map life rows) in
    let below : life r ≤ most =
    elim (cases_Bool (test q)) [
      | inl t ↦
          let h' : Some q ≡ Some r = rw t at h in
          let same : q ≡ r = cc in
          let lives : life q ≡ life r = ap life same in
          omega (arith, fold_above (map life rows) (life q))
      | inr f ↦ found_below life test rows r (life q) (rw f at h)
    ] in
    (most, refl, below)

abbrev pub IsShort : ℕ → Type 0
IsShort life = life ≤ thirty_days

short_by_form : (late : ℕ) (form : TimeForm) (life : ℕ) → IsWithinForm late form life → IsShort life
short_by_form late Minute life within = omega arith
short_by_form late Second life within = omega arith
short_by_form late DayMinute life within = within
short_by_form late DaySecond life within = within

-- so is the life of a row that a look-up lends
pub lent_short : (t : LifeTable) (word kind : List ℕ) (words life : ℕ) (form : TimeForm) → IsTable t → Some (row word kind words life form) ≡ text_row t word
    → IsShort life
lent_short t word kind words life form rules is =
    short_by_form t.late form life (rules.texts word (row word kind words life form) (sym is)).within

pub lent_radar_short : (t : LifeTable) (product life : ℕ) (form : TimeForm) → IsTable t → Some (radar product life form) ≡ radar_row t product
    → IsShort life
lent_radar_short t product life form rules is =
    short_by_form t.late form life (rules.radars product (radar product life form) (sym is)).within

fold_short : (xs : List ℕ) (a : ℕ) → IsShort a → AllByRecursion IsShort xs → IsShort (fold max a xs)
fold_short [] a here all = here
fold_short (x ∷ xs) a here all = fold_short xs (max a x) (omega (arith, all.0)) all.1

greatest_short : (xs : List ℕ) → AllByRecursion IsShort xs → IfSome (greatest_of xs) IsShort
greatest_short [] all = tt
greatest_short (x ∷ xs) all = fold_short xs x all.0 all.1

lives_short : {X : Type 0} (life : X → ℕ) (rows : List X) → All (λ r. IsShort (life r)) rows → IfSome (greatest_of (map life rows)) IsShort
lives_short life rows all = greatest_short (map life rows) (recursion_from_All IsShort (map life rows) (All-map IsShort life rows all))

pub longest_short : (t : LifeTable) (product : ℕ) → IsTable t → IfSome (longest t product) IsShort
longest_short t product rules =
    let texts : All (λ r. IsShort r.life) t.texts = All-weaker (IsTextRow t) (λ r. IsShort r.life) (λ r is. short_by_form t.late r.form r.life is.within) t.texts rules.all_texts in
    let radars : All (λ r. IsShort r.life) t.radars = All-weaker (IsRadarRow t) (λ r. IsShort r.life) (λ r is. short_by_form t.late r.form r.life is.within) t.radars rules.all_radars in
    let some : List RadarRow = filter (λ r. r.product == product) t.radars in
    elim (cases_Bool (product == 413)) [
      | inl reports ↦ rw reports (lives_short (λ (r : TextRow). r.life) t.texts texts)
      | inr other ↦ rw other (lives_short (λ (r : RadarRow). r.life) some (All-filter (λ r. r.product == product) (λ r. IsShort r.life) t.radars radars))
    ]
