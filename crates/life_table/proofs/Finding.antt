-- Rows that a look-up finds, and the greatest life, over kept rows and over the rows that they stand for.
use Rattle.std.proofs.Common.{◌≡◌, ℕ, ◌==◌, Bool, List, [], ◌∷◌, map, filter, find, fold, max, subst, Option, Some, None, option_map, is_some, Bor, string_bytes, refl, sym, ap, ◌∙◌, arith, inl, inr}
use Rattle.std.proofs.lemmas.Bool.{cases_Bool, eqb-true, ne_eqb}
use Rattle.std.specs.List.{AllByRecursion}
use Rattle.std.proofs.lemmas.Slice.Eq.{bytes_eq-Decides}
use Rattle.std.proofs.lemmas.List.Folds.{fold-map}
use Rattle.std.specs.Str.{bytes_eq}
use Rattle.list_members.specs.Tests.{mapped_some}
use Rattle.life_table.specs.LifeTable.{TextRow, RadarRow, row, radar, text_row, radar_row, greatest_of, longest}
use Rattle.life_table.specs.Views.{text_view, radar_view, table_of, greater}
use Rattle.life_table.specs.declared.rows.KeptText.{KeptText}
use Rattle.life_table.specs.declared.rows.KeptRadar.{KeptRadar}

pub find_text : (word : List ℕ) (ks : List KeptText) → option_map text_view (find (λ k. bytes_eq (string_bytes k.word) word) ks) ≡ find (λ r. bytes_eq r.word word) (map text_view ks)
find_text word [] = refl
find_text word (k ∷ ks) = elim (cases_Bool (bytes_eq (string_bytes k.word) word)) [ inl t ↦ rw t | inr f ↦ rw (f, find_text word ks) ]

pub find_radar : (product : ℕ) (ks : List KeptRadar) → option_map radar_view (find (λ k. k.product == product) ks) ≡ find (λ r. r.product == product) (map radar_view ks)
find_radar product [] = refl
find_radar product (k ∷ ks) = elim (cases_Bool (k.product == product)) [ inl t ↦ rw t | inr f ↦ rw (f, find_radar product ks) ]

pub filter_radars : (product : ℕ) (ks : List KeptRadar) → map (λ k. k.life) (filter (λ k. k.product == product) ks) ≡ map (λ r. r.life) (filter (λ r. r.product == product) (map radar_view ks))
filter_radars product [] = refl
filter_radars product (k ∷ ks) = elim (cases_Bool (k.product == product)) [ inl t ↦ rw (t, filter_radars product ks) | inr f ↦ rw (f, filter_radars product ks) ]

pub text_lives : (ks : List KeptText) → map (λ k. k.life) ks ≡ map (λ r. r.life) (map text_view ks)
text_lives [] = refl
text_lives (k ∷ ks) = rw (text_lives ks)

-- a look-up finds a row of its word
pub found_word : (word : List ℕ) (rows : List TextRow) (row : TextRow) → find (λ r. bytes_eq r.word word) rows ≡ Some row → row.word ≡ word
found_word word [] row e = absurd (cc)
found_word word (r ∷ rows) row e =
    elim (cases_Bool (bytes_eq r.word word)) [
      | inl t ↦ let same : r.word ≡ word = (bytes_eq-Decides r.word word).0 t in let e' = rw t at e in cc
      | inr f ↦ found_word word rows row (rw f at e)
    ]

pub found_product : (product : ℕ) (rows : List RadarRow) (row : RadarRow) → find (λ r. r.product == product) rows ≡ Some row → row.product ≡ product
found_product product [] row e = absurd (cc)
found_product product (r ∷ rows) row e =
    elim (cases_Bool (r.product == product)) [
      | inl t ↦ let same : r.product ≡ product = eqb-true r.product product t in let e' = rw t at e in cc
      | inr f ↦ found_product product rows row (rw f at e)
    ]

-- what holds of each row holds of the one that a look-up finds
pub found_each : {X : Type 0} (P : X → Type 0) (test : X → Bool) (rows : List X) → AllByRecursion P rows → (row : X) → find test rows ≡ Some row → P row
found_each P test [] all row e = absurd (cc)
found_each P test (r ∷ rows) all row e =
    elim (cases_Bool (test r)) [
      | inl t ↦ let e' : Some r ≡ Some row = rw t at e in let same : r ≡ row = cc in subst P same all.0
      | inr f ↦ found_each P test rows all.1 row (rw f at e)
    ]

-- a fold that keeps the greatest so far
kept_greatest : (n : ℕ) (lives : List ℕ) → fold (λ best life. Some (greater best life)) (Some n) lives ≡ Some (fold max n lives)
kept_greatest n [] = refl
kept_greatest n (life ∷ lives) = kept_greatest (max n life) lives

greatest_by_fold : (lives : List ℕ) → fold (λ best life. Some (greater best life)) None lives ≡ greatest_of lives
greatest_by_fold [] = refl
greatest_by_fold (life ∷ lives) = let e : max 0 life ≡ life = omega arith in rw e (kept_greatest life lives)

pub greatest_of_map : {X : Type 0} (life : X → ℕ) (ks : List X) → fold (λ best k. Some (greater best (life k))) None ks ≡ greatest_of (map life ks)
greatest_of_map life ks = sym (fold-map (λ best n. Some (greater best n)) life None ks) ∙ greatest_by_fold (map life ks)

-- the greatest life, over kept rows and over the table that they stand for
pub longest_text : (late : ℕ) (ks : List KeptText) (rs : List KeptRadar) (product : ℕ) → product ≡ 413 → fold (λ best k. Some (greater best k.life)) None ks ≡ longest (table_of late ks rs) product
longest_text late ks rs product e = rw e (greatest_of_map (λ k. k.life) ks ∙ ap greatest_of (text_lives ks))

pub longest_radar : (late : ℕ) (ks : List KeptText) (rs : List KeptRadar) (product : ℕ) → (product ≡ 413 → ⊥) → fold (λ best k. Some (greater best k.life)) None (filter (λ k. k.product == product) rs) ≡ longest (table_of late ks rs) product
longest_radar late ks rs product h = rw (ne_eqb product 413 h) (greatest_of_map (λ k. k.life) (filter (λ k. k.product == product) rs) ∙ ap greatest_of (filter_radars product rs))

-- what a look-up lends
pub text_absent : (word : List ℕ) (late : ℕ) (ks : List KeptText) (rs : List KeptRadar) → None ≡ find (λ k. bytes_eq (string_bytes k.word) word) ks → None ≡ text_row (table_of late ks rs) word
text_absent word late ks rs h = ap (option_map text_view) h ∙ find_text word ks

pub text_lent : (word : List ℕ) (late : ℕ) (ks : List KeptText) (rs : List KeptRadar) (k : KeptText) → Some k ≡ find (λ k. bytes_eq (string_bytes k.word) word) ks
    → Some (row word (string_bytes k.kind) k.words k.life k.form) ≡ text_row (table_of late ks rs) word
text_lent word late ks rs k h =
    let e : Some (text_view k) ≡ text_row (table_of late ks rs) word = ap (option_map text_view) h ∙ find_text word ks in
    let w : string_bytes k.word ≡ word = found_word word (map text_view ks) (text_view k) (sym e) in
    subst (λ w. Some (row w (string_bytes k.kind) k.words k.life k.form) ≡ text_row (table_of late ks rs) word) w e

pub radar_absent : (product late : ℕ) (ks : List KeptText) (rs : List KeptRadar) → None ≡ find (λ k. k.product == product) rs → None ≡ radar_row (table_of late ks rs) product
radar_absent product late ks rs h = ap (option_map radar_view) h ∙ find_radar product rs

pub radar_lent : (product late : ℕ) (ks : List KeptText) (rs : List KeptRadar) (k : KeptRadar) → Some k ≡ find (λ k. k.product == product) rs
    → Some (radar product k.life k.form) ≡ radar_row (table_of late ks rs) product
radar_lent product late ks rs k h =
    let e : Some (radar_view k) ≡ radar_row (table_of late ks rs) product = ap (option_map radar_view) h ∙ find_radar product rs in
    let w : k.product ≡ product = found_product product (map radar_view rs) (radar_view k) (sym e) in
    subst (λ p. Some (radar p k.life k.form) ≡ radar_row (table_of late ks rs) product) w e

-- whether a row stands, and the row, over kept rows and over the rows that they stand for
pub text_stands : (word : List ℕ) (ks : List KeptText) (o : Option (Bor KeptText)) → option_map (λ r. r.now) o ≡ find (λ k. bytes_eq (string_bytes k.word) word) ks
    → is_some o ≡ is_some (find (λ r. bytes_eq r.word word) (map text_view ks))
text_stands word ks o e = rw (← find_text word ks, mapped_some text_view (find (λ k. bytes_eq (string_bytes k.word) word) ks), ← e, mapped_some (λ (r : Bor KeptText). r.now) o)

pub radar_stands : (product : ℕ) (ks : List KeptRadar) (o : Option (Bor KeptRadar)) → option_map (λ r. r.now) o ≡ find (λ k. k.product == product) ks
    → is_some o ≡ is_some (find (λ r. r.product == product) (map radar_view ks))
radar_stands product ks o e = rw (← find_radar product ks, mapped_some radar_view (find (λ k. k.product == product) ks), ← e, mapped_some (λ (r : Bor KeptRadar). r.now) o)

pub text_earlier : (word : List ℕ) (ks : List KeptText) (o : Option (Bor KeptText)) → option_map (λ r. r.now) o ≡ find (λ k. bytes_eq (string_bytes k.word) word) ks
    → option_map (λ r. text_view r.now) o ≡ find (λ r. bytes_eq r.word word) (map text_view ks)
text_earlier word ks None e = ap (option_map text_view) e ∙ find_text word ks
text_earlier word ks (Some r) e = ap (option_map text_view) e ∙ find_text word ks
