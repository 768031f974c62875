-- A table of rows that each keep the rules behind the rows before them keeps the rules.
use Rattle.std.proofs.Common.{◌≡◌, ℕ, ◌≤◌, ◌==◌, IsTrue, List, ◌∷◌, ◌++◌, length, find, Some, None, refl, sym, ap, subst, ◌∙◌, ◌⊎◌, inl, inr}
use Rattle.std.specs.Str.{bytes_eq}
use Rattle.std.specs.List.{AllByRecursion, Contains}
use Rattle.std.proofs.lemmas.Bool.{eq-eqb}
use Rattle.std.proofs.lemmas.List.Elements.{All-from_recursion}
use Rattle.std.proofs.lemmas.Slice.Eq.{bytes_eq-Decides}
use Rattle.life_table.specs.LifeTable.{LifeTable, TextRow, RadarRow, row}
use Rattle.life_table.specs.Document.{is_word}
use Rattle.life_table.specs.Rules.{IsTable, IsTextRow, IsRadarRow, IsWithinForm, own_row}
use Rattle.life_table.proofs.Behind.{AllBehind, each_placed, find_front, find_there, Contains-found}
use Rattle.life_table.proofs.Finding.{found_each}

-- what a row of reports keeps by itself
pub record IsSound (late : ℕ) (r : TextRow) : Type 0 where
  pub word : IsTrue (is_word r.word)
  pub kind : IsTrue (is_word r.kind)
  pub words : (r.words ≡ 2) ⊎ (r.words ≡ 3)
  pub lives : 1 ≤ r.life
  pub within : IsWithinForm late r.form r.life

-- a row behind earlier ones: none has its word, and its type is its own or that of an earlier row, which says the same
pub record IsNew (late : ℕ) (rows : List TextRow) (r : TextRow) : Type 0 where
  pub sound : IsSound late r
  pub new : find (λ q. bytes_eq q.word r.word) rows ≡ None
  pub named : (r.kind ≡ r.word) ⊎ (find (λ q. bytes_eq q.word r.kind) rows ≡ Some (own_row r))

pub record IsNewRadar (late : ℕ) (rows : List RadarRow) (r : RadarRow) : Type 0 where
  pub product : (r.product ≡ 63) ⊎ (r.product ≡ 64)
  pub lives : 1 ≤ r.life
  pub within : IsWithinForm late r.form r.life
  pub new : find (λ q. q.product == r.product) rows ≡ None

word_finds : (late : ℕ) (before after : List TextRow) (r : TextRow) → IsNew late before r → find (λ q. bytes_eq q.word r.word) (before ++ r ∷ after) ≡ Some r
word_finds late before after r n = find_there (λ q. bytes_eq q.word r.word) before after r n.new ((bytes_eq-Decides r.word r.word).1 refl)

type_finds : (late : ℕ) (before after : List TextRow) (r : TextRow) → IsNew late before r → find (λ q. bytes_eq q.word r.kind) (before ++ r ∷ after) ≡ Some (own_row r)
type_finds late before after r n =
    elim n.named [
      | inl itself ↦
          let found : find (λ q. bytes_eq q.word r.kind) (before ++ r ∷ after) ≡ Some r =
          subst (λ k. find (λ q. bytes_eq q.word k) (before ++ r ∷ after) ≡ Some r) (sym itself) (word_finds late before after r n) in
          let whole : r ≡ own_row r = ap (λ w. row w r.kind r.words r.life r.form) (sym itself) in
          found ∙ ap Some whole
      | inr earlier ↦ find_front (λ q. bytes_eq q.word r.kind) before (r ∷ after) (own_row r) earlier
    ]

stands_behind : (late : ℕ) (before : List TextRow) (r : TextRow) → IsNew late before r → (r.kind ≡ r.word) ⊎ Contains before (own_row r)
stands_behind late before r n =
    elim n.named [ inl itself ↦ inl itself | inr earlier ↦ inr (Contains-found (λ q. bytes_eq q.word r.kind) before (own_row r) earlier) ]

text_keeps : (t : LifeTable) (before after : List TextRow) (r : TextRow) → t.texts ≡ before ++ r ∷ after → IsNew t.late before r → IsTextRow t r
text_keeps t before after r e n = record {
  word = n.sound.word;
  kind = n.sound.kind;
  words = n.sound.words;
  lives = n.sound.lives;
  within = n.sound.within;
  found = ap (find (λ q. bytes_eq q.word r.word)) e ∙ word_finds t.late before after r n;
  named = ap (find (λ q. bytes_eq q.word r.kind)) e ∙ type_finds t.late before after r n;
}

radar_keeps : (t : LifeTable) (before after : List RadarRow) (r : RadarRow) → t.radars ≡ before ++ r ∷ after → IsNewRadar t.late before r → IsRadarRow t r
radar_keeps t before after r e n = record {
  product = n.product;
  lives = n.lives;
  within = n.within;
  found = ap (find (λ q. q.product == r.product)) e ∙ find_there (λ q. q.product == r.product) before after r n.new (eq-eqb r.product r.product refl);
}

pub table_keeps : (t : LifeTable) → t.late ≤ 43200 → length t.texts ≤ 64 → length t.radars ≤ 2 → AllBehind (IsNew t.late) t.texts → AllBehind (IsNewRadar t.late) t.radars → IsTable t
table_keeps t in_time few_texts few_radars texts radars =
    let each_text : AllByRecursion (IsTextRow t) t.texts = each_placed (IsTextRow t) t.texts (λ before after r e. text_keeps t before after r e (texts before after r e)) in
    let each_radar : AllByRecursion (IsRadarRow t) t.radars = each_placed (IsRadarRow t) t.radars (λ before after r e. radar_keeps t before after r e (radars before after r e)) in
    record {
      late = in_time;
      few_texts = few_texts;
      few_radars = few_radars;
      all_texts = All-from_recursion (IsTextRow t) t.texts each_text;
      all_radars = All-from_recursion (IsRadarRow t) t.radars each_radar;
      earlier = λ before after r e. stands_behind t.late before r (texts before after r e);
      texts = λ word r found. found_each (IsTextRow t) (λ q. bytes_eq q.word word) t.texts each_text r found;
      radars = λ product r found. found_each (IsRadarRow t) (λ q. q.product == product) t.radars each_radar r found;
    }
