-- Every table that a document writes keeps the rules.
use Rattle.std.proofs.Common.{◌≡◌, ℕ, ◌+◌, ◌≤◌, ◌==◌, ℤ, pos, negsuc, true, false, not, cond, List, [], ◌∷◌, ◌++◌, length, Option, Some, None, is_some, Result, Ok, Err, refl, sym, ap, subst, ◌∙◌, ◌⊎◌, inl, inr, codes}
use Rattle.std.specs.List.{find, AllByRecursion}
use Rattle.std.specs.Str.{bytes_eq}
use Rattle.std.specs.Ordering.{int_eq}
use Rattle.std.specs.Prelude.{int_lt, unsigned_abs}
use Rattle.std.proofs.lemmas.Bool.{cases_Bool, leb-true, ltb-false, false≢true, not-false}
use Rattle.std.proofs.lemmas.Option.{cond_some}
use Rattle.std.proofs.lemmas.Slice.Eq.{bytes_eq-Decides}
use Rattle.list_members.specs.Tests.{none_from, ok_past_test, some_past_test}
use Rattle.toml.specs.Data.{Data, Items, no_items, item}
use Rattle.fisb_time.specs.declared.form.TimeForm.{TimeForm}
use Rattle.fisb_time.specs.declared.form.TimeForm.TheVariants.{Minute, Second, DayMinute, DaySecond}
use Rattle.life_table.specs.LifeTable.{TextRow, RadarRow, row, radar}
use Rattle.life_table.specs.Rules.{IsTable, IsWithinForm}
use Rattle.life_table.specs.Document.{or_fault, member_count, integer_at, text_at, is_word, key_words, form_of, radar_product, life_in, is_within}
use Rattle.life_table.specs.RowsOf.{and_then, with_row_number, row_of_its_own, own_text, alike_row, alike_text, text_entry, radar_entry, text_rows, radar_rows}
use Rattle.life_table.specs.declared.fault.RowFault.{RowFault}
use Rattle.life_table.specs.declared.fault.RowFault.TheVariants.{Shape, Word, Twice, As, Words, Form, Life, Product}
use Rattle.life_table.specs.Fault.{Fault}
use Rattle.life_table.proofs.Behind.{AllBehind, AllBehind-nil, AllBehind-push, each_placed}
use Rattle.life_table.proofs.Finding.{found_word, found_each}
use Rattle.life_table.proofs.Ruled.{IsSound, IsNew, IsNewRadar, table_keeps}

-- what a missing value let through
pub had : {A B : Type 0} (e : RowFault) (o : Option A) (go : A → Result B RowFault) (y : B) → or_fault e o go ≡ Ok y → (x : A) × (o ≡ Some x) × (go x ≡ Ok y)
had e None go y h = absurd (cc)
had e (Some x) go y h = (x, refl, h)

pub went_on : {A B : Type 0} (o : Result A Fault) (go : A → Result B Fault) (y : B) → and_then go o ≡ Ok y → (x : A) × (o ≡ Ok x) × (go x ≡ Ok y)
went_on (Ok x) go y h = (x, refl, h)
went_on (Err e) go y h = absurd (cc)

pub was_ok : {A : Type 0} (n : ℕ) (r : Result A RowFault) (y : A) → with_row_number n r ≡ Ok y → r ≡ Ok y
was_ok n (Ok x) y h = let same : x ≡ y = cc in rw same
was_ok n (Err e) y h = absurd (cc)

within_form : (late : ℕ) (form : TimeForm) (life : ℕ) → is_within late form life ≡ true → IsWithinForm late form life
within_form late Minute life h = leb-true (life + late + 60) 86400 h
within_form late Second life h = leb-true (life + late + 60) 86400 h
within_form late DayMinute life h = leb-true life 2592000 h
within_form late DaySecond life h = leb-true life 2592000 h

at_least_one : (z : ℤ) → int_lt z (pos 1) ≡ false → 1 ≤ unsigned_abs z
at_least_one (pos n) h = ltb-false n 1 h
at_least_one (negsuc n) h = absurd (false≢true (sym h))

life_lives : (late : ℕ) (form : TimeForm) (life : ℤ) (n : ℕ) → life_in late form life ≡ Some n → (1 ≤ n) × IsWithinForm late form n
life_lives late form life n h =
    let (long, rest) = some_past_test (int_lt life (pos 1)) (cond (is_within late form (unsigned_abs life)) (Some (unsigned_abs life)) None) n h in
    let (within, same) = cond_some (is_within late form (unsigned_abs life)) (unsigned_abs life) n rest in
    (subst (λ m. 1 ≤ m) same (at_least_one life long), subst (λ m. IsWithinForm late form m) same (within_form late form (unsigned_abs life) within))

two_or_three : (z : ℤ) (n : ℕ) → key_words z ≡ Some n → (n ≡ 2) ⊎ (n ≡ 3)
two_or_three z n h =
    elim (cases_Bool (int_eq z (pos 2))) [
      | inl t ↦ let e = rw t at h in inl (cc)
      | inr f ↦ let e = rw f at h in let (_, same) = cond_some (int_eq z (pos 3)) 3 n e in inr (sym same)
    ]

own_is_new : (late : ℕ) (rows : List TextRow) (word : List ℕ) (words life form : ℤ) (r : TextRow) → row_of_its_own late rows word words life form ≡ Ok r → IsNew late rows r
own_is_new late rows word words life form r h =
    let (spelt, h1) = ok_past_test (not (is_word word)) Word _ r h in
    let (none, h2) = ok_past_test (is_some (find (λ q. bytes_eq q.word word) rows)) Twice _ r h1 in
    let (count, e3, h3) = had Words (key_words words) _ r h2 in
    let (shown, e4, h4) = had Form (form_of form) _ r h3 in
    let (seconds, e5, h5) = had Life (life_in late shown life) _ r h4 in
    let same : row word word count seconds shown ≡ r = cc in
    let (lives, within) = life_lives late shown life seconds e5 in
    let is : is_word word ≡ true = not-false (is_word word) spelt in
    let sound : IsSound late (row word word count seconds shown) = record { word = is; kind = is; words = two_or_three words count e3; lives = lives; within = within } in
    subst (IsNew late rows) same (record { sound = sound; new = none_from (find (λ q. bytes_eq q.word word) rows) none; named = inl refl })

alike_is_new : (late : ℕ) (rows : List TextRow) (word kind : List ℕ) (r : TextRow) → AllBehind (IsNew late) rows → alike_row rows word kind ≡ Ok r → IsNew late rows r
alike_is_new late rows word kind r all h =
    let (spelt, h1) = ok_past_test (not (is_word word)) Word _ r h in
    let (spelt_kind, h2) = ok_past_test (not (is_word kind)) Word _ r h1 in
    let (none, h3) = ok_past_test (is_some (find (λ q. bytes_eq q.word word) rows)) Twice _ r h2 in
    let (own, e4, h4) = had As (find (λ q. bytes_eq q.word kind) rows) _ r h3 in
    let (alike, h5) = ok_past_test (not (bytes_eq own.kind kind)) As _ r h4 in
    let same : row word kind own.words own.life own.form ≡ r = cc in
    let each : AllByRecursion (IsSound late) rows = each_placed (IsSound late) rows (λ before after q e. (all before after q e).sound) in
    let base : IsSound late own = found_each (IsSound late) (λ q. bytes_eq q.word kind) rows each own e4 in
    let own_word : own.word ≡ kind = found_word kind rows own e4 in
    let own_kind : own.kind ≡ kind = (bytes_eq-Decides own.kind kind).0 (not-false (bytes_eq own.kind kind) alike) in
    let whole : own ≡ row kind kind own.words own.life own.form = ap (λ w. row w own.kind own.words own.life own.form) own_word ∙ ap (λ k. row kind k own.words own.life own.form) own_kind in
    let named : find (λ q. bytes_eq q.word kind) rows ≡ Some (row kind kind own.words own.life own.form) = e4 ∙ ap Some whole in
    let sound : IsSound late (row word kind own.words own.life own.form) =
    record { word = not-false (is_word word) spelt; kind = not-false (is_word kind) spelt_kind; words = base.words; lives = base.lives; within = base.within } in
    subst (IsNew late rows) same (record { sound = sound; new = none_from (find (λ q. bytes_eq q.word word) rows) none; named = inr named })

entry_is_new : (late : ℕ) (rows : List TextRow) (value : Data) (r : TextRow) → AllBehind (IsNew late) rows → text_entry late rows value ≡ Ok r → IsNew late rows r
unfolding text_entry own_text alike_text
entry_is_new late rows value r all h =
    elim (cases_Bool (member_count value == 4)) [
      | inl four ↦
          let h0 = rw four at h in
          let (word, e1, h1) = had Shape (text_at (codes "type") value) _ r h0 in
          let (words, e2, h2) = had Shape (integer_at (codes "words") value) _ r h1 in
          let (life, e3, h3) = had Shape (integer_at (codes "life") value) _ r h2 in
          let (form, e4, h4) = had Shape (integer_at (codes "form") value) _ r h3 in
          own_is_new late rows word words life form r h4
      | inr other ↦
          elim (cases_Bool (member_count value == 2)) [
            | inl two ↦
                let h0 = rw (other, two) at h in
                let (word, e1, h1) = had Shape (text_at (codes "type") value) _ r h0 in
                let (kind, e2, h2) = had Shape (text_at (codes "as") value) _ r h1 in
                alike_is_new late rows word kind r all h2
            | inr neither ↦ let h0 = rw (other, neither) at h in absurd (cc)
          ]
    ]

texts_behind : (late : ℕ) (rows : List TextRow) (items : Items) (all : List TextRow) → AllBehind (IsNew late) rows → text_rows late rows items ≡ Ok all → AllBehind (IsNew late) all
texts_behind late rows no_items all behind h = let same : rows ≡ all = cc in subst (AllBehind (IsNew late)) same behind
texts_behind late rows (item value more) all behind h =
    let (r, e, h') = went_on (with_row_number (length rows + 1) (text_entry late rows value)) (λ r. text_rows late (rows ++ r ∷ []) more) all h in
    let n = entry_is_new late rows value r behind (was_ok (length rows + 1) (text_entry late rows value) r e) in
    texts_behind late (rows ++ r ∷ []) more all (AllBehind-push (IsNew late) rows r behind n) h'

radar_number : (z : ℤ) (n : ℕ) → radar_product z ≡ Some n → (n ≡ 63) ⊎ (n ≡ 64)
radar_number z n h =
    elim (cases_Bool (int_eq z (pos 63))) [
      | inl t ↦ let e = rw t at h in inl (cc)
      | inr f ↦ let e = rw f at h in let (_, same) = cond_some (int_eq z (pos 64)) 64 n e in inr (sym same)
    ]

radar_is_new : (late : ℕ) (rows : List RadarRow) (value : Data) (r : RadarRow) → radar_entry late rows value ≡ Ok r → IsNewRadar late rows r
unfolding radar_entry
radar_is_new late rows value r h =
    let (_, h0) = ok_past_test (not (member_count value == 3)) Shape _ r h in
    let (product, e1, h1) = had Shape (integer_at (codes "product") value) _ r h0 in
    let (life, e2, h2) = had Shape (integer_at (codes "life") value) _ r h1 in
    let (form, e3, h3) = had Shape (integer_at (codes "form") value) _ r h2 in
    let (number, e4, h4) = had Product (radar_product product) _ r h3 in
    let (none, h5) = ok_past_test (is_some (find (λ q. q.product == number) rows)) Twice _ r h4 in
    let (shown, e6, h6) = had Form (form_of form) _ r h5 in
    let (seconds, e7, h7) = had Life (life_in late shown life) _ r h6 in
    let same : radar number seconds shown ≡ r = cc in
    let (lives, within) = life_lives late shown life seconds e7 in
    subst (IsNewRadar late rows) same
    (record { product = radar_number product number e4; lives = lives; within = within; new = none_from (find (λ q. q.product == number) rows) none })

radars_behind : (late before : ℕ) (rows : List RadarRow) (items : Items) (all : List RadarRow) → AllBehind (IsNewRadar late) rows → radar_rows late before rows items ≡ Ok all
    → AllBehind (IsNewRadar late) all
radars_behind late before rows no_items all behind h = let same : rows ≡ all = cc in subst (AllBehind (IsNewRadar late)) same behind
radars_behind late before rows (item value more) all behind h =
    let (r, e, h') = went_on (with_row_number (before + length rows + 1) (radar_entry late rows value)) (λ r. radar_rows late before (rows ++ r ∷ []) more) all h in
    let n = radar_is_new late rows value r (was_ok (before + length rows + 1) (radar_entry late rows value) r e) in
    radars_behind late before (rows ++ r ∷ []) more all (AllBehind-push (IsNewRadar late) rows r behind n) h'

-- a table of the rows that a document writes keeps the rules
pub written_table : (late before : ℕ) (texts : List TextRow) (radars : List RadarRow) (text_items radar_items : Items) → late ≤ 43200 → length texts ≤ 64 → length radars ≤ 2
    → text_rows late [] text_items ≡ Ok texts → radar_rows late before [] radar_items ≡ Ok radars → IsTable (record { late = late; texts = texts; radars = radars })
written_table late before texts radars text_items radar_items in_time few_texts few_radars read_texts read_radars =
    table_keeps (record { late = late; texts = texts; radars = radars }) in_time few_texts few_radars
    (texts_behind late [] text_items texts (AllBehind-nil (IsNew late)) read_texts)
    (radars_behind late before [] radar_items radars (AllBehind-nil (IsNewRadar late)) read_radars)
