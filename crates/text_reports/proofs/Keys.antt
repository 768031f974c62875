-- The key of a text, word by word.
use Rattle.std.proofs.Common.{◌≡◌, ℕ, ◌==◌, List, [], ◌∷◌, Option, Some, None, Ok, Err, inl, inr}
use Rattle.std.proofs.lemmas.Bool.{cases_Bool}
use Rattle.life_table.specs.LifeTable.{LifeTable, TextRow, text_row}
use Rattle.text_reports.specs.TextKey.{few_words, unlisted, words_of, row_key, text_key}
use Rattle.text_reports.specs.Views.{third_of, IsThirdFault, IsFault}
use Rattle.text_reports.specs.declared.key.KeyFault.{KeyFault as Fault}
use Rattle.text_reports.specs.declared.key.KeyFault.TheVariants.{FewWords, Unlisted, NoMemory}

pub no_word : (table : LifeTable) (text : List ℕ) → words_of text ≡ [] → text_key table text ≡ Err few_words
unfolding text_key
no_word table text none = rw none

pub one_word : (table : LifeTable) (text first behind : List ℕ) → words_of text ≡ first ∷ words_of behind → words_of behind ≡ [] → text_key table text ≡ Err few_words
unfolding text_key
one_word table text first behind some none = rw (some, none)

pub no_row : (table : LifeTable) (text first behind place rest : List ℕ) → words_of text ≡ first ∷ words_of behind → words_of behind ≡ place ∷ words_of rest → None ≡ text_row table first
    → text_key table text ≡ Err unlisted
unfolding text_key
no_row table text first behind place rest one two none = rw (one, two, ← none)

third_missing : (row : TextRow) (place : List ℕ) (more : List (List ℕ)) → third_of row.words more ≡ Err few_words → row_key row place more ≡ Err few_words
third_missing row place [] e = elim (cases_Bool (row.words == 3)) [ inl t ↦ rw t | inr f ↦ absurd (let e' = rw f at e in cc) ]
third_missing row place (third ∷ more) e = absurd (cc)

third_found : (row : TextRow) (place : List ℕ) (more : List (List ℕ)) (third : Option (List ℕ)) → third_of row.words more ≡ Ok third
    → row_key row place more ≡ Ok (record { kind = row.kind; place = place; third = third })
third_found row place [] third e =
    elim (cases_Bool (row.words == 3)) [
      | inl t ↦ absurd (let e' = rw t at e in cc)
      | inr f ↦ rw f (let e' = rw f at e in let same : None ≡ third = cc in rw same)
    ]
third_found row place (word ∷ more) third e =
    elim (cases_Bool (row.words == 3)) [
      | inl t ↦ rw t (let e' = rw t at e in let same : Some word ≡ third = cc in rw same)
      | inr f ↦ rw f (let e' = rw f at e in let same : None ≡ third = cc in rw same)
    ]

pub no_third : (table : LifeTable) (text first behind place rest : List ℕ) (row : TextRow) → words_of text ≡ first ∷ words_of behind → words_of behind ≡ place ∷ words_of rest
    → Some row ≡ text_row table first → third_of row.words (words_of rest) ≡ Err few_words → text_key table text ≡ Err few_words
unfolding text_key
no_third table text first behind place rest row one two listed missing = rw (one, two, ← listed) (third_missing row place (words_of rest) missing)

pub key_found : (table : LifeTable) (text first behind place rest : List ℕ) (row : TextRow) (third : Option (List ℕ)) → words_of text ≡ first ∷ words_of behind → words_of behind ≡ place ∷ words_of rest
    → Some row ≡ text_row table first → third_of row.words (words_of rest) ≡ Ok third → text_key table text ≡ Ok (record { kind = row.kind; place = place; third = third })
unfolding text_key
key_found table text first behind place rest row third one two listed found = rw (one, two, ← listed) (third_found row place (words_of rest) third found)

pub third_fault : (fault : Fault) (table : LifeTable) (text first behind place rest : List ℕ) (row : TextRow) → words_of text ≡ first ∷ words_of behind → words_of behind ≡ place ∷ words_of rest
    → Some row ≡ text_row table first → IsThirdFault fault (third_of row.words (words_of rest)) → IsFault fault (text_key table text)
third_fault FewWords table text first behind place rest row one two listed fault = no_third table text first behind place rest row one two listed fault
third_fault Unlisted table text first behind place rest row one two listed fault = absurd fault
third_fault NoMemory table text first behind place rest row one two listed fault = tt
