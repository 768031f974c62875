-- What names a report: its type, its place, and for some types a third word.
use Rattle.std.specs.Prelude.{◌≡◌, ℕ, ◌≤◌, Bool, true, false, ◌&&◌, ◌||◌, ◌==◌, nat_lt}
use Rattle.std.specs.Prelude.{if◌then◌else◌, List, [], ◌∷◌, length, filter, Option, Some, None}
use Rattle.std.specs.Prelude.{Result, Ok, Err}
use Rattle.std.specs.List.{slice_split, All}
use Rattle.std.specs.Str.{bytes_eq}
use Rattle.std.specs.Cmp.Lexicographic.{slice_cmp}
use Rattle.std.specs.Option.{option_cmp}
use Rattle.std.specs.Ordering.{nat_cmp, ordering_then}
use Rattle.std.specs.declared.cmp.Ordering.{Ordering}
use Rattle.life_table.specs.LifeTable.{LifeTable, TextRow, text_row}

pub record TextKey : Type 0 where
  pub kind : List ℕ
  pub place : List ℕ
  pub third : Option (List ℕ)

pub data KeyFault : Type 0 where
  few_words : KeyFault
  unlisted : KeyFault

-- a space or a newline
abbrev pub is_blank : ℕ → Bool
is_blank c = (c == 32) || (c == 10)

-- what a word is: at least one byte, and none of them a space or a newline
pub record IsWord (word : List ℕ) : Type 0 where
  pub some : 1 ≤ length word
  pub unbroken : All (λ c. is_blank c ≡ false) word

-- words are the longest runs without space and newline
abbrev pub words_of : List ℕ → List (List ℕ)
words_of text = filter (λ word. nat_lt 0 (length word)) (slice_split is_blank text)

-- the key of a row's report with a second word and further ones
abbrev pub row_key : TextRow → List ℕ → List (List ℕ) → Result TextKey KeyFault
row_key row place [] = if row.words == 3 then Err few_words
    else Ok (record { kind = row.kind; place = place; third = None })
row_key row place (third ∷ more) = Ok
    (record { kind = row.kind; place = place; third = if row.words == 3 then Some third else None })

abbrev pub listed_key : Option TextRow → List ℕ → List (List ℕ) → Result TextKey KeyFault
listed_key None place more = Err unlisted
listed_key (Some row) place more = row_key row place more

abbrev pub key_of_words : LifeTable → List (List ℕ) → Result TextKey KeyFault
key_of_words table [] = Err few_words
key_of_words table (word ∷ []) = Err few_words
key_of_words table (word ∷ place ∷ more) = listed_key (text_row table word) place more

-- the key of a report
unfoldable pub text_key : LifeTable → List ℕ → Result TextKey KeyFault
text_key table text = key_of_words table (words_of text)

abbrev pub same_third : Option (List ℕ) → Option (List ℕ) → Bool
same_third None None = true
same_third None (Some w) = false
same_third (Some v) None = false
same_third (Some v) (Some w) = bytes_eq v w

abbrev pub same_text_key : TextKey → TextKey → Bool
same_text_key a b = bytes_eq a.kind b.kind && bytes_eq a.place b.place && same_third a.third b.third

-- keys stand in the order of the bytes of type, place and third word, a key without a third word
-- before those with one
abbrev pub text_key_cmp : TextKey → TextKey → Ordering
text_key_cmp a b = ordering_then (slice_cmp nat_cmp a.kind b.kind)
    (ordering_then (slice_cmp nat_cmp a.place b.place)
    (option_cmp (slice_cmp nat_cmp) a.third b.third))
