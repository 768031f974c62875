-- The laws of the distance between code words, and of the functions that give code words.
use Rattle.std.specs.Prelude.{◌≡◌, ◌≢◌, ◌↔◌, ℕ, ◌+◌, ◌-◌, ◌<◌, ◌≤◌, ◌⊎◌, List, length, take}
use Rattle.std.specs.Prelude.{slice_index, IsTrue, Some, None}
use Rattle.rs_code.specs.CodeWord.{IsInstance, IsCodeWord, IsNear, IsCorrectable, differences}
use Rattle.rs_code.specs.Functions.{is_code_word, encoded_word, corrected_word}

-- two different code words differ in at least one place more than the code has roots
abbrev pub HasMinimumDistance : Type 0
HasMinimumDistance =
    (count roots first : ℕ) (word other : List ℕ) → IsInstance count roots first
    → IsCodeWord count roots first word → IsCodeWord count roots first other → word ≢ other
    → roots + 1 ≤ differences word other

-- the same at the codes of UAT: those of an uplink block, of a basic and of a long ADS-B message
pub record HaveDistances : Type 0 where
  pub uplink :
      (word other : List ℕ) → IsCodeWord 92 20 120 word → IsCodeWord 92 20 120 other → word ≢ other
      → 21 ≤ differences word other
  pub basic :
      (word other : List ℕ) → IsCodeWord 30 12 120 word → IsCodeWord 30 12 120 other → word ≢ other
      → 13 ≤ differences word other
  pub long :
      (word other : List ℕ) → IsCodeWord 48 14 120 word → IsCodeWord 48 14 120 other → word ≢ other
      → 15 ≤ differences word other

-- a word differs from itself in no place, and words that are the same outside some consecutive
-- places differ in no more places than these
pub record CountsDifferences : Type 0 where
  pub none : (word : List ℕ) → differences word word ≡ 0
  pub window :
      (first many : ℕ) (word other : List ℕ) → length word ≡ length other
      → ((k : ℕ) → k < length word → (k < first) ⊎ (first + many ≤ k) →
      slice_index word k ≡ slice_index other k)
      → differences word other ≤ many

-- at most one code word is near a word
abbrev pub HasOneNearest : Type 0
HasOneNearest =
    (count roots first : ℕ) (word near other : List ℕ) → IsInstance count roots first
    → IsNear count roots first word near → IsNear count roots first word other → near ≡ other

-- the test of a code word tells them
abbrev pub HasCodeWordTest : Type 0
HasCodeWordTest =
    (count roots first : ℕ) (word : List ℕ)
    → IsTrue (is_code_word count roots first word) ↔ IsCodeWord count roots first word

-- one word alone is a code word and begins with a message: the one that `encoded_word` gives
abbrev pub HasOneEncoded : Type 0
HasOneEncoded =
    (count roots first : ℕ) (message word : List ℕ) → IsInstance count roots first
    → length message ≡ count - roots
    → ((i : ℕ) → slice_index message i < 256)
    → (word ≡ encoded_word count roots first message)
    ↔ (IsCodeWord count roots first word × (take (count - roots) word ≡ message))

-- `corrected_word` gives the code word near a word, and none exactly where none is near
pub record IsCorrected : Type 0 where
  pub nearest :
      (count roots first : ℕ) (word other : List ℕ) → IsInstance count roots first
      → (corrected_word count roots first word ≡ Some other) ↔ IsNear count roots first word other
  pub none :
      (count roots first : ℕ) (word : List ℕ) → IsInstance count roots first
      → (corrected_word count roots first word ≡ None) ↔ ¬ IsCorrectable count roots first word
