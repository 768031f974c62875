-- What is a word of a report: the words of the life table, and the bytes in front of a blank.
use Rattle.std.proofs.Common.{◌≡◌, ℕ, ◌<◌, ◌≤◌, ◌&&◌, ◌==◌, nat_le, true, false, List, [], ◌∷◌, length, take, arith, inl, inr, length-take}
use Rattle.std.specs.List.{list_all, AllByRecursion}
use Rattle.std.proofs.lemmas.Bool.{cases_Bool, and_parts, or_cases, leb-true, eqb-true, false≢true}
use Rattle.std.proofs.lemmas.List.{get_or-take}
use Rattle.std.proofs.lemmas.List.Elements.{All-from_recursion, All-from_get_or}
use Rattle.life_table.specs.Document.{is_word, is_word_byte}
use Rattle.text_reports.specs.TextKey.{IsWord, is_blank}
use Rattle.text_reports.proofs.Cutting.{AllBlank}

-- no byte of a word of the table is blank
word_byte : (c : ℕ) → is_word_byte c ≡ true → is_blank c ≡ false
word_byte c h =
    elim (cases_Bool (is_blank c)) [
      | inl blank ↦
          elim (or_cases (c == 32) (c == 10) blank) [
            | inl space ↦ let e = eqb-true c 32 space in absurd (false≢true (rw e at h))
            | inr newline ↦ let e = eqb-true c 10 newline in absurd (false≢true (rw e at h))
          ]
      | inr other ↦ other
    ]

word_bytes : (word : List ℕ) → list_all is_word_byte word ≡ true → AllByRecursion (λ c. is_blank c ≡ false) word
word_bytes [] h = tt
word_bytes (c ∷ cs) h =
    let (here, rest) = and_parts (is_word_byte c) (list_all is_word_byte cs) h in
    (word_byte c here, word_bytes cs rest)

pub listed_word : (word : List ℕ) → is_word word ≡ true → IsWord word
listed_word word h =
    let (sizes, bytes) = and_parts (nat_le 1 (length word) && nat_le (length word) 16) (list_all is_word_byte word) h in
    let (some, _) = and_parts (nat_le 1 (length word)) (nat_le (length word) 16) sizes in
    record { some = leb-true 1 (length word) some; unbroken = All-from_recursion (λ c. is_blank c ≡ false) word (word_bytes word bytes) }

pub front_word : (text : List ℕ) (n : ℕ) → 0 < n → n ≤ length text → AllBlank text n false → IsWord (take n text)
front_word text n some within front =
    let size : length (take n text) ≡ n = omega (arith, length-take n text) in
    record {
      some = omega arith;
      unbroken = All-from_get_or (λ c. is_blank c ≡ false) (take n text) 0
          (λ i below. let inside : i < n = omega arith in rw (get_or-take n text i 0 inside) (front i inside));
    }
