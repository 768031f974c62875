-- The functions that give code words against what they are to give.
use Rattle.std.proofs.Common.{◌≡◌, ℕ, zero, suc, ◌+◌, ◌-◌, ◌<◌, ◌≤◌, List, [], ◌∷◌, length, get_or, take, true, ◌&&◌, eqb, ltb, Some, None, lit<, refl, sym, ◌∙◌, ap, subst, arith, inl, inr, eq-eqb}
use Rattle.std.specs.List.{list_all, range_with_len}
use Rattle.std.specs.Option.{unwrap_or}
use Rattle.std.proofs.lemmas.Bool.{and_parts, and_from, eqb-true, ltb-true, lt-ltb, cases_eq}
use Rattle.gf256_core.specs.Field.{IsField}
use Rattle.list_members.specs.Finding.{find-passes, find-none, find-only}
use Rattle.poly256.specs.Laws.{HasDegrees}
use Rattle.rs_code.specs.CodeWord.{IsInstance, IsCodeWord, IsNear, IsCorrectable, power_sum, differences, are_near}
use Rattle.rs_code.specs.Functions.{words, is_code_word, begins_with, encoded_word, corrected_word}
use Rattle.rs_code.specs.Laws.{HasCodeWordTest, HasOneEncoded, IsCorrected}
use Rattle.rs_code.proofs.Differences.{differences-same, same_from_no_differences}
use Rattle.rs_code.proofs.Words.{same_from_front}
use Rattle.rs_code.proofs.Nearest.{one_nearest}
use Rattle.rs_code.proofs.Existence.{code_word_exists}
use Rattle.rs_code.proofs.Finding.{IsIn-words}

bytes_from : (word : List ℕ) → list_all (λ byte. ltb byte 256) word ≡ true → (i : ℕ) → get_or word i 0 < 256
bytes_from [] e i = lit< tt
bytes_from (b ∷ bs) e zero = ltb-true b 256 (and_parts (ltb b 256) (list_all (λ byte. ltb byte 256) bs) e).0
bytes_from (b ∷ bs) e (suc i) = bytes_from bs (and_parts (ltb b 256) (list_all (λ byte. ltb byte 256) bs) e).1 i

bytes_to : (word : List ℕ) → ((i : ℕ) → get_or word i 0 < 256) → list_all (λ byte. ltb byte 256) word ≡ true
bytes_to [] bytes = refl
bytes_to (b ∷ bs) bytes =
    and_from (ltb b 256) (list_all (λ byte. ltb byte 256) bs) (lt-ltb b 256 (bytes 0)) (bytes_to bs (λ i. bytes (suc i)))

sums_from :
    (word : List ℕ) (first roots : ℕ) → list_all (λ j. eqb (power_sum word j) 0) (range_with_len first roots) ≡ true
    → (j : ℕ) → first ≤ j → j < first + roots → power_sum word j ≡ 0
sums_from word first zero e j h h' = absurd (omega arith)
sums_from word first (suc roots) e j h h' =
    let parts = and_parts (eqb (power_sum word first) 0) (list_all (λ j. eqb (power_sum word j) 0) (range_with_len (first + 1) roots)) e in
    elim (cases_eq j first) [
      | inl same ↦ ap (power_sum word) same ∙ eqb-true (power_sum word first) 0 parts.0
      | inr apart ↦ sums_from word (first + 1) roots parts.1 j (omega arith) (omega arith)
    ]

sums_to :
    (word : List ℕ) (first roots : ℕ) → ((j : ℕ) → first ≤ j → j < first + roots → power_sum word j ≡ 0)
    → list_all (λ j. eqb (power_sum word j) 0) (range_with_len first roots) ≡ true
sums_to word first zero sums = refl
sums_to word first (suc roots) sums =
    and_from (eqb (power_sum word first) 0) (list_all (λ j. eqb (power_sum word j) 0) (range_with_len (first + 1) roots))
    (eq-eqb (power_sum word first) 0 (sums first (omega arith) (omega arith)))
    (sums_to word (first + 1) roots (λ j h h'. sums j (omega arith) (omega arith)))

pub code_word_from :
    (count roots first : ℕ) (word : List ℕ) → is_code_word count roots first word ≡ true → IsCodeWord count roots first word
unfolding is_code_word
code_word_from count roots first word e =
    let parts = and_parts (eqb (length word) count)
    (list_all (λ byte. ltb byte 256) word && list_all (λ j. eqb (power_sum word j) 0) (range_with_len first roots)) e in
    let rest = and_parts (list_all (λ byte. ltb byte 256) word) (list_all (λ j. eqb (power_sum word j) 0) (range_with_len first roots)) parts.1 in
    record {
      long = eqb-true (length word) count parts.0;
      bytes = bytes_from word rest.0;
      sums = sums_from word first roots rest.1;
    }

pub code_word_to :
    (count roots first : ℕ) (word : List ℕ) → IsCodeWord count roots first word → is_code_word count roots first word ≡ true
unfolding is_code_word
code_word_to count roots first word code =
    and_from (eqb (length word) count)
    (list_all (λ byte. ltb byte 256) word && list_all (λ j. eqb (power_sum word j) 0) (range_with_len first roots))
    (eq-eqb (length word) count code.long)
    (and_from (list_all (λ byte. ltb byte 256) word) (list_all (λ j. eqb (power_sum word j) 0) (range_with_len first roots))
    (bytes_to word code.bytes) (sums_to word first roots code.sums))

pub code_word_test : HasCodeWordTest
code_word_test count roots first word = (code_word_from count roots first word, code_word_to count roots first word)

begins_from : (message word : List ℕ) → begins_with message word ≡ true → take (length message) word ≡ message
begins_from message word e =
    let none = eqb-true (differences (take (length message) word) message) 0 e in
    same_from_no_differences (take (length message) word) message (omega arith)

begins_to : (message word : List ℕ) → take (length message) word ≡ message → begins_with message word ≡ true
begins_to message word e =
    eq-eqb (differences (take (length message) word) message) 0
    (ap (λ (w : List ℕ). differences w message) e ∙ differences-same message)

encoded_from :
    (F : IsField 391) (count roots first : ℕ) (message word : List ℕ) → IsInstance count roots first
    → length message ≡ count - roots → IsCodeWord count roots first word → take (count - roots) word ≡ message
    → word ≡ encoded_word count roots first message
unfolding encoded_word
encoded_from F count roots first message word instance l code front =
    let front' : take (length message) word ≡ message = ap (λ (n : ℕ). take n word) l ∙ front in
    sym (ap (λ o. unwrap_or o [])
    (find-only (λ (other : List ℕ). is_code_word count roots first other && begins_with message other) (words count) word
    (IsIn-words count word code.long code.bytes)
    (and_from (is_code_word count roots first word) (begins_with message word) (code_word_to count roots first word code)
    (begins_to message word front'))
    (λ other passes.
    let parts = and_parts (is_code_word count roots first other) (begins_with message other) passes in
    same_from_front F count roots first other word instance (code_word_from count roots first other parts.0) code
    (ap (λ (n : ℕ). take n other) (sym l) ∙ begins_from message other parts.1 ∙ sym front))))

pub one_encoded : (F : IsField 391) (D : HasDegrees) → HasOneEncoded
one_encoded F D count roots first message word instance l bytes =
    let some = code_word_exists F D count roots first message instance l bytes in
    let is : some.0 ≡ encoded_word count roots first message =
    encoded_from F count roots first message some.0 instance l some.1 some.2 in (
      λ e.
          let same : some.0 ≡ word = is ∙ sym e in (
            subst (IsCodeWord count roots first) same some.1,
            subst (λ (w : List ℕ). take (count - roots) w ≡ message) same some.2,
          ),
      λ has. encoded_from F count roots first message word instance l has.0 has.1,
    )

near_from :
    (count roots first : ℕ) (word other : List ℕ)
    → (is_code_word count roots first other && are_near roots word other) ≡ true
    → IsNear count roots first word other
near_from count roots first word other e =
    let parts = and_parts (is_code_word count roots first other) (are_near roots word other) e in
    record {
      code = code_word_from count roots first other parts.0;
      near = parts.1;
    }

corrected_to :
    (F : IsField 391) (count roots first : ℕ) (word other : List ℕ) → IsInstance count roots first
    → IsNear count roots first word other → corrected_word count roots first word ≡ Some other
unfolding corrected_word
corrected_to F count roots first word other instance is =
    find-only (λ (near : List ℕ). is_code_word count roots first near && are_near roots word near) (words count) other
    (IsIn-words count other is.code.long is.code.bytes)
    (and_from (is_code_word count roots first other) (are_near roots word other)
    (code_word_to count roots first other is.code) is.near)
    (λ near passes.
    one_nearest F count roots first word near other instance (near_from count roots first word near passes) is)

corrected_from :
    (count roots first : ℕ) (word other : List ℕ) → corrected_word count roots first word ≡ Some other
    → IsNear count roots first word other
unfolding corrected_word
corrected_from count roots first word other e =
    near_from count roots first word other
    (find-passes (λ (near : List ℕ). is_code_word count roots first near && are_near roots word near) (words count) other e)

corrected_none :
    (count roots first : ℕ) (word : List ℕ) → ¬ IsCorrectable count roots first word → corrected_word count roots first word ≡ None
unfolding corrected_word
corrected_none count roots first word none =
    find-none (λ (near : List ℕ). is_code_word count roots first near && are_near roots word near) (words count)
    (λ near passes. none (near, near_from count roots first word near passes))

pub is_corrected : (F : IsField 391) → IsCorrected
is_corrected F = record {
  nearest = λ count roots first word other instance. (
    corrected_from count roots first word other,
    corrected_to F count roots first word other instance,
  );
  none = λ count roots first word instance. (
    λ e some. let e' = corrected_to F count roots first word some.0 instance some.1 in cc,
    corrected_none count roots first word,
  );
}
