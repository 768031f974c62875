-- Each message has a code word: the parity of a message, made byte by byte from the polynomial that is 0 at the roots.
use Rattle.std.proofs.Common.{◌≡◌, ℕ, zero, suc, ◌+◌, ◌-◌, ◌<◌, ◌≤◌, List, [], ◌∷◌, ◌++◌, length, get_or, take, replicate, refl, sym, ◌∙◌, ap, ap₂, subst, arith, inl, inr, append_assoc, length-append}
use Rattle.std.specs.Int.Bits.{bit_xor, xor_zero_r, xor_self}
use Rattle.std.proofs.lemmas.Bool.{cases_lt}
use Rattle.std.proofs.lemmas.List.{append-nil, length-replicate, take_at}
use Rattle.list_members.specs.Places.{get_or-zeros}
use Rattle.gf256_core.specs.Field.{IsField}
use Rattle.poly256.specs.Polynomial.{element_product, element_power, scaled_coefficients}
use Rattle.poly256.specs.Laws.{HasDegrees}
use Rattle.rs_code.specs.CodeWord.{IsInstance, IsCodeWord, power_sum}
use Rattle.rs_code.proofs.Distance.{difference, length-difference, get_or-difference}
use Rattle.rs_code.proofs.Places.{get_or-push_zero, bytes-append}
use Rattle.rs_code.proofs.PowerSums.{power_sum-zeros}
use Rattle.rs_code.proofs.Kernels.{power_sum-root, IsRow-multiple, power_sum-step}

-- the coefficients behind the first, which is 1, times x + a
times_root : ℕ → List ℕ → List ℕ
times_root a ws = difference (ws ++ 0 ∷ []) (scaled_coefficients a (1 ∷ ws))

same_length : (D : HasDegrees) (a : ℕ) (ws : List ℕ) → length (ws ++ 0 ∷ []) ≡ length (scaled_coefficients a (1 ∷ ws))
same_length D a ws =
    let p = length-append ws (0 ∷ []) in
    let q = D.scaled_length a (1 ∷ ws) in
    omega arith

length-times_root : (D : HasDegrees) (a : ℕ) (ws : List ℕ) → length (times_root a ws) ≡ suc (length ws)
unfolding times_root
length-times_root D a ws =
    length-difference (ws ++ 0 ∷ []) (scaled_coefficients a (1 ∷ ws)) (same_length D a ws)
    ∙ (let p = length-append ws (0 ∷ []) in omega arith)

times_root-places :
    (F : IsField 391) (D : HasDegrees) (a : ℕ) (ws : List ℕ) (k : ℕ)
    → get_or (1 ∷ times_root a ws) k 0 ≡ bit_xor (get_or (1 ∷ ws) k 0) (element_product a (get_or (0 ∷ 1 ∷ ws) k 0))
unfolding times_root
times_root-places F D a ws zero = sym (ap (bit_xor 1) (F.product_zero_right a) ∙ xor_zero_r 1)
times_root-places F D a ws (suc k) =
    get_or-difference (ws ++ 0 ∷ []) (scaled_coefficients a (1 ∷ ws)) (same_length D a ws) k
    ∙ ap₂ bit_xor (get_or-push_zero ws k) (D.scaled_coefficient a (1 ∷ ws) k)

-- the coefficients, behind the first, of the polynomial that is 0 at so many roots
roots_polynomial : ℕ → ℕ → List ℕ
roots_polynomial first zero = []
roots_polynomial first (suc count) = times_root (element_power 2 (first + count)) (roots_polynomial first count)

length-roots_polynomial : (D : HasDegrees) (first count : ℕ) → length (roots_polynomial first count) ≡ count
unfolding roots_polynomial
length-roots_polynomial D first zero = refl
length-roots_polynomial D first (suc count) =
    length-times_root D (element_power 2 (first + count)) (roots_polynomial first count)
    ∙ ap suc (length-roots_polynomial D first count)

zero_at_roots :
    (F : IsField 391) (D : HasDegrees) (first count j : ℕ) → first ≤ j → j < first + count
    → power_sum (1 ∷ roots_polynomial first count) j ≡ 0
unfolding roots_polynomial
zero_at_roots F D first zero j h h' = absurd (omega arith)
zero_at_roots F D first (suc count) j h h' =
    let a : ℕ = element_power 2 (first + count) in
    power_sum-root F D a (1 ∷ roots_polynomial first count) (1 ∷ times_root a (roots_polynomial first count)) j
    (ap suc (length-times_root D a (roots_polynomial first count))) (times_root-places F D a (roots_polynomial first count))
    ∙ elim (cases_lt j (first + count)) [
      | inl before ↦
          ap (element_product (bit_xor (element_power 2 j) a)) (zero_at_roots F D first count j h before)
          ∙ F.product_zero_right (bit_xor (element_power 2 j) a)
      | inr now ↦
          let same : first + count ≡ j = omega arith in
          ap (λ (n : ℕ). element_product (bit_xor (element_power 2 j) (element_power 2 n)) (power_sum (1 ∷ roots_polynomial first count) j)) same
          ∙ ap (λ (n : ℕ). element_product n (power_sum (1 ∷ roots_polynomial first count) j)) (xor_self (element_power 2 j))
          ∙ F.product_zero (power_sum (1 ∷ roots_polynomial first count) j)
    ]

-- bytes that make a message a word that is 0 at the roots
record IsParity (roots first : ℕ) (message rest : List ℕ) : Type 0 where
  long : length rest ≡ roots
  bytes : (k : ℕ) → get_or rest k 0 < 256
  sums : (j : ℕ) → first ≤ j → j < first + roots → power_sum (message ++ rest) j ≡ 0

IsParity-more :
    (F : IsField 391) (D : HasDegrees) (roots first b : ℕ) (message rest : List ℕ) → b < 256 → IsParity roots first message rest
    → (next : List ℕ) × IsParity roots first (message ++ b ∷ []) next
IsParity-more F D roots first b message [] h is =
    let l = is.long in
    ([], record { long = is.long; bytes = is.bytes; sums = λ j low high. absurd (omega arith) })
IsParity-more F D roots first b message (r ∷ rs) h is =
    let byte : ℕ = bit_xor b r in
    let fits : bit_xor b r < 256 = F.sum_fits b r h (is.bytes 0) in
    let row : List ℕ = scaled_coefficients (bit_xor b r) (roots_polynomial first roots) in
    let generator_long : length (roots_polynomial first roots) ≡ roots = length-roots_polynomial D first roots in
    let row_long : length (scaled_coefficients (bit_xor b r) (roots_polynomial first roots)) ≡ roots =
    D.scaled_length (bit_xor b r) (roots_polynomial first roots) ∙ generator_long in
    let pushed : length (rs ++ 0 ∷ []) ≡ roots = length-append rs (0 ∷ []) ∙ (let l = is.long in omega arith) in
    let places : (k : ℕ)
    → get_or (difference (rs ++ 0 ∷ []) (scaled_coefficients (bit_xor b r) (roots_polynomial first roots))) k 0
    ≡ bit_xor (get_or rs k 0) (get_or (scaled_coefficients (bit_xor b r) (roots_polynomial first roots)) k 0) =
    λ k.
    get_or-difference (rs ++ 0 ∷ []) (scaled_coefficients (bit_xor b r) (roots_polynomial first roots)) (pushed ∙ sym row_long) k
    ∙ ap (λ (n : ℕ). bit_xor n (get_or (scaled_coefficients (bit_xor b r) (roots_polynomial first roots)) k 0)) (get_or-push_zero rs k) in
    let long : length (difference (rs ++ 0 ∷ []) (scaled_coefficients (bit_xor b r) (roots_polynomial first roots))) ≡ roots =
    length-difference (rs ++ 0 ∷ []) (scaled_coefficients (bit_xor b r) (roots_polynomial first roots)) (pushed ∙ sym row_long) ∙ pushed in (
      difference (rs ++ 0 ∷ []) (scaled_coefficients (bit_xor b r) (roots_polynomial first roots)),
      record {
        long = long;
        bytes = λ k.
            subst (λ (n : ℕ). n < 256) (sym (places k))
            (F.sum_fits (get_or rs k 0) (get_or (scaled_coefficients (bit_xor b r) (roots_polynomial first roots)) k 0) (is.bytes (suc k))
            (subst (λ (n : ℕ). n < 256) (sym (D.scaled_coefficient (bit_xor b r) (roots_polynomial first roots) k))
            (F.product_fits (bit_xor b r) (get_or (roots_polynomial first roots) k 0))));
        sums = λ j low high.
            power_sum-step F roots j b (bit_xor b r) message (r ∷ rs)
            (difference (rs ++ 0 ∷ []) (scaled_coefficients (bit_xor b r) (roots_polynomial first roots)))
            (scaled_coefficients (bit_xor b r) (roots_polynomial first roots)) is.long long refl
            (λ k.
            places k
            ∙ ap (λ (n : ℕ). bit_xor (get_or (r ∷ rs) n 0) (get_or (scaled_coefficients (bit_xor b r) (roots_polynomial first roots)) k 0))
            (let e : suc k ≡ k + 1 = omega arith in e))
            (IsRow-multiple F roots j (bit_xor b r) (roots_polynomial first roots)
            (scaled_coefficients (bit_xor b r) (roots_polynomial first roots)) fits generator_long row_long
            (D.scaled_coefficient (bit_xor b r) (roots_polynomial first roots)) (zero_at_roots F D first roots j low high))
            (is.sums j low high);
      },
    )

IsParity-all :
    (F : IsField 391) (D : HasDegrees) (roots first : ℕ) (message more rest : List ℕ) → ((i : ℕ) → get_or more i 0 < 256)
    → IsParity roots first message rest → (next : List ℕ) × IsParity roots first (message ++ more) next
IsParity-all F D roots first message [] rest bytes is =
    (rest, subst (λ (w : List ℕ). IsParity roots first w rest) (sym (append-nil message)) is)
IsParity-all F D roots first message (b ∷ bs) rest bytes is =
    let one = IsParity-more F D roots first b message rest (bytes 0) is in
    let all = IsParity-all F D roots first (message ++ b ∷ []) bs one.0 (λ i. bytes (suc i)) one.1 in
    (all.0, subst (λ (w : List ℕ). IsParity roots first w all.0) (append_assoc message (b ∷ []) bs) all.1)

pub code_word_exists :
    (F : IsField 391) (D : HasDegrees) (count roots first : ℕ) (message : List ℕ) → IsInstance count roots first
    → length message ≡ count - roots → ((i : ℕ) → get_or message i 0 < 256)
    → (word : List ℕ) × IsCodeWord count roots first word × (take (count - roots) word ≡ message)
code_word_exists F D count roots first message instance l bytes =
    let none : IsParity roots first [] (replicate roots 0) = record {
      long = length-replicate roots 0;
      bytes = λ k. let e = get_or-zeros roots k in omega arith;
      sums = λ j low high. power_sum-zeros F (replicate roots 0) (get_or-zeros roots) j;
    } in
    let made = IsParity-all F D roots first [] message (replicate roots 0) bytes none in
    let below = instance.below in
    let rest = made.1 in (
      message ++ made.0,
      record {
        long = length-append message made.0 ∙ (let m = rest.long in omega arith);
        bytes = bytes-append message made.0 bytes rest.bytes;
        sums = rest.sums;
      },
      take_at message made.0 (count - roots) l,
    )
