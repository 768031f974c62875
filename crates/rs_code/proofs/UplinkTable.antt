-- The table of the uplink's rows holds the multiples of a generator that is 0 at the 20 roots. Both are computed over the
-- whole table.
use Rattle.std.proofs.Common.{◌≡◌, ℕ, zero, suc, ◌+◌, ◌*◌, ◌/◌, ◌%◌, ◌<◌, ◌≤◌, List, [], ◌∷◌, Bool, true, ◌&&◌, eqb, length, get_or, take, drop, lit<, refl, sym, ◌∙◌, ap, ap₂, subst, arith, inl, inr}
use Rattle.std.specs.Int.Bits.{bit_xor, xor_zero_r, xor_assoc, xor_zero_l}
use Rattle.std.proofs.lemmas.Bool.{and_parts, eqb-true, cases_eq, cases_lt}
use Rattle.std.proofs.lemmas.List.{get_or-take, get_or-drop, get_or_past}
use Rattle.gf256_core.specs.Field.{IsField, product, power, remainder, plain_product}
use Rattle.poly256.specs.Polynomial.{element_product, element_power}
use Rattle.rs_code.specs.declared.uplink_rows.TheConstants.{UPLINK_ROWS}
use Rattle.rs_code.specs.CodeWord.{power_sum}
use Rattle.rs_code.specs.UplinkRows.{uplink_generator}
use Rattle.rs_code.proofs.Powers.{power-suc, power-zero, power-add, product-one}
use Rattle.rs_code.proofs.PowerSums.{power_sum-cons, power_sum-empty}

-- from the byte k on, each is that of the generator at k % 20 times k / 20
has_multiples : List ℕ → ℕ → List ℕ → Bool
has_multiples generator k [] = true
has_multiples generator k (x ∷ xs) =
    eqb x (element_product (k / 20) (get_or generator (k % 20) 0)) && has_multiples generator (suc k) xs

multiples_from_test :
    (generator : List ℕ) (k : ℕ) (xs : List ℕ) → has_multiples generator k xs ≡ true → (i : ℕ) → i < length xs
    → get_or xs i 0 ≡ element_product ((k + i) / 20) (get_or generator ((k + i) % 20) 0)
unfolding has_multiples
multiples_from_test generator k [] e i h = absurd (omega arith)
multiples_from_test generator k (x ∷ xs) e zero h =
    eqb-true x (element_product (k / 20) (get_or generator (k % 20) 0)) (and_parts _ _ e).0
    ∙ ap (λ (n : ℕ). element_product (n / 20) (get_or generator (n % 20) 0)) (let m : k ≡ k + 0 = omega arith in m)
multiples_from_test generator k (x ∷ xs) e (suc i) h =
    multiples_from_test generator (suc k) xs (and_parts _ _ e).1 i (omega arith)
    ∙ ap (λ (n : ℕ). element_product (n / 20) (get_or generator (n % 20) 0)) (let m : suc k + i ≡ k + suc i = omega arith in m)

-- the value of a word at an element, byte by byte
horner : ℕ → ℕ → List ℕ → ℕ
horner x sum [] = sum
horner x sum (b ∷ bs) = horner x (bit_xor (element_product sum x) b) bs

-- a word is 0 at x, at 2 x, at 4 x and so on
has_zeros : ℕ → ℕ → List ℕ → Bool
has_zeros x zero word = true
has_zeros x (suc count) word = eqb (horner x 0 word) 0 && has_zeros (element_product x 2) count word

zeros_from_test :
    (first count : ℕ) (word : List ℕ) → has_zeros (element_power 2 first) count word ≡ true → (j : ℕ) → first ≤ j
    → j < first + count → horner (element_power 2 j) 0 word ≡ 0
unfolding has_zeros
zeros_from_test first zero word e j h h' = absurd (omega arith)
zeros_from_test first (suc count) word e j h h' =
    let parts = and_parts (eqb (horner (element_power 2 first) 0 word) 0) (has_zeros (element_product (element_power 2 first) 2) count word) e in
    elim (cases_eq j first) [
      | inl same ↦
          ap (λ (n : ℕ). horner (element_power 2 n) 0 word) same ∙ eqb-true (horner (element_power 2 first) 0 word) 0 parts.0
      | inr apart ↦
          zeros_from_test (suc first) count word (ap (λ (x : ℕ). has_zeros x count word) (power-suc 2 first) ∙ parts.1) j (omega arith) (omega arith)
    ]

horner-sum :
    (F : IsField 391) (j sum : ℕ) (word : List ℕ) → sum < 256 → ((k : ℕ) → get_or word k 0 < 256)
    → horner (element_power 2 j) sum word
    ≡ bit_xor (element_product sum (element_power 2 (j * length word))) (power_sum word j)
unfolding horner
horner-sum F j sum [] fits bytes =
    sym (ap₂ bit_xor
    (ap (λ (n : ℕ). element_product sum (element_power 2 n)) (let e : j * 0 ≡ 0 = omega arith in e)
    ∙ ap (element_product sum) (power-zero 2) ∙ product-one F sum fits) (power_sum-empty j)
    ∙ xor_zero_r sum)
horner-sum F j sum (b ∷ bs) fits bytes =
    let long : j + j * length bs ≡ j * length (b ∷ bs) = omega arith in
    horner-sum F j (bit_xor (element_product sum (element_power 2 j)) b) bs
    (F.sum_fits (element_product sum (element_power 2 j)) b (F.product_fits sum (element_power 2 j)) (bytes 0)) (λ k. bytes (suc k))
    ∙ ap (λ (x : ℕ). bit_xor x (power_sum bs j))
    (F.distributive (element_product sum (element_power 2 j)) b (element_power 2 (j * length bs))
    ∙ ap (λ (x : ℕ). bit_xor x (element_product b (element_power 2 (j * length bs))))
    (F.product_assoc sum (element_power 2 j) (element_power 2 (j * length bs))
    ∙ ap (element_product sum) (sym (power-add F 2 j (j * length bs)) ∙ ap (element_power 2) long)))
    ∙ xor_assoc (element_product sum (element_power 2 (j * length (b ∷ bs)))) (element_product b (element_power 2 (j * length bs))) (power_sum bs j)
    ∙ ap (bit_xor (element_product sum (element_power 2 (j * length (b ∷ bs))))) (sym (power_sum-cons b bs j))

are_multiples : has_multiples (take 20 (drop 20 UPLINK_ROWS)) 0 UPLINK_ROWS ≡ true
unfolding has_multiples product remainder plain_product
are_multiples = refl

are_zeros : has_zeros (element_power 2 120) 20 (1 ∷ take 20 (drop 20 UPLINK_ROWS)) ≡ true
unfolding has_zeros horner product remainder plain_product power
are_zeros = refl

uplink_rows_long : length UPLINK_ROWS ≡ 5120
uplink_rows_long = refl

pub uplink_multiple :
    (i : ℕ) → i < 5120 → get_or UPLINK_ROWS i 0 ≡ element_product (i / 20) (get_or uplink_generator (i % 20) 0)
unfolding uplink_generator
uplink_multiple i h =
    let l = uplink_rows_long in
    multiples_from_test (take 20 (drop 20 UPLINK_ROWS)) 0 UPLINK_ROWS are_multiples i (omega arith)
    ∙ ap (λ (n : ℕ). element_product (n / 20) (get_or (take 20 (drop 20 UPLINK_ROWS)) (n % 20) 0)) (let m : 0 + i ≡ i = omega arith in m)

pub length-uplink_generator : length uplink_generator ≡ 20
unfolding uplink_generator
length-uplink_generator = refl

generator-place : (k : ℕ) → k < 20 → get_or uplink_generator k 0 ≡ get_or UPLINK_ROWS (20 + k) 0
unfolding uplink_generator
generator-place k h = get_or-take 20 (drop 20 UPLINK_ROWS) k 0 h ∙ get_or-drop 20 UPLINK_ROWS k 0

-- each byte of the generator is 1 times itself
generator-byte : (F : IsField 391) (k : ℕ) → get_or uplink_generator k 0 < 256
generator-byte F k = elim (cases_lt k 20) [
  | inl inside ↦
      let row : get_or UPLINK_ROWS (20 + k) 0 ≡ element_product 1 (get_or uplink_generator k 0) =
      uplink_multiple (20 + k) (omega arith)
      ∙ ap₂ (λ (a n : ℕ). element_product a (get_or uplink_generator n 0))
      (let e : (20 + k) / 20 ≡ 1 = omega arith in e) (let e : (20 + k) % 20 ≡ k = omega arith in e) in
      subst (λ (x : ℕ). x < 256) (sym (generator-place k inside ∙ row)) (F.product_fits 1 (get_or uplink_generator k 0))
  | inr past ↦
      let l = length-uplink_generator in
      subst (λ (x : ℕ). x < 256) (sym (get_or_past uplink_generator k 0 (omega arith))) (lit< tt)
]

generator-bytes : (F : IsField 391) (k : ℕ) → get_or (1 ∷ uplink_generator) k 0 < 256
generator-bytes F zero = lit< tt
generator-bytes F (suc k) = generator-byte F k

pub uplink_root :
    (F : IsField 391) (j : ℕ) → 120 ≤ j → j < 140 → power_sum (1 ∷ uplink_generator) j ≡ 0
unfolding uplink_generator
uplink_root F j low high =
    sym (xor_zero_l (power_sum (1 ∷ take 20 (drop 20 UPLINK_ROWS)) j))
    ∙ ap (λ (x : ℕ). bit_xor x (power_sum (1 ∷ take 20 (drop 20 UPLINK_ROWS)) j))
    (sym (F.product_zero (element_power 2 (j * length (1 ∷ take 20 (drop 20 UPLINK_ROWS))))))
    ∙ sym (horner-sum F j 0 (1 ∷ take 20 (drop 20 UPLINK_ROWS)) (lit< tt) (generator-bytes F))
    ∙ zeros_from_test 120 20 (1 ∷ take 20 (drop 20 UPLINK_ROWS)) are_zeros j low (omega arith)
