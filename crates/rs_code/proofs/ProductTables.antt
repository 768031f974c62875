-- The tables by which products are made: their laws are computed over the whole tables.
use Rattle.std.proofs.Common.{◌≡◌, ℕ, zero, suc, ◌+◌, ◌<◌, ◌≤◌, List, [], ◌∷◌, Bool, true, false, ◌&&◌, cond, eqb, ltb, length, get_or, refl, sym, ◌∙◌, ap, ap₂, subst, arith, inl, inr}
use Rattle.std.proofs.lemmas.Bool.{and_parts, eqb-true, ltb-true, cases_eq}
use Rattle.gf256_core.specs.Field.{IsField, product, power, remainder, plain_product}
use Rattle.poly256.specs.Polynomial.{element_product, element_power}
use Rattle.rs_code.specs.declared.product.TheConstants.{POWERS, LOGARITHMS}
use Rattle.rs_code.proofs.Powers.{power-suc, power-add}
use Rattle.rs_code.proofs.ZeroPlaces.{chosen_unless}

-- all rows are 0
are_zeros : List ℕ → Bool
are_zeros [] = true
are_zeros (row ∷ rows) = eqb row 0 && are_zeros rows

-- so many rows are x, 2 x, 4 x and so on, and the rest are 0
are_powers : ℕ → ℕ → List ℕ → Bool
are_powers x zero rows = are_zeros rows
are_powers x (suc count) [] = false
are_powers x (suc count) (row ∷ rows) = eqb row x && are_powers (element_product x 2) count rows

zeros_from_test : (rows : List ℕ) → are_zeros rows ≡ true → (i : ℕ) → get_or rows i 0 ≡ 0
unfolding are_zeros
zeros_from_test [] e i = refl
zeros_from_test (row ∷ rows) e zero = eqb-true row 0 (and_parts (eqb row 0) (are_zeros rows) e).0
zeros_from_test (row ∷ rows) e (suc i) = zeros_from_test rows (and_parts (eqb row 0) (are_zeros rows) e).1 i

powers_from_test :
    (k count : ℕ) (rows : List ℕ) → are_powers (element_power 2 k) count rows ≡ true → (i : ℕ) → i < count
    → get_or rows i 0 ≡ element_power 2 (k + i)
unfolding are_powers
powers_from_test k zero rows e i h = absurd (omega arith)
powers_from_test k (suc count) [] e i h = cc
powers_from_test k (suc count) (row ∷ rows) e zero h =
    eqb-true row (element_power 2 k) (and_parts (eqb row (element_power 2 k)) (are_powers (element_product (element_power 2 k) 2) count rows) e).0
    ∙ ap (element_power 2) (let m : k ≡ k + 0 = omega arith in m)
powers_from_test k (suc count) (row ∷ rows) e (suc i) h =
    powers_from_test (suc k) count rows
    (ap (λ (x : ℕ). are_powers x count rows) (power-suc 2 k)
    ∙ (and_parts (eqb row (element_power 2 k)) (are_powers (element_product (element_power 2 k) 2) count rows) e).1) i (omega arith)
    ∙ ap (element_power 2) (let m : suc k + i ≡ k + suc i = omega arith in m)

past_from_test :
    (x count : ℕ) (rows : List ℕ) → are_powers x count rows ≡ true → (i : ℕ) → count ≤ i → get_or rows i 0 ≡ 0
unfolding are_powers
past_from_test x zero rows e i h = zeros_from_test rows e i
past_from_test x (suc count) [] e i h = refl
past_from_test x (suc count) (row ∷ rows) e zero h = absurd (omega arith)
past_from_test x (suc count) (row ∷ rows) e (suc i) h =
    past_from_test (element_product x 2) count rows (and_parts (eqb row x) (are_powers (element_product x 2) count rows) e).1 i (omega arith)

-- each row from that of a on is the place of its element among the powers, and 510 of 0
are_logarithms : List ℕ → ℕ → List ℕ → Bool
are_logarithms powers a [] = true
are_logarithms powers a (row ∷ rows) =
    cond (eqb a 0) (eqb row 510) (ltb row 255 && eqb (get_or powers row 0) a) && are_logarithms powers (suc a) rows

logarithm_from_test :
    (powers : List ℕ) (a : ℕ) (rows : List ℕ) → are_logarithms powers a rows ≡ true → (i : ℕ) → i < length rows
    → cond (eqb (a + i) 0) (eqb (get_or rows i 0) 510) (ltb (get_or rows i 0) 255 && eqb (get_or powers (get_or rows i 0) 0) (a + i)) ≡ true
unfolding are_logarithms
logarithm_from_test powers a [] e i h = absurd (omega arith)
logarithm_from_test powers a (row ∷ rows) e zero h =
    ap (λ (n : ℕ). cond (eqb n 0) (eqb row 510) (ltb row 255 && eqb (get_or powers row 0) n)) (let m : a + 0 ≡ a = omega arith in m)
    ∙ (and_parts (cond (eqb a 0) (eqb row 510) (ltb row 255 && eqb (get_or powers row 0) a)) (are_logarithms powers (suc a) rows) e).0
logarithm_from_test powers a (row ∷ rows) e (suc i) h =
    ap (λ (n : ℕ). cond (eqb n 0) (eqb (get_or rows i 0) 510) (ltb (get_or rows i 0) 255 && eqb (get_or powers (get_or rows i 0) 0) n))
    (let m : a + suc i ≡ suc a + i = omega arith in m)
    ∙ logarithm_from_test powers (suc a) rows
    (and_parts (cond (eqb a 0) (eqb row 510) (ltb row 255 && eqb (get_or powers row 0) a)) (are_logarithms powers (suc a) rows) e).1 i (omega arith)

powers_test : are_powers (element_power 2 0) 510 POWERS ≡ true
unfolding are_powers are_zeros product remainder plain_product power
powers_test = refl

logarithms_test : are_logarithms POWERS 0 LOGARITHMS ≡ true
unfolding are_logarithms
logarithms_test = refl

logarithms_long : length LOGARITHMS ≡ 256
logarithms_long = refl

pub logarithm-zero : get_or LOGARITHMS 0 0 ≡ 510
logarithm-zero = refl

other_case : {X : Type 0} (n : ℕ) (one other : X) → 0 < n → cond (eqb n 0) one other ≡ other
other_case n one other h = chosen_unless n one other (λ e. absurd (omega arith))

-- the logarithm of an element that is not 0
pub logarithm-some :
    (a : ℕ) → 0 < a → a < 256 → (get_or LOGARITHMS a 0 < 255) × (element_power 2 (get_or LOGARITHMS a 0) ≡ a)
logarithm-some zero some fits = absurd (omega arith)
logarithm-some (suc a) some fits =
    let l = logarithms_long in
    let test : (ltb (get_or LOGARITHMS (suc a) 0) 255 && eqb (get_or POWERS (get_or LOGARITHMS (suc a) 0) 0) (suc a)) ≡ true =
    sym (other_case (suc a) (eqb (get_or LOGARITHMS (suc a) 0) 510) (ltb (get_or LOGARITHMS (suc a) 0) 255 && eqb (get_or POWERS (get_or LOGARITHMS (suc a) 0) 0) (suc a)) (omega arith))
    ∙ ap (λ (n : ℕ). cond (eqb n 0) (eqb (get_or LOGARITHMS (suc a) 0) 510) (ltb (get_or LOGARITHMS (suc a) 0) 255 && eqb (get_or POWERS (get_or LOGARITHMS (suc a) 0) 0) n))
    (let m : suc a ≡ 0 + suc a = omega arith in m)
    ∙ logarithm_from_test POWERS 0 LOGARITHMS logarithms_test (suc a) (omega arith) in
    let parts = and_parts (ltb (get_or LOGARITHMS (suc a) 0) 255) (eqb (get_or POWERS (get_or LOGARITHMS (suc a) 0) 0) (suc a)) test in
    let low : get_or LOGARITHMS (suc a) 0 < 255 = ltb-true (get_or LOGARITHMS (suc a) 0) 255 parts.0 in (
      low,
      ap (element_power 2) (let m : get_or LOGARITHMS (suc a) 0 ≡ 0 + get_or LOGARITHMS (suc a) 0 = omega arith in m)
          ∙ sym (powers_from_test 0 510 POWERS powers_test (get_or LOGARITHMS (suc a) 0) (omega arith))
          ∙ eqb-true (get_or POWERS (get_or LOGARITHMS (suc a) 0) 0) (suc a) parts.1,
    )

pub logarithm-fits : (a : ℕ) → a < 256 → get_or LOGARITHMS a 0 ≤ 510
logarithm-fits a fits = elim (cases_eq a 0) [
  | inl none ↦ subst (λ (n : ℕ). get_or LOGARITHMS n 0 ≤ 510) (sym none) (let e = logarithm-zero in omega arith)
  | inr some ↦ let low = (logarithm-some a (omega arith) fits).0 in omega arith
]

-- the row at the sum of the logarithms is the product
pub product_row :
    (F : IsField 391) (a b : ℕ) → a < 256 → b < 256
    → get_or POWERS (get_or LOGARITHMS a 0 + get_or LOGARITHMS b 0) 0 ≡ element_product a b
product_row F a b fits fits' = elim (cases_eq a 0) [
  | inl none ↦
      let far : 510 ≤ get_or LOGARITHMS a 0 + get_or LOGARITHMS b 0 =
      subst (λ (n : ℕ). 510 ≤ get_or LOGARITHMS n 0 + get_or LOGARITHMS b 0) (sym none) (let e = logarithm-zero in omega arith) in
      past_from_test (element_power 2 0) 510 POWERS powers_test (get_or LOGARITHMS a 0 + get_or LOGARITHMS b 0) far
      ∙ sym (ap (λ (x : ℕ). element_product x b) none ∙ F.product_zero b)
  | inr some ↦ elim (cases_eq b 0) [
    | inl none ↦
        let far : 510 ≤ get_or LOGARITHMS a 0 + get_or LOGARITHMS b 0 =
        subst (λ (n : ℕ). 510 ≤ get_or LOGARITHMS a 0 + get_or LOGARITHMS n 0) (sym none) (let e = logarithm-zero in omega arith) in
        past_from_test (element_power 2 0) 510 POWERS powers_test (get_or LOGARITHMS a 0 + get_or LOGARITHMS b 0) far
        ∙ sym (ap (element_product a) none ∙ F.product_zero_right a)
    | inr some' ↦
        let l = logarithm-some a (omega arith) fits in
        let m = logarithm-some b (omega arith) fits' in
        let low = l.0 in
        let low' = m.0 in
        powers_from_test 0 510 POWERS powers_test (get_or LOGARITHMS a 0 + get_or LOGARITHMS b 0) (omega arith)
        ∙ ap (element_power 2) (let e : 0 + (get_or LOGARITHMS a 0 + get_or LOGARITHMS b 0) ≡ get_or LOGARITHMS a 0 + get_or LOGARITHMS b 0 = omega arith in e)
        ∙ power-add F 2 (get_or LOGARITHMS a 0) (get_or LOGARITHMS b 0)
        ∙ ap₂ element_product l.1 m.1
  ]
]
