-- What the tables say of products: a row times a number is x times it so often, the rows are all the elements but 0,
-- and they come round after 255.
use Rattle.std.proofs.Common.{◌≡◌, ℕ, zero, suc, ◌+◌, ◌-◌, ◌%◌, ◌<◌, List, get_or, refl, sym, ◌∙◌, ap, arith, inl, inr, lit<}
use Rattle.std.proofs.lemmas.Bool.{cases_eq, cases_lt}
use Rattle.std.specs.Int.Bits.{bit_xor, xor_zero_r, xor_self, xor_assoc}
use Rattle.std.proofs.lemmas.Nat.{xor_lt}
use Rattle.bit_fields.specs.Xors.{xor-cancel, xor-equal}
use Rattle.gf256_core.specs.Field.{product}
use Rattle.gf256_core.specs.Tables.{AreTables}
use Rattle.gf256_core.proofs.Products.{HasDegreeEight, times_x, times_x-xor, times_x-zero, times_x-fits, product-two, product-one_left, product-times_x}
use Rattle.gf256_core.proofs.Pigeonhole.{place_of}

pub degree_of : {p : ℕ} {powers logarithms : List ℕ} → AreTables p powers logarithms → HasDegreeEight p
degree_of t = record { low = t.low; high = t.high }

-- x times z, n times over
unfoldable pub shifted : ℕ → ℕ → ℕ → ℕ
shifted p zero z = z
shifted p (suc n) z = times_x p (shifted p n z)

pub shifted-fits : (p n z : ℕ) → HasDegreeEight p → z < 256 → shifted p n z < 256
unfolding shifted
shifted-fits p zero z d h = h
shifted-fits p (suc n) z d h = times_x-fits p (shifted p n z) d (shifted-fits p n z d h)

pub shifted-zero : (p n : ℕ) → shifted p n 0 ≡ 0
unfolding shifted
shifted-zero p zero = refl
shifted-zero p (suc n) = ap (times_x p) (shifted-zero p n) ∙ times_x-zero p

pub shifted-shifted : (p m n z : ℕ) → shifted p m (shifted p n z) ≡ shifted p (m + n) z
unfolding shifted
shifted-shifted p zero n z = ap (λ (k : ℕ). shifted p k z) (let e : n ≡ 0 + n = omega arith in e)
shifted-shifted p (suc m) n z =
    ap (times_x p) (shifted-shifted p m n z) ∙ ap (λ (k : ℕ). shifted p k z) (let e : suc (m + n) ≡ suc m + n = omega arith in e)

-- a row is x times 1, so often
pub row-shifted :
    {p : ℕ} {powers logarithms : List ℕ} (t : AreTables p powers logarithms) (i : ℕ) → i < 255 → get_or powers i 0 ≡ shifted p i 1
unfolding shifted
row-shifted t zero h = t.first
row-shifted {p} {powers} t (suc i) h =
    let before : get_or powers i 0 ≡ shifted p i 1 = row-shifted t i (omega arith) in
    let fits : shifted p i 1 < 256 = shifted-fits p i 1 (degree_of t) (lit< tt) in
    ap (λ (k : ℕ). get_or powers k 0) (let e : suc i ≡ i + 1 = omega arith in e)
    ∙ t.next i (omega arith)
    ∙ ap (λ (x : ℕ). product p x 2) before
    ∙ product-two p (shifted p i 1) fits

-- a product with x times 1, so often
pub product-shifted : (p n b : ℕ) → HasDegreeEight p → b < 256 → product p (shifted p n 1) b ≡ shifted p n b
unfolding shifted
product-shifted p zero b d h = product-one_left p b h
product-shifted p (suc n) b d h =
    product-times_x p (shifted p n 1) b d (shifted-fits p n 1 d (lit< tt)) ∙ ap (times_x p) (product-shifted p n b d h)

-- the rows have each element but 0
pub record Row (p : ℕ) (powers logarithms : List ℕ) (b : ℕ) : Type 0 where
  pub at : ℕ
  pub fits : at < 255
  pub is : get_or powers at 0 ≡ b
  pub found : get_or logarithms b 0 ≡ at
  pub shifts : shifted p at 1 ≡ b

-- the place of `b` among the rows
row_place :
    {p : ℕ} {powers logarithms : List ℕ} (t : AreTables p powers logarithms) (b : ℕ) → 0 < b → b < 256
    → (i : ℕ) × (i < 255) × (get_or powers i 0 ≡ b)
row_place {p} {powers} {logarithms} t b low high =
    let place : (i : ℕ) × (i < 255) × (get_or powers i 0 - 1 ≡ b - 1) =
    place_of (λ i. get_or powers i 0 - 1) 255
    (λ i h. let r : get_or powers i 0 ≡ shifted p i 1 = row-shifted t i h in
    let f : shifted p i 1 < 256 = shifted-fits p i 1 (degree_of t) (lit< tt) in
    let n : 0 < get_or powers i 0 = t.not_zero i h in omega arith)
    (λ i j hi hj e.
    let ni : 0 < get_or powers i 0 = t.not_zero i hi in
    let nj : 0 < get_or powers j 0 = t.not_zero j hj in
    let same : get_or powers i 0 ≡ get_or powers j 0 = omega arith in
    sym (t.logarithm i hi) ∙ ap (λ (x : ℕ). get_or logarithms x 0) same ∙ t.logarithm j hj)
    (b - 1) (omega arith) in
    (place.0, place.1, (let n : 0 < get_or powers place.0 0 = t.not_zero place.0 place.1 in let e = place.2 in omega arith))

row_at :
    {p : ℕ} {powers logarithms : List ℕ} (t : AreTables p powers logarithms) (b i : ℕ) → i < 255 → get_or powers i 0 ≡ b
    → Row p powers logarithms b
row_at {p} {powers} {logarithms} t b i fits is = record {
  at = i;
  fits = fits;
  is = is;
  found = ap (λ (x : ℕ). get_or logarithms x 0) (sym is) ∙ t.logarithm i fits;
  shifts = sym (row-shifted t i fits) ∙ is;
}

pub row_of :
    {p : ℕ} {powers logarithms : List ℕ} (t : AreTables p powers logarithms) (b : ℕ) → 0 < b → b < 256 → Row p powers logarithms b
row_of t b low high = let place = row_place t b low high in row_at t b place.0 place.1 place.2

-- two rows that are equal have one place
row_apart :
    {p : ℕ} {powers logarithms : List ℕ} (t : AreTables p powers logarithms) (i j : ℕ) → i < 255 → j < 255
    → shifted p i 1 ≡ shifted p j 1 → i ≡ j
row_apart {p} {powers} {logarithms} t i j hi hj e =
    sym (t.logarithm i hi)
    ∙ ap (λ (x : ℕ). get_or logarithms x 0) (row-shifted t i hi ∙ e ∙ sym (row-shifted t j hj))
    ∙ t.logarithm j hj

row_not_zero :
    {p : ℕ} {powers logarithms : List ℕ} (t : AreTables p powers logarithms) (i : ℕ) → i < 255 → 0 < shifted p i 1
row_not_zero {p} {powers} t i h =
    let n : 0 < get_or powers i 0 = t.not_zero i h in let r : get_or powers i 0 ≡ shifted p i 1 = row-shifted t i h in omega arith

-- the row that x times would make 0 is not the last one: with 1 added it would be a row too
not_the_last :
    {p : ℕ} {powers logarithms : List ℕ} (t : AreTables p powers logarithms) (b : ℕ) → 0 < b → b < 256 → times_x p b ≡ 0
    → shifted p 254 1 ≡ b → ⊥
unfolding shifted
not_the_last {p} {powers} {logarithms} t b low high e last =
    let other : times_x p (bit_xor 1 b) ≡ shifted p 1 1 =
    times_x-xor p 1 b ∙ ap (bit_xor (times_x p 1)) e ∙ xor_zero_r (times_x p 1) in
    let fits : bit_xor 1 b < 256 = xor_lt 8 1 b (lit< tt) high in
    elim (cases_eq (bit_xor 1 b) 0) [
      | inl none ↦
          let same : shifted p 0 1 ≡ shifted p 254 1 = xor-equal 1 b none ∙ sym last in
          let places : ◌≡◌ {A = ℕ} 0 254 = row_apart t 0 254 (lit< tt) (lit< tt) same in omega arith
      | inr some ↦
          let r = row_of t (bit_xor 1 b) (omega arith) fits in
          elim (cases_lt r.at 254) [
            | inl inner ↦
                let same : shifted p (suc r.at) 1 ≡ shifted p 1 1 = ap (times_x p) r.shifts ∙ other in
                let places : suc r.at ≡ 1 = row_apart t (suc r.at) 1 (omega arith) (lit< tt) same in
                let first : r.at ≡ 0 = omega arith in
                let one : bit_xor 1 b ≡ 1 = sym r.shifts ∙ ap (λ (k : ℕ). shifted p k 1) first in
                let zero : b ≡ 0 = sym (xor-cancel 1 b) ∙ ap (bit_xor 1) one in
                omega arith
            | inr outer ↦
                let place : r.at ≡ 254 = let f = r.fits in omega arith in
                let same : bit_xor 1 b ≡ b = sym r.shifts ∙ ap (λ (k : ℕ). shifted p k 1) place ∙ last in
                let zero : ◌≡◌ {A = ℕ} 1 0 =
                sym (xor_zero_r 1) ∙ ap (bit_xor 1) (sym (xor_self b)) ∙ sym (xor_assoc 1 b b)
                ∙ ap (λ (x : ℕ). bit_xor x b) same ∙ xor_self b in
                omega arith
          ]
    ]

-- x times an element is 0 at 0 alone
no_kernel :
    {p : ℕ} {powers logarithms : List ℕ} (t : AreTables p powers logarithms) (b : ℕ) → b < 256 → times_x p b ≡ 0 → b ≡ 0
unfolding shifted
no_kernel {p} t b fits e = elim (cases_eq b 0) [
  | inl none ↦ none
  | inr some ↦
      let low : 0 < b = omega arith in
      let r = row_of t b low fits in
      elim (cases_lt r.at 254) [
        | inl inner ↦
            let next : shifted p (suc r.at) 1 ≡ 0 = ap (times_x p) r.shifts ∙ e in
            let not_zero : 0 < shifted p (suc r.at) 1 = row_not_zero t (suc r.at) (omega arith) in
            absurd (omega arith)
        | inr outer ↦
            let place : 254 ≡ r.at = let f = r.fits in omega arith in
            absurd (not_the_last t b low fits e (ap (λ (k : ℕ). shifted p k 1) place ∙ r.shifts))
      ]
]

pub shifted-not_zero :
    {p : ℕ} {powers logarithms : List ℕ} (t : AreTables p powers logarithms) (n z : ℕ) → z < 256 → shifted p n z ≡ 0 → z ≡ 0
unfolding shifted
shifted-not_zero t zero z h e = e
shifted-not_zero {p} t (suc n) z h e =
    shifted-not_zero t n z h (no_kernel t (shifted p n z) (shifted-fits p n z (degree_of t) h) e)

-- after 255 steps the rows come round
comes_round : {p : ℕ} {powers logarithms : List ℕ} (t : AreTables p powers logarithms) → shifted p 255 1 ≡ 1
unfolding shifted
comes_round {p} t =
    let d = degree_of t in
    let last : shifted p 254 1 < 256 = shifted-fits p 254 1 d (lit< tt) in
    let fits : shifted p 255 1 < 256 = shifted-fits p 255 1 d (lit< tt) in
    elim (cases_eq (shifted p 255 1) 0) [
      | inl none ↦ let one : ◌≡◌ {A = ℕ} 1 0 = shifted-not_zero t 255 1 (lit< tt) none in absurd (omega arith)
      | inr some ↦
          let r = row_of t (shifted p 255 1) (omega arith) fits in
          elim (cases_eq r.at 0) [
            | inl first ↦ sym r.shifts ∙ ap (λ (k : ℕ). shifted p k 1) first
            | inr later ↦
                let place : suc (r.at - 1) ≡ r.at = omega arith in
                let inner : shifted p (r.at - 1) 1 < 256 = shifted-fits p (r.at - 1) 1 d (lit< tt) in
                let equal : times_x p (shifted p 254 1) ≡ times_x p (shifted p (r.at - 1) 1) =
                sym (ap (λ (k : ℕ). shifted p k 1) place ∙ r.shifts) in
                let none : times_x p (bit_xor (shifted p 254 1) (shifted p (r.at - 1) 1)) ≡ 0 =
                times_x-xor p (shifted p 254 1) (shifted p (r.at - 1) 1)
                ∙ ap (λ (x : ℕ). bit_xor x (times_x p (shifted p (r.at - 1) 1))) equal
                ∙ xor_self (times_x p (shifted p (r.at - 1) 1)) in
                let sum : bit_xor (shifted p 254 1) (shifted p (r.at - 1) 1) ≡ 0 =
                no_kernel t (bit_xor (shifted p 254 1) (shifted p (r.at - 1) 1)) (xor_lt 8 (shifted p 254 1) (shifted p (r.at - 1) 1) last inner) none in
                let f : r.at < 255 = r.fits in
                let same : 254 ≡ r.at - 1 =
                row_apart t 254 (r.at - 1) (lit< tt) (omega arith) (xor-equal (shifted p 254 1) (shifted p (r.at - 1) 1) sum) in
                absurd (omega arith)
          ]
    ]

pub shifted-mod :
    {p : ℕ} {powers logarithms : List ℕ} (t : AreTables p powers logarithms) (n : ℕ) → shifted p (n % 255) 1 ≡ shifted p n 1
unfolding shifted
shifted-mod t zero = refl
shifted-mod {p} t (suc n) = elim (cases_eq (n % 255) 254) [
  | inl last ↦
      let none : suc n % 255 ≡ 0 = omega arith in
      ap (λ (k : ℕ). shifted p k 1) none ∙ sym (comes_round t)
      ∙ ap (λ (k : ℕ). times_x p (shifted p k 1)) (sym last) ∙ ap (times_x p) (shifted-mod t n)
  | inr inner ↦
      let next : suc n % 255 ≡ suc (n % 255) = omega arith in
      ap (λ (k : ℕ). shifted p k 1) next ∙ ap (times_x p) (shifted-mod t n)
]
