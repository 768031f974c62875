-- The laws of a field, from those of the tables.
use Rattle.std.proofs.Common.{◌≡◌, ℕ, zero, suc, ◌+◌, ◌-◌, ◌%◌, ◌<◌, List, get_or, refl, sym, ◌∙◌, ap, ap₂, arith, inl, inr, ◌⊎◌, lit<}
use Rattle.std.proofs.lemmas.Bool.{cases_eq, cases_lt}
use Rattle.std.specs.Int.Bits.{bit_xor, xor_zero_r, xor_self, xor_assoc}
use Rattle.std.proofs.lemmas.Nat.{xor_lt, xor_comm, mod_below}
use Rattle.gf256_core.specs.Field.{product, power, IsField}
use Rattle.gf256_core.specs.Tables.{AreTables}
use Rattle.gf256_core.proofs.Products.{HasDegreeEight, product-fits, product-IsRemainder, product-zero_left, product-zero_right, product-one_left, product-low_left, product-low_right, product-xor_left, product-two, product-times_x, times_x}
use Rattle.gf256_core.proofs.Rows.{degree_of, Row, row_of, shifted, shifted-fits, shifted-shifted, product-shifted, shifted-not_zero, shifted-mod, row-shifted}

-- a byte is 0 or a row
byte_cases :
    {p : ℕ} {powers logarithms : List ℕ} (t : AreTables p powers logarithms) (b : ℕ) → b < 256 → (b ≡ 0) ⊎ Row p powers logarithms b
byte_cases t b h = elim (cases_eq b 0) [ inl e ↦ inl e | inr other ↦ inr (row_of t b (omega arith) h) ]

-- a product of two rows is the row of the sum of their places
rows_product :
    {p : ℕ} {powers logarithms : List ℕ} (t : AreTables p powers logarithms) (a b : ℕ)
    (r : Row p powers logarithms a) (s : Row p powers logarithms b) → b < 256 → product p a b ≡ shifted p (r.at + s.at) 1
rows_product {p} t a b r s h =
    ap (λ (x : ℕ). product p x b) (sym r.shifts)
    ∙ product-shifted p r.at b (degree_of t) h
    ∙ ap (shifted p r.at) (sym s.shifts)
    ∙ shifted-shifted p r.at s.at 1

comm_bytes :
    {p : ℕ} {powers logarithms : List ℕ} (t : AreTables p powers logarithms) (a b : ℕ) → a < 256 → b < 256
    → product p a b ≡ product p b a
comm_bytes {p} t a b ha hb = elim (byte_cases t a ha) [
  | inl none ↦ rw none (product-zero_left p b ∙ sym (product-zero_right p b))
  | inr r ↦ elim (byte_cases t b hb) [
    | inl none ↦ rw none (product-zero_right p a ∙ sym (product-zero_left p a))
    | inr s ↦
        rows_product t a b r s hb
        ∙ ap (λ (k : ℕ). shifted p k 1) (let e : r.at + s.at ≡ s.at + r.at = omega arith in e)
        ∙ sym (rows_product t b a s r ha)
  ]
]

comm :
    {p : ℕ} {powers logarithms : List ℕ} (t : AreTables p powers logarithms) (a b : ℕ) → product p a b ≡ product p b a
comm {p} t a b =
    sym (product-low_left p a b) ∙ sym (product-low_right p (a % 256) b)
    ∙ comm_bytes t (a % 256) (b % 256) (mod_below a 256 (lit< tt)) (mod_below b 256 (lit< tt))
    ∙ product-low_right p (b % 256) a ∙ product-low_left p b a

shifted-product :
    (p n b c : ℕ) → HasDegreeEight p → b < 256 → product p (shifted p n b) c ≡ shifted p n (product p b c)
unfolding shifted
shifted-product p zero b c d h = refl
shifted-product p (suc n) b c d h =
    product-times_x p (shifted p n b) c d (shifted-fits p n b d h) ∙ ap (times_x p) (shifted-product p n b c d h)

assoc_bytes :
    {p : ℕ} {powers logarithms : List ℕ} (t : AreTables p powers logarithms) (a b c : ℕ) → a < 256 → b < 256
    → product p (product p a b) c ≡ product p a (product p b c)
assoc_bytes {p} t a b c ha hb = elim (byte_cases t a ha) [
  | inl none ↦
      rw none (ap (λ (x : ℕ). product p x c) (product-zero_left p b) ∙ product-zero_left p c ∙ sym (product-zero_left p (product p b c)))
  | inr r ↦
      let d = degree_of t in
      ap (λ (x : ℕ). product p (product p x b) c) (sym r.shifts)
      ∙ ap (λ (x : ℕ). product p x c) (product-shifted p r.at b d hb)
      ∙ shifted-product p r.at b c d hb
      ∙ sym (product-shifted p r.at (product p b c) d (product-fits p b c d))
      ∙ ap (λ (x : ℕ). product p x (product p b c)) r.shifts
]

assoc :
    {p : ℕ} {powers logarithms : List ℕ} (t : AreTables p powers logarithms) (a b c : ℕ)
    → product p (product p a b) c ≡ product p a (product p b c)
assoc {p} t a b c =
    ap (λ (x : ℕ). product p x c) (sym (product-low_left p a b) ∙ sym (product-low_right p (a % 256) b))
    ∙ assoc_bytes t (a % 256) (b % 256) c (mod_below a 256 (lit< tt)) (mod_below b 256 (lit< tt))
    ∙ product-low_left p a (product p (b % 256) c)
    ∙ ap (product p a) (product-low_left p b c)

zero_factor :
    {p : ℕ} {powers logarithms : List ℕ} (t : AreTables p powers logarithms) (a b : ℕ) → a < 256 → b < 256
    → product p a b ≡ 0 → (a ≡ 0) ⊎ (b ≡ 0)
zero_factor {p} t a b ha hb e = elim (byte_cases t a ha) [
  | inl none ↦ inl none
  | inr r ↦
      inr (shifted-not_zero t r.at b hb
      (sym (product-shifted p r.at b (degree_of t) hb) ∙ ap (λ (x : ℕ). product p x b) r.shifts ∙ e))
]

row-of_sum :
    {p : ℕ} {powers logarithms : List ℕ} (t : AreTables p powers logarithms) (n k : ℕ) → k < 255 → n % 255 ≡ k
    → shifted p n 1 ≡ get_or powers k 0
row-of_sum {p} t n k h e =
    sym (shifted-mod t n) ∙ ap (λ (m : ℕ). shifted p m 1) e ∙ sym (row-shifted t k h)

-- what the code looks up for a product
pub product_from_tables :
    {p : ℕ} {powers logarithms : List ℕ} (t : AreTables p powers logarithms) (a b : ℕ) → 0 < a → a < 256 → 0 < b → b < 256
    → get_or powers ((get_or logarithms a 0 + get_or logarithms b 0) % 255) 0 ≡ product p a b
product_from_tables {p} {powers} {logarithms} t a b la ha lb hb =
    let r = row_of t a la ha in
    let s = row_of t b lb hb in
    ap₂ (λ (x y : ℕ). get_or powers ((x + y) % 255) 0) r.found s.found
    ∙ sym (rows_product t a b r s hb ∙ row-of_sum t (r.at + s.at) ((r.at + s.at) % 255) (mod_below (r.at + s.at) 255 (lit< tt)) refl)

-- the place of the inverse
pub inverse_place : ℕ → ℕ
inverse_place i = (255 - i) % 255

inverse_place-fits : (i : ℕ) → inverse_place i < 255
unfolding inverse_place
inverse_place-fits i = mod_below (255 - i) 255 (lit< tt)

inverse_place-round : (i : ℕ) → i < 255 → (i + inverse_place i) % 255 ≡ 0
unfolding inverse_place
inverse_place-round i h = elim (cases_eq i 0) [ inl e ↦ rw e refl | inr other ↦ omega arith ]

one_shifted : (p : ℕ) → shifted p 0 1 ≡ 1
unfolding shifted
one_shifted p = refl

pub inverse_from_tables :
    {p : ℕ} {powers logarithms : List ℕ} (t : AreTables p powers logarithms) (a k : ℕ) → 0 < a → a < 256 → k < 255
    → (get_or logarithms a 0 + k) % 255 ≡ 0 → product p a (get_or powers k 0) ≡ 1
inverse_from_tables {p} {powers} {logarithms} t a k low high h e =
    let r = row_of t a low high in
    let place : r.at + k ≡ get_or logarithms a 0 + k = ap (λ (x : ℕ). x + k) (sym r.found) in
    let round : (r.at + k) % 255 ≡ 0 = ap (λ (x : ℕ). x % 255) place ∙ e in
    ap₂ (product p) (sym r.shifts) (row-shifted t k h)
    ∙ product-shifted p r.at (shifted p k 1) (degree_of t) (shifted-fits p k 1 (degree_of t) (lit< tt))
    ∙ shifted-shifted p r.at k 1
    ∙ sym (shifted-mod t (r.at + k)) ∙ ap (λ (m : ℕ). shifted p m 1) round
    ∙ one_shifted p

pub logarithm-fits :
    {p : ℕ} {powers logarithms : List ℕ} (t : AreTables p powers logarithms) (a : ℕ) → 0 < a → a < 256
    → get_or logarithms a 0 < 255
logarithm-fits t a low high = let r = row_of t a low high in let f = r.found in let h = r.fits in omega arith

-- what the code looks up for an inverse
pub inverse_at_place :
    {p : ℕ} {powers logarithms : List ℕ} (t : AreTables p powers logarithms) (a : ℕ) → 0 < a → a < 256
    → product p a (get_or powers ((255 - get_or logarithms a 0) % 255) 0) ≡ 1
unfolding inverse_place
inverse_at_place {p} {powers} {logarithms} t a low high =
    inverse_from_tables t a (inverse_place (get_or logarithms a 0)) low high (inverse_place-fits (get_or logarithms a 0))
    (inverse_place-round (get_or logarithms a 0) (logarithm-fits t a low high))

-- what the code looks up for a quotient
quotient_place : (i j : ℕ) → i < 255 → j < 255 → (j + (i + 255 - j) % 255) % 255 ≡ i
quotient_place i j hi hj = elim (cases_lt i j) [ inl less ↦ omega arith | inr more ↦ omega arith ]

quotient_from_tables :
    {p : ℕ} {powers logarithms : List ℕ} (t : AreTables p powers logarithms) (a b k : ℕ) → 0 < a → a < 256 → 0 < b → b < 256
    → k < 255 → (get_or logarithms b 0 + k) % 255 ≡ get_or logarithms a 0 → product p (get_or powers k 0) b ≡ a
quotient_from_tables {p} {powers} {logarithms} t a b k la ha lb hb h e =
    let r = row_of t a la ha in
    let s = row_of t b lb hb in
    let d = degree_of t in
    let place : k + s.at ≡ get_or logarithms b 0 + k = let f = s.found in omega arith in
    let round : (k + s.at) % 255 ≡ r.at = ap (λ (x : ℕ). x % 255) place ∙ e ∙ r.found in
    ap₂ (product p) (row-shifted t k h) (sym s.shifts)
    ∙ product-shifted p k (shifted p s.at 1) d (shifted-fits p s.at 1 d (lit< tt))
    ∙ shifted-shifted p k s.at 1
    ∙ sym (shifted-mod t (k + s.at)) ∙ ap (λ (m : ℕ). shifted p m 1) round
    ∙ r.shifts

pub quotient_at_place :
    {p : ℕ} {powers logarithms : List ℕ} (t : AreTables p powers logarithms) (a b : ℕ) → 0 < a → a < 256 → 0 < b → b < 256
    → product p (get_or powers ((get_or logarithms a 0 + 255 - get_or logarithms b 0) % 255) 0) b ≡ a
quotient_at_place {p} {powers} {logarithms} t a b la ha lb hb =
    quotient_from_tables t a b ((get_or logarithms a 0 + 255 - get_or logarithms b 0) % 255) la ha lb hb
    (mod_below (get_or logarithms a 0 + 255 - get_or logarithms b 0) 255 (lit< tt))
    (quotient_place (get_or logarithms a 0) (get_or logarithms b 0) (logarithm-fits t a la ha) (logarithm-fits t b lb hb))

pub power-shifted : (p n : ℕ) → HasDegreeEight p → power p 2 n ≡ shifted p n 1
unfolding power shifted
power-shifted p zero d = refl
power-shifted p (suc n) d =
    ap (λ (x : ℕ). product p x 2) (power-shifted p n d) ∙ product-two p (shifted p n 1) (shifted-fits p n 1 d (lit< tt))

pub power_from_tables :
    {p : ℕ} {powers logarithms : List ℕ} (t : AreTables p powers logarithms) (n : ℕ) → power p 2 n ≡ get_or powers (n % 255) 0
power_from_tables {p} t n =
    power-shifted p n (degree_of t) ∙ row-of_sum t n (n % 255) (mod_below n 255 (lit< tt)) refl

inverse_of :
    {p : ℕ} {powers logarithms : List ℕ} (t : AreTables p powers logarithms) (a : ℕ) → 0 < a → a < 256
    → (b : ℕ) × (0 < b) × (b < 256) × (product p a b ≡ 1)
inverse_of {p} {powers} {logarithms} t a low high =
    let l : get_or logarithms a 0 < 255 = logarithm-fits t a low high in
    let k : inverse_place (get_or logarithms a 0) < 255 = inverse_place-fits (get_or logarithms a 0) in
    let round : (get_or logarithms a 0 + inverse_place (get_or logarithms a 0)) % 255 ≡ 0 = inverse_place-round (get_or logarithms a 0) l in
    let row : get_or powers (inverse_place (get_or logarithms a 0)) 0 ≡ shifted p (inverse_place (get_or logarithms a 0)) 1 =
    row-shifted t (inverse_place (get_or logarithms a 0)) k in
    let fits : shifted p (inverse_place (get_or logarithms a 0)) 1 < 256 =
    shifted-fits p (inverse_place (get_or logarithms a 0)) 1 (degree_of t) (lit< tt) in (
      get_or powers (inverse_place (get_or logarithms a 0)) 0,
      t.not_zero (inverse_place (get_or logarithms a 0)) k,
      omega arith,
      inverse_from_tables t a (inverse_place (get_or logarithms a 0)) low high k round,
    )

pub field_from_tables : {p : ℕ} {powers logarithms : List ℕ} → AreTables p powers logarithms → IsField p
field_from_tables {p} {powers} {logarithms} t = record {
  sum_fits = λ a b ha hb. xor_lt 8 a b ha hb;
  sum_comm = xor_comm;
  sum_assoc = xor_assoc;
  sum_zero = xor_zero_r;
  sum_self = xor_self;
  product_fits = λ a b. product-fits p a b (degree_of t);
  product_comm = comm t;
  product_assoc = assoc t;
  distributive = product-xor_left p;
  product_one = product-one_left p;
  product_zero = product-zero_left p;
  product_is_remainder = λ a b h. product-IsRemainder p a b (degree_of t) h;
  zero_factor = zero_factor t;
  inverse = λ a low high. inverse_of t a low high;
  product_zero_right = product-zero_right p;
  distributive_right = λ a b c. comm t a (bit_xor b c) ∙ product-xor_left p b c a ∙ ap₂ bit_xor (comm t b a) (comm t c a);
  product_turned = λ a b c. sym (assoc t a b c) ∙ ap (λ (x : ℕ). product p x c) (comm t a b) ∙ assoc t b a c;
}
