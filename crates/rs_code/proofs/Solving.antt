-- Values at different points by their sums: the sums of the values times their points plus one more point.
use Rattle.std.proofs.Common.{◌≡◌, ◌≢◌, ℕ, zero, suc, ◌+◌, ◌<◌, List, [], ◌∷◌, ◌++◌, length, get_or, set, take, drop, lit<, refl, sym, ◌∙◌, ap, ap₂, subst, arith, inl, inr}
use Rattle.std.specs.Int.Bits.{bit_xor, xor_zero_r, xor_assoc, xor_self, xor_zero_l}
use Rattle.std.proofs.lemmas.Bool.{cases_eq}
use Rattle.std.proofs.lemmas.List.{ext_get_or, get_or-set_same, get_or-set_other}
use Rattle.bit_fields.specs.Xors.{xor-shuffle, xor-equal}
use Rattle.gf256_core.specs.Field.{IsField}
use Rattle.poly256.specs.Polynomial.{element_product, element_power}
use Rattle.poly256.specs.Laws.{AreDifferent}
use Rattle.rs_code.specs.Mending.{points_sum, total_of}
use Rattle.rs_code.proofs.Powers.{power-suc, power-zero, product-one}

-- a product may be undone
pub cancelled :
    (F : IsField 391) (a b d : ℕ) → a < 256 → b < 256 → d < 256 → (d ≡ 0 → ⊥) → element_product a d ≡ element_product b d
    → a ≡ b
cancelled F a b d fits fits' fits_d some e =
    xor-equal a b (elim (F.zero_factor (bit_xor a b) d (F.sum_fits a b fits fits') fits_d
    (F.distributive a b d ∙ ap (λ (x : ℕ). bit_xor x (element_product b d)) e ∙ xor_self (element_product b d))) [
      | inl same ↦ same
      | inr none ↦ absurd (some none)
    ])

pub total_of-empty : total_of [] ≡ 0
unfolding total_of
total_of-empty = refl

pub total_of-cons : (b : ℕ) (bs : List ℕ) → total_of (b ∷ bs) ≡ bit_xor b (total_of bs)
unfolding total_of
total_of-cons b bs = refl

-- elements that differ have a sum that is not 0
pub not_zero_apart : (a b : ℕ) → a ≢ b → 0 < bit_xor a b
not_zero_apart a b apart = elim (cases_eq (bit_xor a b) 0) [
  | inl none ↦ absurd (apart (xor-equal a b none))
  | inr some ↦ omega arith
]

-- one more quotient is written
pub quotient_grows :
    (values old points : List ℕ) (point n v : ℕ) → n < length values
    → element_product v (bit_xor (get_or points n 0) point) ≡ get_or old n 0
    → ((k : ℕ) → k < n → element_product (get_or values k 0) (bit_xor (get_or points k 0) point) ≡ get_or old k 0) → (k : ℕ)
    → k < n + 1 → element_product (get_or (set values n v) k 0) (bit_xor (get_or points k 0) point) ≡ get_or old k 0
quotient_grows values old points point n v room here before k h = elim (cases_eq k n) [
  | inl same ↦
      ap (λ (i : ℕ). element_product (get_or (set values n v) i 0) (bit_xor (get_or points i 0) point)) same
      ∙ ap (λ (a : ℕ). element_product a (bit_xor (get_or points n 0) point)) (get_or-set_same values n v 0 room)
      ∙ here ∙ ap (λ (i : ℕ). get_or old i 0) (sym same)
  | inr apart ↦
      ap (λ (a : ℕ). element_product a (bit_xor (get_or points k 0) point)) (get_or-set_other values n k v 0 apart)
      ∙ before k (omega arith)
]

pub values_weighed : ℕ → List ℕ → List ℕ → List ℕ
values_weighed x [] ys = []
values_weighed x (p ∷ ps) [] = []
values_weighed x (p ∷ ps) (y ∷ ys) = element_product y (bit_xor p x) ∷ values_weighed x ps ys

pub length-values_weighed :
    (x : ℕ) (ps ys : List ℕ) → length ys ≡ length ps → length (values_weighed x ps ys) ≡ length ps
unfolding values_weighed
length-values_weighed x [] ys l = refl
length-values_weighed x (p ∷ ps) [] l = absurd (omega arith)
length-values_weighed x (p ∷ ps) (y ∷ ys) l = ap suc (length-values_weighed x ps ys (omega arith))

pub values_weighed-fits :
    (F : IsField 391) (x : ℕ) (ps ys : List ℕ) (i : ℕ) → get_or (values_weighed x ps ys) i 0 < 256
unfolding values_weighed
values_weighed-fits F x [] ys i = lit< tt
values_weighed-fits F x (p ∷ ps) [] i = lit< tt
values_weighed-fits F x (p ∷ ps) (y ∷ ys) zero = F.product_fits y (bit_xor p x)
values_weighed-fits F x (p ∷ ps) (y ∷ ys) (suc i) = values_weighed-fits F x ps ys i

pub get_or-values_weighed :
    (x : ℕ) (ps ys : List ℕ) (i : ℕ) → length ys ≡ length ps → i < length ps
    → get_or (values_weighed x ps ys) i 0 ≡ element_product (get_or ys i 0) (bit_xor (get_or ps i 0) x)
unfolding values_weighed
get_or-values_weighed x [] ys i l h = absurd (omega arith)
get_or-values_weighed x (p ∷ ps) [] i l h = absurd (omega arith)
get_or-values_weighed x (p ∷ ps) (y ∷ ys) zero l h = refl
get_or-values_weighed x (p ∷ ps) (y ∷ ys) (suc i) l h = get_or-values_weighed x ps ys i (omega arith) (omega arith)

-- y (p + x) q = y (q p) + x (y q)
regroup :
    (F : IsField 391) (y p x q : ℕ)
    → element_product (element_product y (bit_xor p x)) q
    ≡ bit_xor (element_product y (element_product q p)) (element_product x (element_product y q))
regroup F y p x q =
    F.product_assoc y (bit_xor p x) q
    ∙ ap (element_product y) (F.distributive p x q ∙ ap (λ (a : ℕ). bit_xor a (element_product x q)) (F.product_comm p q))
    ∙ F.distributive_right y (element_product q p) (element_product x q)
    ∙ ap (bit_xor (element_product y (element_product q p))) (F.product_turned y x q)

pub points_sum-weighed :
    (F : IsField 391) (x : ℕ) (ps ys : List ℕ) (n : ℕ)
    → points_sum ps (values_weighed x ps ys) n
    ≡ bit_xor (points_sum ps ys (suc n)) (element_product x (points_sum ps ys n))
unfolding points_sum values_weighed
points_sum-weighed F x [] ys n = sym (ap (bit_xor 0) (F.product_zero_right x) ∙ xor_zero_r 0)
points_sum-weighed F x (p ∷ ps) [] n = sym (ap (bit_xor 0) (F.product_zero_right x) ∙ xor_zero_r 0)
points_sum-weighed F x (p ∷ ps) (y ∷ ys) n =
    ap₂ bit_xor
    (regroup F y p x (element_power p n)
    ∙ ap (λ (q : ℕ). bit_xor (element_product y q) (element_product x (element_product y (element_power p n)))) (sym (power-suc p n)))
    (points_sum-weighed F x ps ys n)
    ∙ xor-shuffle (element_product y (element_power p (suc n))) (element_product x (element_product y (element_power p n)))
    (points_sum ps ys (suc n)) (element_product x (points_sum ps ys n))
    ∙ ap (bit_xor (bit_xor (element_product y (element_power p (suc n))) (points_sum ps ys (suc n))))
    (sym (F.distributive_right x (element_product y (element_power p n)) (points_sum ps ys n)))

-- the sums of order 0 are plain sums
pub points_sum-plain :
    (F : IsField 391) (ps ys : List ℕ) → length ys ≡ length ps → ((i : ℕ) → get_or ys i 0 < 256)
    → points_sum ps ys 0 ≡ total_of ys
unfolding points_sum total_of
points_sum-plain F [] [] l bytes = refl
points_sum-plain F [] (y ∷ ys) l bytes = absurd (omega arith)
points_sum-plain F (p ∷ ps) [] l bytes = absurd (omega arith)
points_sum-plain F (p ∷ ps) (y ∷ ys) l bytes =
    ap₂ bit_xor (ap (element_product y) (power-zero p) ∙ product-one F y (bytes 0))
    (points_sum-plain F ps ys (omega arith) (λ i. bytes (suc i)))

-- the first value falls out of the sums weighed by its point
first_falls_out :
    (F : IsField 391) (x y n s t : ℕ)
    → bit_xor (bit_xor (element_product y (element_power x (suc n))) s) (element_product x (bit_xor (element_product y (element_power x n)) t))
    ≡ bit_xor s (element_product x t)
first_falls_out F x y n s t =
    ap₂ bit_xor
    (ap (λ (a : ℕ). bit_xor a s)
    (ap (element_product y) (power-suc x n ∙ F.product_comm (element_power x n) x) ∙ F.product_turned y x (element_power x n)))
    (F.distributive_right x (element_product y (element_power x n)) t)
    ∙ xor-shuffle (element_product x (element_product y (element_power x n))) s
    (element_product x (element_product y (element_power x n))) (element_product x t)
    ∙ ap (λ (a : ℕ). bit_xor a (bit_xor s (element_product x t))) (xor_self (element_product x (element_product y (element_power x n))))
    ∙ xor_zero_l (bit_xor s (element_product x t))

first_sum :
    (F : IsField 391) (p y : ℕ) (ps ys : List ℕ) → length ys ≡ length ps → ((i : ℕ) → get_or (y ∷ ys) i 0 < 256)
    → points_sum (p ∷ ps) (y ∷ ys) 0 ≡ bit_xor y (total_of ys)
unfolding points_sum
first_sum F p y ps ys l bytes =
    ap₂ bit_xor (ap (element_product y) (power-zero p) ∙ product-one F y (bytes 0))
    (points_sum-plain F ps ys l (λ i. bytes (suc i)))

-- what `solve` is to give
abbrev pub Solves : List ℕ → List ℕ → List ℕ → Type 0
Solves points sums solved =
    (values : List ℕ) → length values ≡ length points → ((i : ℕ) → get_or values i 0 < 256)
    → ((n : ℕ) → n < length values → get_or sums n 0 ≡ points_sum points values n) → solved ≡ values

-- the weighed sums behind the first are those of the other values, weighed
others_sums :
    (F : IsField 391) (x y : ℕ) (xs ys sums weighed : List ℕ) (n : ℕ) → n < length ys
    → ((k : ℕ) → k < suc (length ys) → get_or sums k 0 ≡ points_sum (x ∷ xs) (y ∷ ys) k)
    → get_or weighed (suc n) 0 ≡ bit_xor (get_or sums (suc n) 0) (element_product x (get_or sums n 0))
    → get_or weighed (suc n) 0 ≡ points_sum xs (values_weighed x xs ys) n
unfolding points_sum
others_sums F x y xs ys sums weighed n h are e =
    e
    ∙ ap₂ bit_xor (are (suc n) (omega arith)) (ap (element_product x) (are n (omega arith)))
    ∙ first_falls_out F x y n (points_sum xs ys (suc n)) (points_sum xs ys n)
    ∙ sym (points_sum-weighed F x xs ys n)

-- the values from the other values, divided
values_from :
    (F : IsField 391) (x : ℕ) (xs ys rest quotients : List ℕ) → length ys ≡ length xs → length quotients ≡ length xs
    → x < 256 → ((i : ℕ) → i < length xs → get_or xs i 0 < 256) → ((i : ℕ) → i < length xs → get_or xs i 0 ≢ x)
    → ((i : ℕ) → get_or ys i 0 < 256) → ((i : ℕ) → get_or quotients i 0 < 256) → rest ≡ values_weighed x xs ys
    → ((i : ℕ) → i < length xs → element_product (get_or quotients i 0) (bit_xor (get_or xs i 0) x) ≡ get_or rest i 0)
    → quotients ≡ ys
values_from F x xs ys rest quotients l l' fits bytes apart bytes_y bytes_q e divided =
    ext_get_or 0 quotients ys (l' ∙ sym l)
    (λ i h.
    let inside : i < length xs = omega arith in
    cancelled F (get_or quotients i 0) (get_or ys i 0) (bit_xor (get_or xs i 0) x) (bytes_q i) (bytes_y i)
    (F.sum_fits (get_or xs i 0) x (bytes i inside) fits)
    (λ none. apart i inside (xor-equal (get_or xs i 0) x none))
    (divided i inside ∙ ap (λ (w : List ℕ). get_or w i 0) e ∙ get_or-values_weighed x xs ys i l inside))

-- a list of one member with another in its place, before a list
pub one_before : (xs ys : List ℕ) (v : ℕ) → length xs ≡ 1 → set xs 0 v ++ ys ≡ v ∷ ys
one_before [] ys v l = absurd (omega arith)
one_before (x ∷ []) ys v l = refl
one_before (x ∷ z ∷ xs) ys v l = absurd (omega arith)

pub first_of_front : (xs : List ℕ) → get_or (take 1 xs) 0 0 ≡ get_or xs 0 0
first_of_front [] = refl
first_of_front (x ∷ xs) = refl

-- one turn of `solve`
pub solve_step :
    (F : IsField 391) (points sums weighed rest quotients solved : List ℕ) (x : ℕ) → 0 < length points → AreDifferent points
    → get_or points 0 0 ≡ x → length sums ≡ length points → length weighed ≡ length sums
    → length quotients + 1 ≡ length points
    → ((k : ℕ) → k < length sums → get_or weighed k 0 ≡ bit_xor (get_or sums k 0) (element_product x (get_or (0 ∷ sums) k 0)))
    → Solves (drop 1 points) (drop 1 weighed) rest
    → ((i : ℕ) → i < length (drop 1 points) → element_product (get_or quotients i 0) (bit_xor (get_or (drop 1 points) i 0) x) ≡ get_or rest i 0)
    → ((i : ℕ) → get_or solved i 0 < 256)
    → solved ≡ bit_xor (get_or weighed 0 0) (total_of quotients) ∷ quotients
    → (values : List ℕ) → length values ≡ length points → ((i : ℕ) → get_or values i 0 < 256)
    → ((n : ℕ) → n < length values → get_or sums n 0 ≡ points_sum points values n) → solved ≡ values
solve_step F [] sums weighed rest quotients solved x some apart first l l' l'' weigh solves divided bytes e values long bytes_v are = absurd (omega arith)
solve_step F (p ∷ ps) sums weighed rest quotients solved x some apart first l l' l'' weigh solves divided bytes e [] long bytes_v are =
    absurd (omega arith)
solve_step F (p ∷ ps) [] weighed rest quotients solved x some apart first l l' l'' weigh solves divided bytes e (y ∷ ys) long bytes_v are =
    absurd (omega arith)
solve_step F (p ∷ ps) (s ∷ ss) [] rest quotients solved x some apart first l l' l'' weigh solves divided bytes e (y ∷ ys) long bytes_v are =
    absurd (omega arith)
solve_step F (p ∷ ps) (s ∷ ss) (w ∷ ws) rest quotients solved x some apart first l l' l'' weigh solves divided bytes e (y ∷ ys) long bytes_v are =
    let same_long : length ys ≡ length ps = omega arith in
    let others : rest ≡ values_weighed x ps ys =
    solves (values_weighed x ps ys) (length-values_weighed x ps ys same_long) (values_weighed-fits F x ps ys)
    (λ n h.
    let inside : n < length ys = let m = length-values_weighed x ps ys same_long in omega arith in
    others_sums F p y ps ys (s ∷ ss) (w ∷ ws) n inside (λ k h'. are k (omega arith))
    (weigh (suc n) (omega arith) ∙ ap (λ (a : ℕ). bit_xor (get_or (s ∷ ss) (suc n) 0) (element_product a (get_or (s ∷ ss) n 0))) (sym first))
    ∙ ap (λ (a : ℕ). points_sum ps (values_weighed a ps ys) n) first) in
    let back : quotients ≡ ys =
    values_from F x ps ys rest quotients same_long (omega arith)
    (let b = apart.bytes 0 (omega arith) in omega arith) (λ i h. apart.bytes (suc i) (omega arith))
    (λ i h e'. apart.apart 0 (suc i) (omega arith) (omega arith) (first ∙ sym e')) (λ i. bytes_v (suc i))
    (λ i. let b : get_or (bit_xor w (total_of quotients) ∷ quotients) (suc i) 0 < 256 =
    subst (λ (us : List ℕ). get_or us (suc i) 0 < 256) e (bytes (suc i)) in b) others divided in
    e
    ∙ ap₂ (λ (a : ℕ) (us : List ℕ). a ∷ us)
    (ap₂ bit_xor
    (weigh 0 (omega arith)
    ∙ ap (bit_xor s) (F.product_zero_right x)
    ∙ xor_zero_r s
    ∙ are 0 (omega arith)
    ∙ first_sum F p y ps ys same_long bytes_v)
    (ap total_of back)
    ∙ xor_assoc y (total_of ys) (total_of ys)
    ∙ ap (bit_xor y) (xor_self (total_of ys))
    ∙ xor_zero_r y)
    back
