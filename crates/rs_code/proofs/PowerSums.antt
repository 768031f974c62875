-- Power sums of words: they are linear, and a word before another is raised.
use Rattle.std.proofs.Common.{◌≡◌, ℕ, suc, ◌+◌, ◌*◌, List, [], ◌∷◌, ◌++◌, length, get_or, refl, sym, ◌∙◌, ap, ap₂, arith, length-append}
use Rattle.std.specs.Int.Bits.{bit_xor, xor_zero_r, xor_assoc, xor_zero_l}
use Rattle.bit_fields.specs.Xors.{xor-shuffle}
use Rattle.gf256_core.specs.Field.{IsField}
use Rattle.poly256.specs.Polynomial.{element_product, element_power}
use Rattle.rs_code.specs.CodeWord.{power_sum}
use Rattle.rs_code.proofs.Powers.{power-add}

pub power_sum-cons :
    (b : ℕ) (bs : List ℕ) (j : ℕ)
    → power_sum (b ∷ bs) j ≡ bit_xor (element_product b (element_power 2 (j * length bs))) (power_sum bs j)
unfolding power_sum
power_sum-cons b bs j = refl

pub power_sum-empty : (j : ℕ) → power_sum [] j ≡ 0
unfolding power_sum
power_sum-empty j = refl

pub power_sum-cons_zero : (F : IsField 391) (bs : List ℕ) (j : ℕ) → power_sum (0 ∷ bs) j ≡ power_sum bs j
power_sum-cons_zero F bs j =
    power_sum-cons 0 bs j
    ∙ ap (λ (x : ℕ). bit_xor x (power_sum bs j)) (F.product_zero (element_power 2 (j * length bs)))
    ∙ xor_zero_l (power_sum bs j)

pub power_sum-zeros :
    (F : IsField 391) (bs : List ℕ) → ((k : ℕ) → get_or bs k 0 ≡ 0) → (j : ℕ) → power_sum bs j ≡ 0
power_sum-zeros F [] zeros j = power_sum-empty j
power_sum-zeros F (b ∷ bs) zeros j =
    ap (λ (x : ℕ). power_sum (x ∷ bs) j) (zeros 0)
    ∙ power_sum-cons_zero F bs j
    ∙ power_sum-zeros F bs (λ k. zeros (suc k)) j

-- a word whose bytes are the sums of those of two others
pub power_sum-sum :
    (F : IsField 391) (zs xs ys : List ℕ) → length xs ≡ length zs → length ys ≡ length zs
    → ((k : ℕ) → get_or zs k 0 ≡ bit_xor (get_or xs k 0) (get_or ys k 0)) → (j : ℕ)
    → power_sum zs j ≡ bit_xor (power_sum xs j) (power_sum ys j)
power_sum-sum F [] [] [] l l' e j =
    power_sum-empty j ∙ sym (ap₂ bit_xor (power_sum-empty j) (power_sum-empty j) ∙ xor_zero_r 0)
power_sum-sum F [] (x ∷ xs) ys l l' e j = absurd (omega arith)
power_sum-sum F [] [] (y ∷ ys) l l' e j = absurd (omega arith)
power_sum-sum F (z ∷ zs) [] ys l l' e j = absurd (omega arith)
power_sum-sum F (z ∷ zs) (x ∷ xs) [] l l' e j = absurd (omega arith)
power_sum-sum F (z ∷ zs) (x ∷ xs) (y ∷ ys) l l' e j =
    let lx : length xs ≡ length zs = omega arith in
    let ly : length ys ≡ length zs = omega arith in
    let q : ℕ → ℕ = λ n. element_power 2 (j * n) in
    power_sum-cons z zs j
    ∙ ap₂ bit_xor
    (ap (λ (b : ℕ). element_product b (q (length zs))) (e 0) ∙ F.distributive x y (q (length zs))
    ∙ sym (ap₂ bit_xor (ap (λ (n : ℕ). element_product x (q n)) lx) (ap (λ (n : ℕ). element_product y (q n)) ly)))
    (power_sum-sum F zs xs ys lx ly (λ k. e (suc k)) j)
    ∙ xor-shuffle (element_product x (q (length xs))) (element_product y (q (length ys))) (power_sum xs j) (power_sum ys j)
    ∙ sym (ap₂ bit_xor (power_sum-cons x xs j) (power_sum-cons y ys j))

-- a word whose bytes are those of another, each times an element
pub power_sum-multiple :
    (F : IsField 391) (a : ℕ) (zs xs : List ℕ) → length xs ≡ length zs
    → ((k : ℕ) → get_or zs k 0 ≡ element_product a (get_or xs k 0)) → (j : ℕ)
    → power_sum zs j ≡ element_product a (power_sum xs j)
power_sum-multiple F a [] [] l e j =
    power_sum-empty j ∙ sym (ap (element_product a) (power_sum-empty j) ∙ F.product_zero_right a)
power_sum-multiple F a [] (x ∷ xs) l e j = absurd (omega arith)
power_sum-multiple F a (z ∷ zs) [] l e j = absurd (omega arith)
power_sum-multiple F a (z ∷ zs) (x ∷ xs) l e j =
    let lx : length xs ≡ length zs = omega arith in
    let q : ℕ → ℕ = λ n. element_power 2 (j * n) in
    power_sum-cons z zs j
    ∙ ap₂ bit_xor
    (ap (λ (b : ℕ). element_product b (q (length zs))) (e 0) ∙ F.product_assoc a x (q (length zs))
    ∙ sym (ap (λ (n : ℕ). element_product a (element_product x (q n))) lx))
    (power_sum-multiple F a zs xs lx (λ k. e (suc k)) j)
    ∙ sym (ap (element_product a) (power_sum-cons x xs j)
    ∙ F.distributive_right a (element_product x (q (length xs))) (power_sum xs j))

regroup :
    (F : IsField 391) (q a b c : ℕ)
    → bit_xor (element_product q a) (bit_xor (element_product q b) c) ≡ bit_xor (element_product q (bit_xor a b)) c
regroup F q a b c =
    sym (xor_assoc (element_product q a) (element_product q b) c)
    ∙ ap (λ (x : ℕ). bit_xor x c) (sym (F.distributive_right q a b))

-- a word before another stands for it times a power
pub power_sum-append :
    (F : IsField 391) (xs ys : List ℕ) (j : ℕ)
    → power_sum (xs ++ ys) j
    ≡ bit_xor (element_product (element_power 2 (j * length ys)) (power_sum xs j)) (power_sum ys j)
power_sum-append F [] ys j =
    sym (ap (λ (x : ℕ). bit_xor x (power_sum ys j))
    (ap (element_product (element_power 2 (j * length ys))) (power_sum-empty j) ∙ F.product_zero_right (element_power 2 (j * length ys)))
    ∙ xor_zero_l (power_sum ys j))
power_sum-append F (x ∷ xs) ys j =
    let q : ℕ = element_power 2 (j * length ys) in
    let p : ℕ = element_power 2 (j * length xs) in
    let long : j * length (xs ++ ys) ≡ j * length ys + j * length xs =
    ap (λ (n : ℕ). j * n) (length-append xs ys) ∙ (let d : j * (length xs + length ys) ≡ j * length ys + j * length xs = omega arith in d) in
    power_sum-cons x (xs ++ ys) j
    ∙ ap₂ bit_xor
    (ap (λ (n : ℕ). element_product x (element_power 2 n)) long
    ∙ ap (element_product x) (power-add F 2 (j * length ys) (j * length xs))
    ∙ F.product_turned x q p)
    (power_sum-append F xs ys j)
    ∙ regroup F q (element_product x p) (power_sum xs j) (power_sum ys j)
    ∙ sym (ap (λ (s : ℕ). bit_xor (element_product q s) (power_sum ys j)) (power_sum-cons x xs j))
