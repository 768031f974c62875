-- A word whose power sums are 0 at n consecutive powers, and of which at most n bytes are not 0, is 0 throughout. Where
-- y is the power that goes with the first byte, each byte times the sum of its own power and y makes the sums at j + 1
-- and at j into one, and the first byte falls out.
use Rattle.std.proofs.Common.{◌≡◌, ℕ, zero, suc, ◌+◌, ◌*◌, ◌<◌, ◌≤◌, List, [], ◌∷◌, length, get_or, refl, sym, ◌∙◌, ap, ap₂, arith, lit<, inl, inr}
use Rattle.std.specs.Int.Bits.{bit_xor, xor_zero_r, xor_self}
use Rattle.std.proofs.lemmas.Bool.{cases_lt, cases_eq}
use Rattle.bit_fields.specs.Xors.{xor-shuffle, xor-equal}
use Rattle.gf256_core.specs.Field.{IsField}
use Rattle.poly256.specs.Polynomial.{element_product, element_power}
use Rattle.rs_code.specs.CodeWord.{power_sum, IsCodeWord, differences}
use Rattle.rs_code.specs.Laws.{HasMinimumDistance}
use Rattle.rs_code.specs.Mending.{weighed_word}
use Rattle.rs_code.proofs.Differences.{differences-cons_same, differences-cons_apart}
use Rattle.rs_code.proofs.Powers.{power-add, power-fits, power-not_zero, power-injective}
use Rattle.rs_code.proofs.PowerSums.{power_sum-cons, power_sum-empty, power_sum-cons_zero, power_sum-zeros, power_sum-sum}

-- how many bytes are not 0
unfoldable pub weight : List ℕ → ℕ
weight [] = 0
weight (zero ∷ bs) = weight bs
weight (suc b ∷ bs) = suc (weight bs)

pub weight-cons : (b : ℕ) (bs : List ℕ) → weight (b ∷ bs) ≤ suc (weight bs)
unfolding weight
weight-cons zero bs = omega arith
weight-cons (suc b) bs = omega arith

pub weight-length : (bs : List ℕ) → weight bs ≤ length bs
unfolding weight
weight-length [] = omega arith
weight-length (zero ∷ bs) = let rest = weight-length bs in omega arith
weight-length (suc b ∷ bs) = let rest = weight-length bs in omega arith

pub length-weighed_word : (y : ℕ) (bs : List ℕ) → length (weighed_word y bs) ≡ length bs
unfolding weighed_word
length-weighed_word y [] = refl
length-weighed_word y (b ∷ bs) = ap suc (length-weighed_word y bs)

pub weighed_word-fits : (F : IsField 391) (y : ℕ) (bs : List ℕ) (k : ℕ) → get_or (weighed_word y bs) k 0 < 256
unfolding weighed_word
weighed_word-fits F y [] k = lit< tt
weighed_word-fits F y (b ∷ bs) zero = F.product_fits b (bit_xor (element_power 2 (length bs)) y)
weighed_word-fits F y (b ∷ bs) (suc k) = weighed_word-fits F y bs k

weight-weighed_word : (F : IsField 391) (y : ℕ) (bs : List ℕ) → weight (weighed_word y bs) ≤ weight bs
unfolding weight weighed_word
weight-weighed_word F y [] = omega arith
weight-weighed_word F y (zero ∷ bs) =
    let none : element_product 0 (bit_xor (element_power 2 (length bs)) y) ≡ 0 =
    F.product_zero (bit_xor (element_power 2 (length bs)) y) in
    let same : weight (element_product 0 (bit_xor (element_power 2 (length bs)) y) ∷ weighed_word y bs) ≡ weight (weighed_word y bs) =
    ap (λ (x : ℕ). weight (x ∷ weighed_word y bs)) none in
    let rest = weight-weighed_word F y bs in
    omega arith
weight-weighed_word F y (suc b ∷ bs) =
    let first = weight-cons (element_product (suc b) (bit_xor (element_power 2 (length bs)) y)) (weighed_word y bs) in
    let rest = weight-weighed_word F y bs in
    omega arith

-- b (p + y) q + (s + y t) = (b (p q) + s) + y (b q + t)
regroup :
    (F : IsField 391) (b p y q s t : ℕ)
    → bit_xor (element_product (element_product b (bit_xor p y)) q) (bit_xor s (element_product y t))
    ≡ bit_xor (bit_xor (element_product b (element_product p q)) s) (element_product y (bit_xor (element_product b q) t))
regroup F b p y q s t =
    ap (λ (x : ℕ). bit_xor x (bit_xor s (element_product y t)))
    (F.product_assoc b (bit_xor p y) q
    ∙ ap (element_product b) (F.distributive p y q)
    ∙ F.distributive_right b (element_product p q) (element_product y q)
    ∙ ap (bit_xor (element_product b (element_product p q))) (F.product_turned b y q))
    ∙ xor-shuffle (element_product b (element_product p q)) (element_product y (element_product b q)) s (element_product y t)
    ∙ ap (bit_xor (bit_xor (element_product b (element_product p q)) s)) (sym (F.distributive_right y (element_product b q) t))

pub power_sum-weighed_word :
    (F : IsField 391) (y : ℕ) (bs : List ℕ) (j : ℕ)
    → power_sum (weighed_word y bs) j ≡ bit_xor (power_sum bs (suc j)) (element_product y (power_sum bs j))
unfolding weighed_word
power_sum-weighed_word F y [] j =
    power_sum-empty j
    ∙ sym (ap₂ bit_xor (power_sum-empty (suc j)) (ap (element_product y) (power_sum-empty j) ∙ F.product_zero_right y) ∙ xor_zero_r 0)
power_sum-weighed_word F y (b ∷ bs) j =
    let w : ℕ = element_product b (bit_xor (element_power 2 (length bs)) y) in
    let up : suc j * length bs ≡ length bs + j * length bs = omega arith in
    power_sum-cons w (weighed_word y bs) j
    ∙ ap₂ bit_xor (ap (λ (n : ℕ). element_product w (element_power 2 (j * n))) (length-weighed_word y bs)) (power_sum-weighed_word F y bs j)
    ∙ regroup F b (element_power 2 (length bs)) y (element_power 2 (j * length bs)) (power_sum bs (suc j)) (power_sum bs j)
    ∙ sym (ap₂ bit_xor
    (power_sum-cons b bs (suc j)
    ∙ ap (λ (x : ℕ). bit_xor (element_product b x) (power_sum bs (suc j)))
    (ap (element_power 2) up ∙ power-add F 2 (length bs) (j * length bs)))
    (ap (element_product y) (power_sum-cons b bs j)))

-- where the weighed bytes are 0, the bytes are
zero_from_weighed :
    (F : IsField 391) (m : ℕ) (bs : List ℕ) → m < 255 → length bs ≤ m → ((k : ℕ) → get_or bs k 0 < 256)
    → ((k : ℕ) → get_or (weighed_word (element_power 2 m) bs) k 0 ≡ 0) → (k : ℕ) → get_or bs k 0 ≡ 0
unfolding weighed_word
zero_from_weighed F m [] h l bytes zeros k = refl
zero_from_weighed F m (b ∷ bs) h l bytes zeros zero =
    elim (F.zero_factor b (bit_xor (element_power 2 (length bs)) (element_power 2 m)) (bytes 0)
    (F.sum_fits (element_power 2 (length bs)) (element_power 2 m) (power-fits F 2 (length bs)) (power-fits F 2 m)) (zeros 0)) [
      | inl none ↦ none
      | inr same ↦
          let e : length bs ≡ m = power-injective (length bs) m (omega arith) h (xor-equal (element_power 2 (length bs)) (element_power 2 m) same) in
          absurd (omega arith)
    ]
zero_from_weighed F m (b ∷ bs) h l bytes zeros (suc k) =
    zero_from_weighed F m bs h (omega arith) (λ i. bytes (suc i)) (λ i. zeros (suc i)) k

-- the sums behind a first byte are those of the word, with the rest weighed by the first byte's power
weighed_sum :
    (F : IsField 391) (b : ℕ) (bs : List ℕ) (j : ℕ)
    → power_sum (weighed_word (element_power 2 (length bs)) bs) j
    ≡ bit_xor (power_sum (b ∷ bs) (suc j)) (element_product (element_power 2 (length bs)) (power_sum (b ∷ bs) j))
unfolding weighed_word
weighed_sum F b bs j =
    let none : element_product b (bit_xor (element_power 2 (length bs)) (element_power 2 (length bs))) ≡ 0 =
    ap (element_product b) (xor_self (element_power 2 (length bs))) ∙ F.product_zero_right b in
    sym (power_sum-cons_zero F (weighed_word (element_power 2 (length bs)) bs) j)
    ∙ ap (λ (x : ℕ). power_sum (x ∷ weighed_word (element_power 2 (length bs)) bs) j) (sym none)
    ∙ power_sum-weighed_word F (element_power 2 (length bs)) (b ∷ bs) j

pub zero_from_sums :
    (F : IsField 391) (count : ℕ) (bs : List ℕ) (n from : ℕ) → length bs ≡ count → count ≤ 255
    → ((k : ℕ) → get_or bs k 0 < 256) → weight bs ≤ n
    → ((j : ℕ) → from ≤ j → j < from + n → power_sum bs j ≡ 0) → (k : ℕ) → get_or bs k 0 ≡ 0
unfolding weight
zero_from_sums F count [] n from l short bytes few sums k = refl
zero_from_sums F zero (b ∷ bs) n from l short bytes few sums k = absurd (omega arith)
zero_from_sums F (suc count) (zero ∷ bs) n from l short bytes few sums zero = refl
zero_from_sums F (suc count) (zero ∷ bs) n from l short bytes few sums (suc k) =
    zero_from_sums F count bs n from (omega arith) (omega arith) (λ i. bytes (suc i)) few
    (λ j h h'. sym (power_sum-cons_zero F bs j) ∙ sums j h h') k
zero_from_sums F (suc count) (suc b ∷ bs) zero from l short bytes few sums k = absurd (omega arith)
zero_from_sums F (suc count) (suc b ∷ bs) (suc n) from l short bytes few sums k =
    let rest : (i : ℕ) → get_or bs i 0 ≡ 0 =
    zero_from_weighed F (length bs) bs (omega arith) (omega arith) (λ i. bytes (suc i))
    (zero_from_sums F count (weighed_word (element_power 2 (length bs)) bs) n from
    (length-weighed_word (element_power 2 (length bs)) bs ∙ (let e : length bs ≡ count = omega arith in e)) (omega arith)
    (weighed_word-fits F (element_power 2 (length bs)) bs)
    (let w = weight-weighed_word F (element_power 2 (length bs)) bs in omega arith)
    (λ j h h'.
    weighed_sum F (suc b) bs j
    ∙ ap₂ bit_xor (sums (suc j) (omega arith) (omega arith))
    (ap (element_product (element_power 2 (length bs))) (sums j h (omega arith)) ∙ F.product_zero_right (element_power 2 (length bs)))
    ∙ xor_zero_r 0)) in
    let alone : element_product (suc b) (element_power 2 (from * length bs)) ≡ 0 =
    sym (xor_zero_r (element_product (suc b) (element_power 2 (from * length bs))))
    ∙ ap (bit_xor (element_product (suc b) (element_power 2 (from * length bs)))) (sym (power_sum-zeros F bs rest from))
    ∙ sym (power_sum-cons (suc b) bs from)
    ∙ sums from (omega arith) (omega arith) in
    elim (F.zero_factor (suc b) (element_power 2 (from * length bs)) (bytes 0) (power-fits F 2 (from * length bs)) alone) [
      | inl none ↦ absurd (omega arith)
      | inr none ↦ absurd (power-not_zero F (from * length bs) none)
    ]

-- the difference of two words
unfoldable pub difference : List ℕ → List ℕ → List ℕ
difference [] ys = []
difference (x ∷ xs) [] = []
difference (x ∷ xs) (y ∷ ys) = bit_xor x y ∷ difference xs ys

pub length-difference : (xs ys : List ℕ) → length xs ≡ length ys → length (difference xs ys) ≡ length xs
unfolding difference
length-difference [] ys l = refl
length-difference (x ∷ xs) [] l = absurd (omega arith)
length-difference (x ∷ xs) (y ∷ ys) l = ap suc (length-difference xs ys (omega arith))

pub get_or-difference :
    (xs ys : List ℕ) → length xs ≡ length ys → (k : ℕ)
    → get_or (difference xs ys) k 0 ≡ bit_xor (get_or xs k 0) (get_or ys k 0)
unfolding difference
get_or-difference [] [] l k = sym (xor_zero_r 0)
get_or-difference [] (y ∷ ys) l k = absurd (omega arith)
get_or-difference (x ∷ xs) [] l k = absurd (omega arith)
get_or-difference (x ∷ xs) (y ∷ ys) l zero = refl
get_or-difference (x ∷ xs) (y ∷ ys) l (suc k) = get_or-difference xs ys (omega arith) k

pub weight-difference : (xs ys : List ℕ) → weight (difference xs ys) ≤ differences xs ys
unfolding weight difference
weight-difference [] ys = omega arith
weight-difference (x ∷ xs) [] = omega arith
weight-difference (x ∷ xs) (y ∷ ys) =
    let rest = weight-difference xs ys in
    elim (cases_eq x y) [
      | inl same ↦
          let e : bit_xor x y ≡ 0 = ap (bit_xor x) (sym same) ∙ xor_self x in
          let w : weight (bit_xor x y ∷ difference xs ys) ≡ weight (difference xs ys) =
          ap (λ (z : ℕ). weight (z ∷ difference xs ys)) e in
          let d = differences-cons_same x y xs ys same in
          omega arith
      | inr apart ↦
          let w = weight-cons (bit_xor x y) (difference xs ys) in
          let d = differences-cons_apart x y xs ys apart in
          omega arith
    ]

pub same_from_places : (xs ys : List ℕ) → length xs ≡ length ys → ((k : ℕ) → get_or xs k 0 ≡ get_or ys k 0) → xs ≡ ys
same_from_places [] [] l e = refl
same_from_places [] (y ∷ ys) l e = absurd (omega arith)
same_from_places (x ∷ xs) [] l e = absurd (omega arith)
same_from_places (x ∷ xs) (y ∷ ys) l e = ap₂ (λ (z : ℕ) (zs : List ℕ). z ∷ zs) (e 0) (same_from_places xs ys (omega arith) (λ k. e (suc k)))

-- two code words that differ in no more places than the code has roots are one
pub same_code_word :
    (F : IsField 391) (count roots first : ℕ) (word other : List ℕ) → count ≤ 255
    → IsCodeWord count roots first word → IsCodeWord count roots first other → differences word other ≤ roots
    → word ≡ other
same_code_word F count roots first word other short code code' few =
    let l : length word ≡ length other = code.long ∙ sym code'.long in
    same_from_places word other l
    (λ k. xor-equal (get_or word k 0) (get_or other k 0)
    (sym (get_or-difference word other l k)
    ∙ zero_from_sums F count (difference word other) roots first (length-difference word other l ∙ code.long) short
    (λ i. let e = get_or-difference word other l i in
    let fits = F.sum_fits (get_or word i 0) (get_or other i 0) (code.bytes i) (code'.bytes i) in omega arith)
    (let w = weight-difference word other in omega arith)
    (λ j h h'.
    power_sum-sum F (difference word other) word other (sym (length-difference word other l))
    (sym l ∙ sym (length-difference word other l)) (get_or-difference word other l) j
    ∙ ap₂ bit_xor (code.sums j h h') (code'.sums j h h') ∙ xor_zero_r 0)
    k))

pub minimum_distance : (F : IsField 391) → HasMinimumDistance
minimum_distance F count roots first word other instance code code' apart =
    elim (cases_lt (differences word other) (roots + 1)) [
      | inl few ↦ absurd (apart (same_code_word F count roots first word other instance.short code code' (omega arith)))
      | inr many ↦ many
    ]
