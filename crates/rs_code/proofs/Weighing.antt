-- A word whose bytes are each multiplied by a function of their points. By the values of a polynomial its power sums are
-- those of the word, paired with the coefficients; so where these are 0, each byte is 0 or stands at a point where the
-- polynomial is 0.
use Rattle.std.proofs.Common.{◌≡◌, ℕ, zero, suc, ◌+◌, ◌-◌, ◌*◌, ◌<◌, ◌≤◌, ◌⊎◌, List, [], ◌∷◌, length, get_or, lit<, refl, sym, ◌∙◌, ap, ap₂, arith}
use Rattle.std.specs.Int.Bits.{bit_xor, xor_zero_r}
use Rattle.bit_fields.specs.Xors.{xor-shuffle}
use Rattle.gf256_core.specs.Field.{IsField}
use Rattle.poly256.specs.Polynomial.{element_product, element_power, value_at}
use Rattle.poly256.specs.Laws.{HasValues}
use Rattle.rs_code.specs.CodeWord.{power_sum}
use Rattle.rs_code.specs.Mending.{paired_sum}
use Rattle.rs_code.proofs.Powers.{power-add}
use Rattle.rs_code.proofs.PowerSums.{power_sum-cons, power_sum-empty, power_sum-zeros}
use Rattle.rs_code.proofs.Distance.{weight, weight-cons, zero_from_sums}
use Rattle.rs_code.proofs.Pairing.{paired_sum-empty, paired_sum-cons, paired_sum-same}

pub weighed_by : (ℕ → ℕ) → List ℕ → List ℕ
weighed_by f [] = []
weighed_by f (b ∷ bs) = element_product b (f (element_power 2 (length bs))) ∷ weighed_by f bs

length-weighed_by : (f : ℕ → ℕ) (bs : List ℕ) → length (weighed_by f bs) ≡ length bs
unfolding weighed_by
length-weighed_by f [] = refl
length-weighed_by f (b ∷ bs) = ap suc (length-weighed_by f bs)

weighed_by-fits : (F : IsField 391) (f : ℕ → ℕ) (bs : List ℕ) (k : ℕ) → get_or (weighed_by f bs) k 0 < 256
unfolding weighed_by
weighed_by-fits F f [] k = lit< tt
weighed_by-fits F f (b ∷ bs) zero = F.product_fits b (f (element_power 2 (length bs)))
weighed_by-fits F f (b ∷ bs) (suc k) = weighed_by-fits F f bs k

weight-weighed_by : (F : IsField 391) (f : ℕ → ℕ) (bs : List ℕ) → weight (weighed_by f bs) ≤ weight bs
unfolding weight weighed_by
weight-weighed_by F f [] = omega arith
weight-weighed_by F f (zero ∷ bs) =
    let none : element_product 0 (f (element_power 2 (length bs))) ≡ 0 = F.product_zero (f (element_power 2 (length bs))) in
    let same : weight (element_product 0 (f (element_power 2 (length bs))) ∷ weighed_by f bs) ≡ weight (weighed_by f bs) =
    ap (λ (x : ℕ). weight (x ∷ weighed_by f bs)) none in
    let rest = weight-weighed_by F f bs in
    omega arith
weight-weighed_by F f (suc b ∷ bs) =
    let first = weight-cons (element_product (suc b) (f (element_power 2 (length bs)))) (weighed_by f bs) in
    let rest = weight-weighed_by F f bs in
    omega arith

get_or-weighed_by :
    (f : ℕ → ℕ) (bs : List ℕ) (k place : ℕ) → k + suc place ≡ length bs
    → get_or (weighed_by f bs) k 0 ≡ element_product (get_or bs k 0) (f (element_power 2 place))
unfolding weighed_by
get_or-weighed_by f [] k place e = absurd (omega arith)
get_or-weighed_by f (b ∷ bs) zero place e =
    ap (λ (n : ℕ). element_product b (f (element_power 2 n))) (let l : length bs ≡ place = omega arith in l)
get_or-weighed_by f (b ∷ bs) (suc k) place e = get_or-weighed_by f bs k place (omega arith)

-- b (c + p g) q = c (b q) + (b g) (p q)
regroup :
    (F : IsField 391) (b c p g q : ℕ)
    → element_product (element_product b (bit_xor c (element_product p g))) q
    ≡ bit_xor (element_product c (element_product b q)) (element_product (element_product b g) (element_product p q))
regroup F b c p g q =
    ap (λ (x : ℕ). element_product x q) (F.distributive_right b c (element_product p g))
    ∙ F.distributive (element_product b c) (element_product b (element_product p g)) q
    ∙ ap₂ bit_xor
    (ap (λ (x : ℕ). element_product x q) (F.product_comm b c) ∙ F.product_assoc c b q)
    (ap (λ (x : ℕ). element_product (element_product b x) q) (F.product_comm p g)
    ∙ ap (λ (x : ℕ). element_product x q) (sym (F.product_assoc b g p))
    ∙ F.product_assoc (element_product b g) p q)

-- by f x = c + x g(x)
weighed_by_more :
    (F : IsField 391) (f g : ℕ → ℕ) (c : ℕ) → ((x : ℕ) → f x ≡ bit_xor c (element_product x (g x)))
    → (bs : List ℕ) (j : ℕ)
    → power_sum (weighed_by f bs) j ≡ bit_xor (element_product c (power_sum bs j)) (power_sum (weighed_by g bs) (suc j))
unfolding weighed_by
weighed_by_more F f g c e [] j =
    power_sum-empty j
    ∙ sym (ap₂ bit_xor (ap (element_product c) (power_sum-empty j) ∙ F.product_zero_right c) (power_sum-empty (suc j)) ∙ xor_zero_r 0)
weighed_by_more F f g c e (b ∷ bs) j =
    let up : suc j * length bs ≡ length bs + j * length bs = omega arith in
    power_sum-cons (element_product b (f (element_power 2 (length bs)))) (weighed_by f bs) j
    ∙ ap₂ bit_xor
    (ap₂ (λ (x n : ℕ). element_product (element_product b x) (element_power 2 (j * n))) (e (element_power 2 (length bs))) (length-weighed_by f bs)
    ∙ regroup F b c (element_power 2 (length bs)) (g (element_power 2 (length bs))) (element_power 2 (j * length bs)))
    (weighed_by_more F f g c e bs j)
    ∙ xor-shuffle (element_product c (element_product b (element_power 2 (j * length bs))))
    (element_product (element_product b (g (element_power 2 (length bs)))) (element_product (element_power 2 (length bs)) (element_power 2 (j * length bs))))
    (element_product c (power_sum bs j)) (power_sum (weighed_by g bs) (suc j))
    ∙ ap₂ bit_xor
    (sym (F.distributive_right c (element_product b (element_power 2 (j * length bs))) (power_sum bs j))
    ∙ ap (element_product c) (sym (power_sum-cons b bs j)))
    (ap (λ (x : ℕ). bit_xor (element_product (element_product b (g (element_power 2 (length bs)))) x) (power_sum (weighed_by g bs) (suc j)))
    (sym (power-add F 2 (length bs) (j * length bs)) ∙ ap (element_power 2) (sym up))
    ∙ ap (λ (n : ℕ). bit_xor (element_product (element_product b (g (element_power 2 (length bs)))) (element_power 2 (suc j * n))) (power_sum (weighed_by g bs) (suc j)))
    (sym (length-weighed_by g bs))
    ∙ sym (power_sum-cons (element_product b (g (element_power 2 (length bs)))) (weighed_by g bs) (suc j)))

weighed_by-zero :
    (F : IsField 391) (f : ℕ → ℕ) → ((x : ℕ) → f x ≡ 0) → (bs : List ℕ) (k : ℕ) → get_or (weighed_by f bs) k 0 ≡ 0
unfolding weighed_by
weighed_by-zero F f none [] k = refl
weighed_by-zero F f none (b ∷ bs) zero =
    ap (element_product b) (none (element_power 2 (length bs))) ∙ F.product_zero_right b
weighed_by-zero F f none (b ∷ bs) (suc k) = weighed_by-zero F f none bs k

-- by the values of a polynomial
weighed_by_value :
    (F : IsField 391) (V : HasValues) (cs bs : List ℕ) (j : ℕ) → ((k : ℕ) → get_or cs k 0 < 256)
    → power_sum (weighed_by (value_at cs) bs) j ≡ paired_sum cs (λ k. power_sum bs (j + k))
weighed_by_value F V [] bs j bytes =
    power_sum-zeros F (weighed_by (value_at []) bs) (weighed_by-zero F (value_at []) V.of_zero bs) j
    ∙ sym (paired_sum-empty (λ k. power_sum bs (j + k)))
weighed_by_value F V (c ∷ cs) bs j bytes =
    weighed_by_more F (value_at (c ∷ cs)) (value_at cs) c (λ x. V.of_first c cs x (bytes 0)) bs j
    ∙ ap₂ bit_xor
    (ap (λ (n : ℕ). element_product c (power_sum bs n)) (let e : j ≡ j + 0 = omega arith in e))
    (weighed_by_value F V cs bs (suc j) (λ k. bytes (suc k))
    ∙ paired_sum-same cs (λ k. power_sum bs (suc j + k)) (λ k. power_sum bs (j + suc k))
    (λ k. ap (power_sum bs) (let e : suc j + k ≡ j + suc k = omega arith in e)))
    ∙ sym (paired_sum-cons c cs (λ k. power_sum bs (j + k)))

-- a byte is 0, or the polynomial is 0 at its point
pub located :
    (F : IsField 391) (V : HasValues) (cs bs : List ℕ) (half first : ℕ) → length bs ≤ 255
    → ((k : ℕ) → get_or bs k 0 < 256) → ((k : ℕ) → get_or cs k 0 < 256) → weight bs ≤ half
    → ((j : ℕ) → j < half → paired_sum cs (λ k. power_sum bs (first + (j + k))) ≡ 0) → (k place : ℕ) → k + suc place ≡ length bs
    → (get_or bs k 0 ≡ 0) ⊎ (value_at cs (element_power 2 place) ≡ 0)
located F V cs bs half first short bytes bytes' few zeros k place e =
    F.zero_factor (get_or bs k 0) (value_at cs (element_power 2 place)) (bytes k) (V.fits cs (element_power 2 place))
    (sym (get_or-weighed_by (value_at cs) bs k place e)
    ∙ zero_from_sums F (length bs) (weighed_by (value_at cs) bs) half first (length-weighed_by (value_at cs) bs) short
    (weighed_by-fits F (value_at cs) bs)
    (let w = weight-weighed_by F (value_at cs) bs in omega arith)
    (λ j low high.
    weighed_by_value F V cs bs j bytes'
    ∙ paired_sum-same cs (λ k. power_sum bs (j + k)) (λ k. power_sum bs (first + (j - first + k)))
    (λ k. ap (power_sum bs) (let e : j + k ≡ first + (j - first + k) = omega arith in e))
    ∙ zeros (j - first) (omega arith))
    k)
