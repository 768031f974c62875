-- Sums without carry in another order: `bit_xor` adds two polynomials over the elements 0 and 1,
-- written as numbers.
use Rattle.std.proofs.Common.{◌≡◌, ℕ, ◌+◌, ◌*◌, ◌^◌, ◌<◌, sym, ◌∙◌, ap, ap₂}
use Rattle.std.proofs.Math.Nat.{add-zero}
use Rattle.std.specs.Int.Bits.{bit_xor, xor_zero_l, xor_zero_r, xor_self, xor_assoc, xor_block}
use Rattle.std.proofs.lemmas.Nat.{xor_comm, pow_pos}

pub xor-shuffle : (a b c d : ℕ)
    → bit_xor (bit_xor a b) (bit_xor c d) ≡ bit_xor (bit_xor a c) (bit_xor b d)
xor-shuffle a b c d =
    xor_assoc a b (bit_xor c d)
    ∙ ap (bit_xor a)
    (sym (xor_assoc b c d) ∙ ap (λ (x : ℕ). bit_xor x d) (xor_comm b c) ∙ xor_assoc c b d)
    ∙ sym (xor_assoc a c (bit_xor b d))

pub xor-cancel : (a b : ℕ) → bit_xor a (bit_xor a b) ≡ b
xor-cancel a b = sym (xor_assoc a a b) ∙ ap (λ (x : ℕ). bit_xor x b) (xor_self a) ∙ xor_zero_l b

pub xor-equal : (a b : ℕ) → bit_xor a b ≡ 0 → a ≡ b
xor-equal a b e = sym (xor_zero_r a) ∙ ap (bit_xor a) (sym e) ∙ xor-cancel a b

pub xor-through : (a b c : ℕ) → bit_xor (bit_xor a b) (bit_xor b c) ≡ bit_xor a c
xor-through a b c = xor_assoc a b (bit_xor b c) ∙ ap (bit_xor a) (xor-cancel b c)

-- both sides with one number more
pub xor-same_left : (a b c : ℕ) → bit_xor (bit_xor c a) (bit_xor c b) ≡ bit_xor a b
xor-same_left a b c = ap (λ (x : ℕ). bit_xor x (bit_xor c b)) (xor_comm c a) ∙ xor-through a c b

pub xor-same_right : (a b c : ℕ) → bit_xor (bit_xor a c) (bit_xor b c) ≡ bit_xor a b
xor-same_right a b c = ap (bit_xor (bit_xor a c)) (xor_comm b c) ∙ xor-through a c b

-- equal sums have equal differences
pub xor-swap : (a b c d : ℕ) → bit_xor a b ≡ bit_xor c d → bit_xor a c ≡ bit_xor b d
xor-swap a b c d e =
    sym (xor-through a b c) ∙ ap₂ bit_xor e (xor_comm b c) ∙ xor-same_left d b c ∙ xor_comm d b

-- what stands below 2^k is no part of a sum with multiples of 2^k
pub xor-low : (k a b low : ℕ) → low < 2 ^ k
    → bit_xor (a * 2 ^ k) (b * 2 ^ k + low) ≡ bit_xor a b * 2 ^ k + low
xor-low k a b low h =
    ap (λ (x : ℕ). bit_xor x (b * 2 ^ k + low)) (sym (add-zero (a * 2 ^ k)))
    ∙ xor_block k a b 0 low (pow_pos k) h
    ∙ ap (λ (x : ℕ). bit_xor a b * 2 ^ k + x) (xor_zero_l low)

pub xor-shift : (k a b : ℕ) → bit_xor (a * 2 ^ k) (b * 2 ^ k) ≡ bit_xor a b * 2 ^ k
xor-shift k a b =
    ap (bit_xor (a * 2 ^ k)) (sym (add-zero (b * 2 ^ k)))
    ∙ xor-low k a b 0 (pow_pos k)
    ∙ add-zero (bit_xor a b * 2 ^ k)
