-- A remainder by x^16 + x^12 + x^5 + 1 is the only one, and long division finds it.
use Rattle.std.specs.Prelude.{fold, nat_lt, if◌then◌else◌}
use Rattle.std.proofs.Common.{◌≡◌, ℕ, zero, suc, ◌+◌, ◌-◌, ◌*◌, ◌/◌, ◌%◌, ◌^◌, ◌<◌, ◌≤◌, inl, inr, Bool, true, false}
use Rattle.std.proofs.Common.{List, [], ◌∷◌, refl, sym, ◌∙◌, ap, subst, arith, lit<}
use Rattle.std.proofs.Math.Path.{ap₂}
use Rattle.std.proofs.Math.Nat.{mul_right_comm, zero-add}
use Rattle.std.specs.Int.Bits.{bit_xor, xor_block, xor_zero_l}
use Rattle.std.proofs.lemmas.Nat.{xor_lt, pow_pos, pow-add}
use Rattle.std.proofs.lemmas.Bool.{ltb-true, ltb-false, cases_lt}
use Rattle.std.proofs.lemmas.List.Elements.{All-head, All-tail}
use Rattle.bit_fields.specs.Bits.{number_of, AreBytes}
use Rattle.gdl90_core.specs.CheckSequence.{multiple, IsRest, with_bit, with_byte, remainder}
use Rattle.gdl90_core.specs.Laws.{OneRemainder}
use Rattle.bit_fields.specs.Xors.{xor-shuffle, xor-equal, xor-swap, xor-same_right, xor-shift, xor-low}

pub multiple-xor : (a b : ℕ) → multiple (bit_xor a b) ≡ bit_xor (multiple a) (multiple b)
multiple-xor a b =
    ap₂ bit_xor (sym (xor-shift 16 a b))
    (ap₂ bit_xor (sym (xor-shift 12 a b))
    (ap (λ (x : ℕ). bit_xor x (bit_xor a b)) (sym (xor-shift 5 a b)) ∙ xor-shuffle (a * 2 ^ 5) (b * 2 ^ 5) a b)
    ∙ xor-shuffle (a * 2 ^ 12) (b * 2 ^ 12) (bit_xor (a * 2 ^ 5) a) (bit_xor (b * 2 ^ 5) b))
    ∙ xor-shuffle (a * 2 ^ 16) (b * 2 ^ 16)
    (bit_xor (a * 2 ^ 12) (bit_xor (a * 2 ^ 5) a)) (bit_xor (b * 2 ^ 12) (bit_xor (b * 2 ^ 5) b))

pub multiple-shift : (k a : ℕ) → multiple (a * 2 ^ k) ≡ multiple a * 2 ^ k
multiple-shift k a =
    ap₂ bit_xor (mul_right_comm a (2 ^ k) (2 ^ 16))
    (ap₂ bit_xor (mul_right_comm a (2 ^ k) (2 ^ 12))
    (ap (λ (x : ℕ). bit_xor x (a * 2 ^ k)) (mul_right_comm a (2 ^ k) (2 ^ 5)) ∙ xor-shift k (a * 2 ^ 5) a)
    ∙ xor-shift k (a * 2 ^ 12) (bit_xor (a * 2 ^ 5) a))
    ∙ xor-shift k (a * 2 ^ 16) (bit_xor (a * 2 ^ 12) (bit_xor (a * 2 ^ 5) a))

-- the highest digit of a number
highest_below : (n d : ℕ) → 0 < d → d < 2 ^ n → (k : ℕ) × (2 ^ k ≤ d) × (d < 2 ^ suc k)
highest_below zero d pos h = absurd (let e : d < 1 = h in omega arith)
highest_below (suc n) d pos h = elim (cases_lt d (2 ^ n)) [
  | inl low ↦ highest_below n d pos low
  | inr high ↦ (n, high, h)
]

below_power : (d : ℕ) → d < 2 ^ d
below_power zero = lit< tt
below_power (suc d) =
    let ih : d < 2 ^ d = below_power d in
    let e : 2 ^ (1 + d) ≡ 2 ^ 1 * 2 ^ d = pow-add 2 1 d in
    let s : 1 + d ≡ suc d = omega arith in
    let P : ℕ → Type 0 = λ n. suc d < 2 ^ n in
    subst P s (omega arith)

-- a multiple other than 0 has degree 16 or more
multiple_high : (k d : ℕ) → 2 ^ k ≤ d → d < 2 ^ suc k → 65536 ≤ multiple d
multiple_high k d low high =
    let pos : 0 < 2 ^ k = pow_pos k in
    let two : 2 ^ (1 + k) ≡ 2 ^ 1 * 2 ^ k = pow-add 2 1 k in
    let s : 1 + k ≡ suc k = omega arith in
    let P : ℕ → Type 0 = λ n. d < 2 ^ n in
    let below : d < 2 ^ (1 + k) = subst P (sym s) high in
    let whole : 2 ^ (k + 16) ≡ 2 ^ k * 2 ^ 16 = pow-add 2 k 16 in
    let rest : ℕ = d - 2 ^ k in
    let small : rest * 65536 < 2 ^ (k + 16) = omega arith in
    let fifth : d * 2 ^ 5 < 2 ^ (k + 16) = omega arith in
    let twelfth : d * 2 ^ 12 < 2 ^ (k + 16) = omega arith in
    let plain : d < 2 ^ (k + 16) = omega arith in
    let tail : ℕ = bit_xor (d * 2 ^ 12) (bit_xor (d * 2 ^ 5) d) in
    let tail_small : tail < 2 ^ (k + 16) = xor_lt (k + 16) _ _ twelfth (xor_lt (k + 16) _ _ fifth plain) in
    let front : d * 2 ^ 16 ≡ 1 * 2 ^ (k + 16) + rest * 65536 = omega arith in
    let back : tail ≡ 0 * 2 ^ (k + 16) + tail = omega arith in
    let e : multiple d ≡ 1 * 2 ^ (k + 16) + bit_xor (rest * 65536) tail =
    ap₂ bit_xor front back ∙ xor_block (k + 16) 1 0 (rest * 65536) tail small tail_small in
    omega (arith, e, whole, pos)

multiple_small : (d : ℕ) → multiple d < 65536 → d ≡ 0
multiple_small zero h = refl
multiple_small (suc d) h =
    let top : (k : ℕ) × (2 ^ k ≤ suc d) × (suc d < 2 ^ suc k) =
    highest_below (suc d) (suc d) (omega arith) (below_power (suc d)) in
    absurd (let high : 65536 ≤ multiple (suc d) = multiple_high top.0 (suc d) top.1 top.2 in omega (arith, high, h))

pub rest_unique : (number r s : ℕ) → IsRest number r → IsRest number s → r ≡ s
rest_unique number r s R S =
    let d : ℕ = bit_xor R.times S.times in
    let e : multiple d ≡ bit_xor r s =
    multiple-xor R.times S.times
    ∙ xor-swap (multiple R.times) r (multiple S.times) s (sym R.whole ∙ S.whole) in
    let small : bit_xor r s < 2 ^ 16 = xor_lt 16 r s R.fits S.fits in
    let none : d ≡ 0 = multiple_small d (let P : ℕ → Type 0 = λ n. n < 65536 in subst P (sym e) small) in
    xor-equal r s (sym e ∙ ap multiple none)

bit_times :
    (number r times bit : ℕ) → number ≡ bit_xor (multiple times) r → bit < 2
    → 2 * number + bit ≡ bit_xor (multiple (times * 2)) (2 * r + bit)
bit_times number r times bit whole h =
    let e : bit_xor (multiple times * 2 ^ 1) (r * 2 ^ 1 + bit) ≡ bit_xor (multiple times) r * 2 ^ 1 + bit =
    xor-low 1 (multiple times) r bit h in
    let left : 2 * number + bit ≡ number * 2 + bit = omega arith in
    let right : r * 2 + bit ≡ 2 * r + bit = omega arith in
    left ∙ ap (λ (n : ℕ). n * 2 + bit) whole ∙ sym e ∙ ap₂ bit_xor (sym (multiple-shift 1 times)) right

-- a rest of degree 16, with the divisor taken away
taken_away : (longer : ℕ) → 65536 ≤ longer → longer < 131072 → bit_xor longer 0x11021 < 65536
taken_away longer low high =
    let rest : ℕ = longer - 65536 in
    let small : rest < 2 ^ 16 = omega arith in
    let split : longer ≡ 1 * 2 ^ 16 + rest = omega arith in
    let e : bit_xor (1 * 2 ^ 16 + rest) (1 * 2 ^ 16 + 0x1021) ≡ bit_xor rest 0x1021 =
    xor_block 16 1 1 rest 0x1021 small (lit< tt) ∙ zero-add (bit_xor rest 0x1021) in
    let below : bit_xor rest 0x1021 < 2 ^ 16 = xor_lt 16 rest 0x1021 small (lit< tt) in
    let P : ℕ → Type 0 = λ n. n < 65536 in
    subst P (sym (ap (λ (x : ℕ). bit_xor x 0x11021) split ∙ e)) below

rest_bit : (number r bit : ℕ) → IsRest number r → bit < 2 → IsRest (2 * number + bit) (with_bit r bit)
rest_bit number r bit R h =
    let longer : ℕ = 2 * r + bit in
    let even : 2 * number + bit ≡ bit_xor (multiple (R.times * 2)) longer = bit_times number r R.times bit R.whole h in
    let odd : bit_xor (multiple (bit_xor (R.times * 2) 1)) (bit_xor longer 0x11021) ≡ bit_xor (multiple (R.times * 2)) longer =
    ap (λ (x : ℕ). bit_xor x (bit_xor longer 0x11021)) (multiple-xor (R.times * 2) 1)
    ∙ xor-same_right (multiple (R.times * 2)) longer 0x11021 in
    rest_bit_at number longer R.times (nat_lt longer 65536) refl (let f : r < 65536 = R.fits in omega arith) even odd
  where
    rest_bit_at :
        (n longer times : ℕ) (short : Bool) → nat_lt longer 65536 ≡ short → longer < 131072
        → 2 * n + bit ≡ bit_xor (multiple (times * 2)) longer
        → bit_xor (multiple (bit_xor (times * 2) 1)) (bit_xor longer 0x11021) ≡ bit_xor (multiple (times * 2)) longer
        → IsRest (2 * n + bit) (if short then longer else bit_xor longer 0x11021)
    rest_bit_at n longer times true e bound even odd = record {
      fits = ltb-true longer 65536 e;
      times = times * 2;
      whole = even;
    }
    rest_bit_at n longer times false e bound even odd = record {
      fits = taken_away longer (ltb-false longer 65536 e) bound;
      times = bit_xor (times * 2) 1;
      whole = even ∙ sym odd;
    }

rest_along : (number other r : ℕ) → number ≡ other → IsRest number r → IsRest other r
rest_along number other r e R = let P : ℕ → Type 0 = λ n. IsRest n r in subst P e R

-- a bit more of a byte
rest_digit :
    (number r more high : ℕ) → IsRest (number + high) r → high ≡ more / 2
    → IsRest (2 * number + more) (with_bit r (more % 2))
rest_digit number r more high R e =
    rest_along (2 * (number + high) + more % 2) (2 * number + more) (with_bit r (more % 2)) (omega arith)
    (rest_bit (number + high) r (more % 2) R (omega arith))

pub rest_byte : (number r byte : ℕ) → IsRest number r → byte < 256 → IsRest (256 * number + byte) (with_byte r byte)
rest_byte number r byte R h =
    let r0 : IsRest (number + 0) r = rest_along number (number + 0) r (omega arith) R in
    let r1 : IsRest (2 * number + byte / 128) (with_bit r (byte / 128 % 2)) =
    rest_digit number r (byte / 128) 0 r0 (omega arith) in
    let r2 = rest_digit (2 * number) _ (byte / 64) (byte / 128) r1 (omega arith) in
    let r3 = rest_digit (2 * (2 * number)) _ (byte / 32) (byte / 64) r2 (omega arith) in
    let r4 = rest_digit (2 * (2 * (2 * number))) _ (byte / 16) (byte / 32) r3 (omega arith) in
    let r5 = rest_digit (2 * (2 * (2 * (2 * number)))) _ (byte / 8) (byte / 16) r4 (omega arith) in
    let r6 = rest_digit (2 * (2 * (2 * (2 * (2 * number))))) _ (byte / 4) (byte / 8) r5 (omega arith) in
    let r7 = rest_digit (2 * (2 * (2 * (2 * (2 * (2 * number)))))) _ (byte / 2) (byte / 4) r6 (omega arith) in
    let r8 = rest_digit (2 * (2 * (2 * (2 * (2 * (2 * (2 * number))))))) _ byte (byte / 2) r7 (omega arith) in
    rest_along (2 * (2 * (2 * (2 * (2 * (2 * (2 * (2 * number))))))) + byte) (256 * number + byte) (with_byte r byte)
    (omega arith) r8

rest_fold :
    (message : List ℕ) (number r : ℕ) → IsRest number r → AreBytes message
    → IsRest (fold (λ n byte. 256 * n + byte) number message) (fold with_byte r message)
rest_fold [] number r R bytes = R
rest_fold (byte ∷ more) number r R bytes =
    rest_fold more (256 * number + byte) (with_byte r byte)
    (rest_byte number r byte R (All-head (λ (b : ℕ). b < 256) byte more bytes))
    (All-tail (λ (b : ℕ). b < 256) byte more bytes)

-- a polynomial of degree below 16 is its own remainder
pub rest_itself : (r : ℕ) → r < 65536 → IsRest r r
rest_itself r h = record { fits = h; times = 0; whole = sym (xor_zero_l r) }

-- long division gives the remainder
pub remainder_is_rest : (message : List ℕ) → AreBytes message → IsRest (number_of message) (remainder message)
unfolding remainder
remainder_is_rest message bytes = rest_fold message 0 0 (rest_itself 0 (lit< tt)) bytes

pub one_remainder : OneRemainder
one_remainder text rest bytes = (
  (λ is. rest_unique (number_of text) rest (remainder text) is (remainder_is_rest text bytes)),
  (λ e. let P : ℕ → Type 0 = λ r. IsRest (number_of text) r in subst P (sym e) (remainder_is_rest text bytes)),
)
