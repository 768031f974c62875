-- Bytes as one number: what stands before others counts by their length, and the number fits its
-- bytes.
use Rattle.std.proofs.Common.{◌≡◌, ℕ, zero, suc, ◌+◌, ◌*◌, ◌^◌, ◌<◌, List, [], ◌∷◌, ◌++◌, length, fold}
use Rattle.std.proofs.Common.{get_or, ap, ◌∙◌, inl, inr, arith}
use Rattle.std.specs.Int.{byte_at, bytes_high_first}
use Rattle.std.proofs.Math.Nat.{add-mul, mul_assoc, mul_comm}
use Rattle.std.proofs.lemmas.Nat.{pow-add, mul-add-lt}
use Rattle.std.proofs.lemmas.Bool.{cases_lt}
use Rattle.std.proofs.lemmas.List.{get_or_past}
use Rattle.std.proofs.lemmas.List.Elements.{All-nil, All-cons, All-head, All-tail}
use Rattle.bit_fields.specs.Bits.{AreBytes, number_of}

abbrev pub IsByte : ℕ → Type 0
IsByte byte = byte < 256

-- the number of some bytes after a number
abbrev pub behind : ℕ → List ℕ → ℕ
behind start bytes = fold (λ number byte. 256 * number + byte) start bytes

pub eight_more : (n : ℕ) → 2 ^ (8 * suc n) ≡ 256 * 2 ^ (8 * n)
eight_more n =
    let e : 8 * suc n ≡ 8 + 8 * n = omega arith in
    ap (λ (k : ℕ). 2 ^ k) e ∙ pow-add 2 8 (8 * n)

-- one number more side by side, by what stands before it, its width and what stands behind it
pub joined_step : (bits p w n q j b c : ℕ) → b ≡ (bits * p + n) * w + j → c ≡ (0 * p + n) * w + j
    → q ≡ p * w → b ≡ bits * q + c
joined_step bits p w n q j b c first second product =
    let split = add-mul (bits * p) n w in
    let front = mul_assoc bits p w in
    let whole : bits * q ≡ bits * (p * w) = ap (λ (x : ℕ). bits * x) product in
    omega arith

pub behind_is : (bytes : List ℕ) (start : ℕ)
    → behind start bytes ≡ start * 2 ^ (8 * length bytes) + number_of bytes
behind_is [] start = omega arith
behind_is (x ∷ xs) start =
    let low = 2 ^ (8 * length xs) in
    let turned : (n : ℕ) → (256 * n + x) * low + number_of xs ≡ (n * 256 + x) * low + number_of xs
    = λ n. ap (λ m. (m + x) * low + number_of xs) (mul_comm 256 n) in
    joined_step start 256 low x (2 ^ (8 * suc (length xs))) (number_of xs)
    (behind (256 * start + x) xs) (behind (256 * 0 + x) xs)
    (behind_is xs (256 * start + x) ∙ turned start) (behind_is xs (256 * 0 + x) ∙ turned 0)
    (eight_more (length xs))

-- each number of a list of bytes is one, by its place
pub AreBytes-at : (bytes : List ℕ) → AreBytes bytes → (place : ℕ) → get_or bytes place 0 < 256
AreBytes-at bytes are place = elim (cases_lt place (length bytes)) [
  | inl inside ↦ are place 0 inside
  | inr past ↦ let none = get_or_past bytes place 0 past in omega (arith, none)
]

pub number_of-cons : (x : ℕ) (xs : List ℕ)
    → number_of (x ∷ xs) ≡ x * 2 ^ (8 * length xs) + number_of xs
number_of-cons x xs =
    let e : 256 * 0 + x ≡ x = omega arith in
    ap (λ (n : ℕ). behind n xs) e ∙ behind_is xs x

pub number_of-append : (xs ys : List ℕ) (start : ℕ)
    → behind start (xs ++ ys) ≡ behind start xs * 2 ^ (8 * length ys) + number_of ys
number_of-append [] ys start = behind_is ys start
number_of-append (x ∷ xs) ys start = number_of-append xs ys (256 * start + x)

pub number_of-fits : (xs : List ℕ) → AreBytes xs → number_of xs < 2 ^ (8 * length xs)
number_of-fits [] h = omega arith
number_of-fits (x ∷ xs) h =
    rw (number_of-cons x xs, eight_more (length xs), mul_comm 256 (2 ^ (8 * length xs)))
    (mul-add-lt x (2 ^ (8 * length xs)) (number_of xs) 256
    (All-head IsByte x xs h) (number_of-fits xs (All-tail IsByte x xs h)))

byte_below : (k n : ℕ) → byte_at k n < 256
byte_below zero n = omega arith
byte_below (suc k) n = omega arith

-- the bytes of a number are bytes
pub bytes_high_first-bytes : (k n : ℕ) → AreBytes (bytes_high_first k n)
bytes_high_first-bytes zero n = All-nil IsByte
bytes_high_first-bytes (suc k) n =
    All-cons IsByte (byte_at k n) (bytes_high_first k n) (byte_below k n)
    (bytes_high_first-bytes k n)
