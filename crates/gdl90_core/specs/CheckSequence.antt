-- The frame check sequence of a message (Garmin 560-1058-00, FCS Calculation). A polynomial over
-- the two elements 0 and 1 is written as a number: its binary digits are the coefficients, the
-- highest power first. A sum adds coefficients, and 1 + 1 is 0, so it is `bit_xor`; a product with
-- x^k is a product with 2^k.
use Rattle.std.specs.Prelude.{◌≡◌, ℕ, ◌+◌, ◌*◌, ◌/◌, ◌%◌, ◌^◌, ◌<◌, List, [], ◌∷◌, fold, bit_xor}
use Rattle.std.specs.Prelude.{nat_lt}
use Rattle.std.specs.Prelude.{if◌then◌else◌}
use Rattle.bit_fields.specs.Bits.{number_of}

-- the product of a polynomial and x^16 + x^12 + x^5 + 1
abbrev pub multiple : ℕ → ℕ
multiple times = bit_xor (times * 2 ^ 16) (bit_xor (times * 2 ^ 12) (bit_xor (times * 2 ^ 5) times))

-- the rest has degree below 16, and the number is its sum with a multiple of x^16 + x^12 + x^5 + 1
pub record IsRest (number rest : ℕ) : Type 0 where
  pub fits : rest < 65536
  pub times : ℕ
  pub whole : number ≡ bit_xor (multiple times) rest

-- the remainder of a message: the bits of its bytes are one polynomial, with no zeros after them
abbrev pub IsRemainder : List ℕ → ℕ → Type 0
IsRemainder message rest = IsRest (number_of message) rest

-- long division goes on by a coefficient: where the rest then has degree 16, the divisor is taken
-- away
abbrev pub with_bit : ℕ → ℕ → ℕ
with_bit rest bit =
    let longer = 2 * rest + bit in
    if nat_lt longer 65536 then longer else bit_xor longer 0x11021

-- the bits of a byte, the highest first
abbrev pub bits_of : ℕ → List ℕ
bits_of byte =
    (byte / 128 % 2) ∷ (byte / 64 % 2) ∷ (byte / 32 % 2) ∷ (byte / 16 % 2)
    ∷ (byte / 8 % 2) ∷ (byte / 4 % 2) ∷ (byte / 2 % 2) ∷ (byte % 2) ∷ []

abbrev pub with_byte : ℕ → ℕ → ℕ
with_byte rest byte = fold with_bit rest (bits_of byte)

-- the remainder of the message by long division
unfoldable pub remainder : List ℕ → ℕ
remainder message = fold with_byte 0 message
