-- Codes of six bits as fields of bytes: code k stands at bit 6 k, as the format lays it out (RTCA
-- DO-358).
use Rattle.std.specs.Prelude.{◌≡◌, ℕ, ◌+◌, ◌-◌, ◌*◌, ◌/◌, ◌%◌, ◌^◌, ◌<◌, List, length, get_or}
use Rattle.bit_fields.specs.Bits.{AreBytes, number_of, field_at}

-- each code is the field of six bits at its place
abbrev pub AreFields : List ℕ → List ℕ → Type 0
AreFields bytes codes = (k : ℕ) → k < length codes → get_or codes k 0 ≡ field_at bytes (6 * k) 6

-- the codes are all the fields of six bits that stand whole in the bytes
pub record AreRead (bytes codes : List ℕ) : Type 0 where
  pub fields : AreFields bytes codes
  pub size : length codes ≡ 8 * length bytes / 6

-- the bytes have the codes as their fields, and zero bits to a whole byte
pub record AreWritten (codes bytes : List ℕ) : Type 0 where
  pub are_bytes : AreBytes bytes
  pub fields : AreFields bytes codes
  pub size : length bytes ≡ (6 * length codes + 7) / 8
  pub filled : number_of bytes % 2 ^ (8 * length bytes - 6 * length codes) ≡ 0
