-- Numbers of a given width side by side, the highest bit first, as the uplink formats lay them out.
use Rattle.std.specs.Prelude.{ℕ, ◌+◌, ◌-◌, ◌*◌, ◌/◌, ◌%◌, ◌^◌, ◌<◌, Bool, if◌then◌else◌, List, []}
use Rattle.std.specs.Prelude.{◌∷◌, fold, length, All}

-- each number of the list is a byte
abbrev pub AreBytes : List ℕ → Type 0
AreBytes bytes = All (λ byte. byte < 256) bytes

-- a flag as the number of one bit
abbrev pub bit : Bool → ℕ
bit b = if b then 1 else 0

-- a field of so many bits, with its number
pub record Field : Type 0 where
  pub width : ℕ
  pub number : ℕ

-- the fields side by side, as one number, after the bits that stand already
abbrev pub as_number : ℕ → List Field → ℕ
as_number bits [] = bits
as_number bits (field ∷ more) = as_number (bits * 2 ^ field.width + field.number) more

-- the bytes as one number, the first byte highest
abbrev pub number_of : List ℕ → ℕ
number_of bytes = fold (λ number byte. 256 * number + byte) 0 bytes

-- the field of this width that begins at this bit, counted from 0
abbrev pub field_at : List ℕ → ℕ → ℕ → ℕ
field_at bytes place width = number_of bytes / 2 ^ (8 * length bytes - place - width) % 2 ^ width
