-- The length of what is sent.
use Rattle.std.specs.Prelude.{◌==◌, if◌then◌else◌}
use Rattle.std.proofs.Common.{◌≡◌, ℕ, ◌+◌, ◌*◌, ◌≤◌, Bool, true, false, List, [], ◌∷◌, ap, arith, lit≤, length, take}
use Rattle.std.proofs.Common.{length-append}
use Rattle.std.proofs.lemmas.List.{length-take-le}
use Rattle.gdl90_core.specs.Framing.{escaped_byte, escaped_bytes}

length-escaped_byte : (byte : ℕ) → length (escaped_byte byte) ≤ 2
length-escaped_byte byte = at (byte == 0x7E) (byte == 0x7D)
  where
    at : (flag escape : Bool) → length (if flag then 0x7D ∷ 0x5E ∷ [] else (if escape then 0x7D ∷ 0x5D ∷ [] else byte ∷ [])) ≤ 2
    at true escape = lit≤ tt
    at false true = lit≤ tt
    at false false = lit≤ tt

pub length-escaped_bytes : (bytes : List ℕ) → length (escaped_bytes bytes) ≤ 2 * length bytes
length-escaped_bytes [] = lit≤ tt
length-escaped_bytes (byte ∷ more) =
    omega (arith, length-append (escaped_byte byte) (escaped_bytes more), length-escaped_byte byte, length-escaped_bytes more)

-- the flag and the first bytes take at most so many
pub length-front :
    (out message : List ℕ) (count : ℕ) → out ≡ 0x7E ∷ escaped_bytes (take count message) → count ≤ length message
    → length out ≤ 2 * count + 1
length-front out message count e h =
    omega (arith, ap length e, length-escaped_bytes (take count message), length-take-le count message h)
