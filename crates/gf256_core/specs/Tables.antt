-- What a table of powers and a table of logarithms of the element x, which is 2, say.
use Rattle.std.specs.Prelude.{◌≡◌, ℕ, ◌+◌, ◌<◌, ◌≤◌, List, slice_index}
use Rattle.gf256_core.specs.Field.{product}

-- The rows are different, since `logarithm` tells one from another.
pub record AreTables (modulus : ℕ) (powers logarithms : List ℕ) : Type 0 where
  pub low : 256 ≤ modulus
  pub high : modulus < 512
  pub first : slice_index powers 0 ≡ 1
  pub next : (i : ℕ) → i < 254
      → slice_index powers (i + 1) ≡ product modulus (slice_index powers i) 2
  pub not_zero : (i : ℕ) → i < 255 → 0 < slice_index powers i
  pub logarithm : (i : ℕ) → i < 255 → slice_index logarithms (slice_index powers i) ≡ i
  pub of_zero : slice_index logarithms 0 ≡ 0
