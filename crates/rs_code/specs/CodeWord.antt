-- Reed-Solomon code words over the field of the uplink. A code has words of `count` bytes, and
-- `roots` elements at which each code word is 0: the powers of 2, which is x, from `first` on. The
-- first byte of a word is the coefficient of the highest power.
use Rattle.std.specs.Prelude.{◌≡◌, ℕ, suc, ◌+◌, ◌*◌, ◌/◌, ◌%◌, ◌<◌, ◌≤◌, ◌==◌, nat_le, Bool, IsTrue}
use Rattle.std.specs.Prelude.{List, [], ◌∷◌, cond, length, slice_index, bit_xor}
use Rattle.poly256.specs.Polynomial.{element_product, element_power}

-- the numbers that make a code
pub record IsInstance (count roots first : ℕ) : Type 0 where
  pub even : roots % 2 ≡ 0
  pub below : roots < count
  pub short : count ≤ 255
  pub high : first + roots ≤ 255

-- the value of a word at 2 raised to j: each byte times that element raised to the number of bytes
-- after it
unfoldable pub power_sum : List ℕ → ℕ → ℕ
power_sum [] j = 0
power_sum (b ∷ bs) j =
    bit_xor (element_product b (element_power 2 (j * length bs))) (power_sum bs j)

pub record IsCodeWord (count roots first : ℕ) (word : List ℕ) : Type 0 where
  pub long : length word ≡ count
  pub bytes : (i : ℕ) → slice_index word i < 256
  pub sums : (j : ℕ) → first ≤ j → j < first + roots → power_sum word j ≡ 0

-- in how many places two words differ
abbrev pub differences : List ℕ → List ℕ → ℕ
differences [] [] = 0
differences [] (y ∷ ys) = suc (length ys)
differences (x ∷ xs) [] = suc (length xs)
differences (x ∷ xs) (y ∷ ys) = cond (x == y) (differences xs ys) (suc (differences xs ys))

-- in how many places a code word may differ from a word that it is taken for
abbrev pub bound : ℕ → ℕ
bound roots = roots / 2

-- whether two words differ in no more places than that
abbrev pub are_near : ℕ → List ℕ → List ℕ → Bool
are_near roots word other = nat_le (differences word other) (bound roots)

-- `other` is a code word near `word`
pub record IsNear (count roots first : ℕ) (word other : List ℕ) : Type 0 where
  pub code : IsCodeWord count roots first other
  pub near : IsTrue (are_near roots word other)

-- there is a code word near `word`
abbrev pub IsCorrectable : ℕ → ℕ → ℕ → List ℕ → Type 0
IsCorrectable count roots first word = (other : List ℕ) × IsNear count roots first word other
