-- The words of the contracts by which a damaged word is mended. The wrong places of a word are
-- counted by the bytes after them, and the point of a place is 2 raised to it. A locator is a
-- polynomial that is 0 at the point of each wrong place.
use Rattle.std.specs.Prelude.{◌≡◌, ℕ, zero, suc, ◌+◌, ◌*◌, ◌-◌, ◌<◌, ◌≤◌, ◌==◌, cond, bit_xor}
use Rattle.std.specs.Prelude.{List, [], ◌∷◌, length, slice_index, set}
use Rattle.poly256.specs.Polynomial.{element_product, element_power, value_at}
use Rattle.rs_code.specs.CodeWord.{IsCodeWord, differences, power_sum}

-- the coefficients of a polynomial, each times the member of a row at its power, added
unfoldable pub paired_sum : List ℕ → (ℕ → ℕ) → ℕ
paired_sum [] row = 0
paired_sum (c ∷ cs) row = bit_xor (element_product c (row 0)) (paired_sum cs (λ k. row (suc k)))

-- a polynomial of this degree with the lead 1 whose coefficients, paired with the sums from each
-- place before `end` on, give 0
pub record IsLocator (cs sums : List ℕ) (degree end : ℕ) : Type 0 where
  pub lead : slice_index cs degree ≡ 1
  pub past : (k : ℕ) → degree < k → slice_index cs k ≡ 0
  pub zero : (j : ℕ) → j < end → paired_sum cs (λ k. slice_index sums (j + k)) ≡ 0

-- a polynomial of lower degree that gives 0 so too, but `last` from the place just before that
-- degree on
pub record IsEarlier (cs sums : List ℕ) (degree last : ℕ) : Type 0 where
  pub past : (k : ℕ) → degree ≤ k → slice_index cs k ≡ 0
  pub zero : (j : ℕ) → j + 1 < degree → paired_sum cs (λ k. slice_index sums (j + k)) ≡ 0
  pub here : (j : ℕ) → j + 1 ≡ degree → paired_sum cs (λ k. slice_index sums (j + k)) ≡ last

-- the places below a number at whose points a polynomial is 0, the highest first
unfoldable pub zero_places : List ℕ → ℕ → List ℕ
zero_places cs zero = []
zero_places cs (suc place) =
    cond (value_at cs (element_power 2 place) == 0)
    (place ∷ zero_places cs place) (zero_places cs place)

-- the points of places
unfoldable pub points_of : List ℕ → List ℕ
points_of [] = []
points_of (place ∷ places) = element_power 2 place ∷ points_of places

-- all bytes added
unfoldable pub total_of : List ℕ → ℕ
total_of [] = 0
total_of (b ∷ bs) = bit_xor b (total_of bs)

-- values at points, each times its point raised to n, added
unfoldable pub points_sum : List ℕ → List ℕ → ℕ → ℕ
points_sum [] values n = 0
points_sum (x ∷ xs) [] n = 0
points_sum (x ∷ xs) (y ∷ ys) n =
    bit_xor (element_product y (element_power x n)) (points_sum xs ys n)

-- a word to whose byte at each of these places an error is added
unfoldable pub with_errors : List ℕ → List ℕ → List ℕ → List ℕ
with_errors word [] errors = word
with_errors word (place ∷ places) [] = word
with_errors word (place ∷ places) (e ∷ es) =
    with_errors
    (set word (length word - 1 - place) (bit_xor (slice_index word (length word - 1 - place)) e))
    places es

-- the values of a polynomial at the points of so many places
abbrev pub AreValues : ℕ → List ℕ → List ℕ → Type 0
AreValues count cs values =
    (k : ℕ) → k < count → slice_index values k ≡ value_at cs (element_power 2 k)

-- the places below a number at whose points a polynomial is 0, of any polynomial with these values
abbrev pub AreZeros : ℕ → List ℕ → List ℕ → Type 0
AreZeros count values places =
    (cs : List ℕ) → AreValues count cs values → places ≡ zero_places cs count

-- so many power sums of a word, from the one at `first` on
abbrev pub AreSums : ℕ → List ℕ → ℕ → List ℕ → Type 0
AreSums first word count sums =
    (k : ℕ) → k < count → slice_index sums k ≡ power_sum word (first + k)

-- a word of which each byte is multiplied by its point plus an element
unfoldable pub weighed_word : ℕ → List ℕ → List ℕ
weighed_word y [] = []
weighed_word y (b ∷ bs) =
    element_product b (bit_xor (element_power 2 (length bs)) y) ∷ weighed_word y bs

-- the point of a byte of a word of so many bytes
abbrev pub point_at : ℕ → ℕ → ℕ
point_at count mark = element_power 2 (count - 1 - mark)

-- a word weighed by the point of each of its marked bytes: those bytes are 0 then
unfoldable pub without : List ℕ → List ℕ → List ℕ
without [] word = word
without (mark ∷ marks) word = without marks (weighed_word (point_at (length word) mark) word)

-- each sum but the last is multiplied by a point, and the next one is added
abbrev pub HasNextAdded : ℕ → List ℕ → List ℕ → Type 0
HasNextAdded point old new =
    (k : ℕ) → k + 1 < length old
    → slice_index new k
    ≡ bit_xor (slice_index old (suc k)) (element_product point (slice_index old k))

-- from power sums of a word the marked bytes are taken out, and of the sums as many are lost
abbrev pub LosesMarks : ℕ → List ℕ → List ℕ → List ℕ → Type 0
LosesMarks count marks old new =
    (word : List ℕ) (first : ℕ) → length word ≡ count → AreSums first word (length old) old
    → AreSums first (without marks word) (length old - length marks) new

-- the coefficients of a polynomial times x + point, as far as the list goes
abbrev pub IsTimesRoot : ℕ → List ℕ → List ℕ → Type 0
IsTimesRoot point old new =
    (k : ℕ) → k < length old
    → slice_index new k
    ≡ bit_xor (slice_index (0 ∷ old) k) (element_product point (slice_index old k))

-- a polynomial is 0 at the points of the marked bytes of a word of so many bytes
abbrev pub IsZeroAtMarks : ℕ → List ℕ → List ℕ → Type 0
IsZeroAtMarks count marks cs =
    (i : ℕ) → i < length marks → value_at cs (point_at count (slice_index marks i)) ≡ 0

-- a polynomial of this degree with the lead 1
pub record HasLead (cs : List ℕ) (degree : ℕ) : Type 0 where
  pub lead : slice_index cs degree ≡ 1
  pub past : (k : ℕ) → degree < k → slice_index cs k ≡ 0

-- a word with 0 in the place of its marked bytes
unfoldable pub blanked_word : List ℕ → List ℕ → List ℕ
blanked_word [] word = word
blanked_word (mark ∷ marks) word = blanked_word marks (set word mark 0)

-- a code word so near to a word with marked bytes that there is no other: a byte that differs and
-- has no mark counts twice
pub record IsNearWith (count roots first : ℕ) (marks word other : List ℕ) : Type 0 where
  pub code : IsCodeWord count roots first other
  pub near :
      2 * differences (blanked_word marks word) (blanked_word marks other) + length marks ≤ roots

-- whatever code word is near to a word with marked bytes, it is this one
abbrev pub Mends : ℕ → ℕ → ℕ → List ℕ → List ℕ → List ℕ → Type 0
Mends count roots first marks word mended =
    (other : List ℕ) → IsNearWith count roots first marks word other → mended ≡ other
