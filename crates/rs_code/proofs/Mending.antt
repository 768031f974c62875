-- The errors of a word at the places that its locator names.
use Rattle.std.proofs.Common.{◌≡◌, ℕ, zero, suc, ◌+◌, ◌-◌, ◌*◌, ◌<◌, ◌⊎◌, List, [], ◌∷◌, ◌++◌, length, get_or, set, drop, drop-cons, add-one, cond, eqb, lit<, refl, sym, ◌∙◌, ap, ap₂, arith, inl, inr, append_assoc, length-append}
use Rattle.std.specs.Int.Bits.{bit_xor, xor_zero_r}
use Rattle.std.proofs.lemmas.Bool.{cases_eq}
use Rattle.std.proofs.lemmas.List.{set_at, get_or_at}
use Rattle.bit_fields.specs.Xors.{xor-cancel}
use Rattle.gf256_core.specs.Field.{IsField}
use Rattle.poly256.specs.Polynomial.{element_product, element_power, value_at}
use Rattle.rs_code.specs.CodeWord.{power_sum}
use Rattle.rs_code.specs.Mending.{zero_places, points_of, points_sum, with_errors}
use Rattle.rs_code.proofs.Powers.{power-suc, power-zero, power-add}
use Rattle.rs_code.proofs.PowerSums.{power_sum-cons, power_sum-empty, power_sum-cons_zero}
use Rattle.rs_code.proofs.Distance.{difference}
use Rattle.rs_code.proofs.ZeroPlaces.{chosen_if, chosen_unless, zero_places-zero, zero_places-other, zero_places-none}

-- the bytes of a word at the points where a polynomial is 0
pub gathered : List ℕ → List ℕ → List ℕ
gathered cs [] = []
gathered cs (b ∷ bs) = cond (eqb (value_at cs (element_power 2 (length bs))) 0) (b ∷ gathered cs bs) (gathered cs bs)

gathered-zero :
    (cs : List ℕ) (b : ℕ) (bs : List ℕ) → value_at cs (element_power 2 (length bs)) ≡ 0
    → gathered cs (b ∷ bs) ≡ b ∷ gathered cs bs
unfolding gathered
gathered-zero cs b bs e =
    chosen_if (value_at cs (element_power 2 (length bs))) (b ∷ gathered cs bs) (gathered cs bs) e

gathered-other :
    (cs : List ℕ) (b : ℕ) (bs : List ℕ) → (value_at cs (element_power 2 (length bs)) ≡ 0 → ⊥)
    → gathered cs (b ∷ bs) ≡ gathered cs bs
unfolding gathered
gathered-other cs b bs n =
    chosen_unless (value_at cs (element_power 2 (length bs))) (b ∷ gathered cs bs) (gathered cs bs) n

-- each byte is 0, or the polynomial is 0 at its point
abbrev pub AreLocated : List ℕ → List ℕ → Type 0
AreLocated cs bs =
    (k place : ℕ) → k + suc place ≡ length bs
    → (get_or bs k 0 ≡ 0) ⊎ (value_at cs (element_power 2 place) ≡ 0)

located_behind : (cs : List ℕ) (b : ℕ) (bs : List ℕ) → AreLocated cs (b ∷ bs) → AreLocated cs bs
located_behind cs b bs are k place e = are (suc k) place (omega arith)

located_first :
    (cs : List ℕ) (b : ℕ) (bs : List ℕ) → AreLocated cs (b ∷ bs) → (value_at cs (element_power 2 (length bs)) ≡ 0 → ⊥)
    → b ≡ 0
located_first cs b bs are other = elim (are 0 (length bs) (omega arith)) [
  | inl none ↦ none
  | inr root ↦ absurd (other root)
]

pub length-gathered : (cs bs : List ℕ) → length (gathered cs bs) ≡ length (zero_places cs (length bs))
unfolding gathered
length-gathered cs [] = sym (ap length (zero_places-none cs))
length-gathered cs (b ∷ bs) = elim (cases_eq (value_at cs (element_power 2 (length bs))) 0) [
  | inl root ↦
      ap length (gathered-zero cs b bs root)
      ∙ ap suc (length-gathered cs bs)
      ∙ sym (ap length (zero_places-zero cs (length bs) root))
  | inr other ↦
      ap length (gathered-other cs b bs other)
      ∙ length-gathered cs bs
      ∙ sym (ap length (zero_places-other cs (length bs) other))
]

gathered-fits_none : (cs : List ℕ) (i : ℕ) → get_or (gathered cs []) i 0 < 256
unfolding gathered
gathered-fits_none cs i = lit< tt

fits_cons :
    (b : ℕ) (bs : List ℕ) → b < 256 → ((i : ℕ) → get_or bs i 0 < 256) → (i : ℕ) → get_or (b ∷ bs) i 0 < 256
fits_cons b bs h h' zero = h
fits_cons b bs h h' (suc i) = h' i

pub gathered-fits :
    (cs bs : List ℕ) → ((k : ℕ) → get_or bs k 0 < 256) → (i : ℕ) → get_or (gathered cs bs) i 0 < 256
gathered-fits cs [] bytes i = gathered-fits_none cs i
gathered-fits cs (b ∷ bs) bytes i = elim (cases_eq (value_at cs (element_power 2 (length bs))) 0) [
  | inl root ↦
      rw (gathered-zero cs b bs root) (fits_cons b (gathered cs bs) (bytes 0) (gathered-fits cs bs (λ k. bytes (suc k))) i)
  | inr other ↦ rw (gathered-other cs b bs other) (gathered-fits cs bs (λ k. bytes (suc k)) i)
]

-- errors, each times the power that goes with its place
pub raised_errors : ℕ → List ℕ → List ℕ → List ℕ
raised_errors first [] es = []
raised_errors first (p ∷ ps) [] = []
raised_errors first (p ∷ ps) (e ∷ es) = element_product e (element_power 2 (first * p)) ∷ raised_errors first ps es

pub length-raised_errors :
    (first : ℕ) (ps es : List ℕ) → length es ≡ length ps → length (raised_errors first ps es) ≡ length ps
unfolding raised_errors
length-raised_errors first [] es l = refl
length-raised_errors first (p ∷ ps) [] l = absurd (omega arith)
length-raised_errors first (p ∷ ps) (e ∷ es) l = ap suc (length-raised_errors first ps es (omega arith))

pub raised_errors-fits :
    (F : IsField 391) (first : ℕ) (ps es : List ℕ) (i : ℕ) → get_or (raised_errors first ps es) i 0 < 256
unfolding raised_errors
raised_errors-fits F first [] es i = lit< tt
raised_errors-fits F first (p ∷ ps) [] i = lit< tt
raised_errors-fits F first (p ∷ ps) (e ∷ es) zero = F.product_fits e (element_power 2 (first * p))
raised_errors-fits F first (p ∷ ps) (e ∷ es) (suc i) = raised_errors-fits F first ps es i

pub get_or-raised_errors :
    (first : ℕ) (ps es : List ℕ) (i : ℕ) → length es ≡ length ps → i < length ps
    → get_or (raised_errors first ps es) i 0 ≡ element_product (get_or es i 0) (element_power 2 (first * get_or ps i 0))
unfolding raised_errors
get_or-raised_errors first [] es i l h = absurd (omega arith)
get_or-raised_errors first (p ∷ ps) [] i l h = absurd (omega arith)
get_or-raised_errors first (p ∷ ps) (e ∷ es) zero l h = refl
get_or-raised_errors first (p ∷ ps) (e ∷ es) (suc i) l h = get_or-raised_errors first ps es i (omega arith) (omega arith)

pub power-power : (F : IsField 391) (a m n : ℕ) → element_power a (n * m) ≡ element_power (element_power a m) n
power-power F a m zero =
    ap (element_power a) (let e : 0 * m ≡ 0 = omega arith in e) ∙ power-zero a ∙ sym (power-zero (element_power a m))
power-power F a m (suc n) =
    ap (element_power a) (let e : suc n * m ≡ n * m + m = omega arith in e)
    ∙ power-add F a (n * m) m
    ∙ ap (λ (x : ℕ). element_product x (element_power a m)) (power-power F a m n)
    ∙ sym (power-suc (element_power a m) n)

-- the power sums of a word are the sums of its raised errors at their points
pub sums_of_errors :
    (F : IsField 391) (cs bs : List ℕ) (first n : ℕ) → AreLocated cs bs
    → power_sum bs (first + n)
    ≡ points_sum (points_of (zero_places cs (length bs))) (raised_errors first (zero_places cs (length bs)) (gathered cs bs)) n
unfolding gathered raised_errors points_of points_sum
sums_of_errors F cs [] first n are =
    power_sum-empty (first + n)
    ∙ sym (ap (λ (ps : List ℕ). points_sum (points_of ps) (raised_errors first ps []) n) (zero_places-none cs))
sums_of_errors F cs (b ∷ bs) first n are = elim (cases_eq (value_at cs (element_power 2 (length bs))) 0) [
  | inl root ↦
      power_sum-cons b bs (first + n)
      ∙ ap₂ bit_xor
      (ap (λ (m : ℕ). element_product b (element_power 2 m)) (let e : (first + n) * length bs ≡ first * length bs + n * length bs = omega arith in e)
      ∙ ap (element_product b) (power-add F 2 (first * length bs) (n * length bs))
      ∙ sym (F.product_assoc b (element_power 2 (first * length bs)) (element_power 2 (n * length bs)))
      ∙ ap (element_product (element_product b (element_power 2 (first * length bs)))) (power-power F 2 (length bs) n))
      (sums_of_errors F cs bs first n (located_behind cs b bs are))
      ∙ sym (ap₂ (λ (ps es : List ℕ). points_sum (points_of ps) (raised_errors first ps es) n)
      (zero_places-zero cs (length bs) root) (gathered-zero cs b bs root))
  | inr other ↦
      ap (λ (a : ℕ). power_sum (a ∷ bs) (first + n)) (located_first cs b bs are other)
      ∙ power_sum-cons_zero F bs (first + n)
      ∙ sums_of_errors F cs bs first n (located_behind cs b bs are)
      ∙ sym (ap₂ (λ (ps es : List ℕ). points_sum (points_of ps) (raised_errors first ps es) n)
      (zero_places-other cs (length bs) other) (gathered-other cs b bs other))
]

with_errors-cons :
    (front : List ℕ) (b e place : ℕ) (bs ps es : List ℕ) → length bs ≡ place
    → with_errors (front ++ b ∷ bs) (place ∷ ps) (e ∷ es) ≡ with_errors (front ++ bit_xor b e ∷ bs) ps es
unfolding with_errors
with_errors-cons front b e place bs ps es l =
    let n : length (front ++ b ∷ bs) - 1 - place ≡ length front = let m = length-append front (b ∷ bs) in omega arith in
    ap (λ (w : List ℕ). with_errors w ps es)
    (ap (λ (i : ℕ). set (front ++ b ∷ bs) i (bit_xor (get_or (front ++ b ∷ bs) i 0) e)) n
    ∙ ap (λ (a : ℕ). set (front ++ b ∷ bs) (length front) (bit_xor a e)) (get_or_at front b bs 0 (length front) refl)
    ∙ set_at front b bs (bit_xor b e) (length front) refl)

pub with_errors-none : (word es : List ℕ) → with_errors word [] es ≡ word
unfolding with_errors
with_errors-none word es = refl

-- one more error is added
pub with_errors-next :
    (word places errors : List ℕ) (i place e n : ℕ) → i < length places → i < length errors → get_or places i 0 ≡ place
    → get_or errors i 0 ≡ e → length word ≡ n
    → with_errors (set word (n - 1 - place) (bit_xor (get_or word (n - 1 - place) 0) e)) (drop (i + 1) places) (drop (i + 1) errors)
    ≡ with_errors word (drop i places) (drop i errors)
unfolding with_errors
with_errors-next word places errors i place e n h h' is_place is_error long =
    ap₂ (λ (ps es : List ℕ). with_errors (set word (n - 1 - place) (bit_xor (get_or word (n - 1 - place) 0) e)) ps es)
    (ap (λ (k : ℕ). drop k places) (add-one i)) (ap (λ (k : ℕ). drop k errors) (add-one i))
    ∙ ap (λ (m : ℕ). with_errors (set word (m - 1 - place) (bit_xor (get_or word (m - 1 - place) 0) e)) (drop (suc i) places) (drop (suc i) errors)) (sym long)
    ∙ ap₂ (λ (p d : ℕ). with_errors (set word (length word - 1 - p) (bit_xor (get_or word (length word - 1 - p) 0) d)) (drop (suc i) places) (drop (suc i) errors))
    (sym is_place) (sym is_error)
    ∙ sym (ap₂ (with_errors word) (drop-cons places i 0 h) (drop-cons errors i 0 h'))

-- the errors at the places where the polynomial is 0 are all errors
pub all_errors :
    (F : IsField 391) (cs front bs ds : List ℕ) → length ds ≡ length bs → AreLocated cs ds
    → with_errors (front ++ bs) (zero_places cs (length ds)) (gathered cs ds) ≡ front ++ difference bs ds
unfolding difference
all_errors F cs front [] [] l are =
    ap (λ (ps : List ℕ). with_errors (front ++ []) ps (gathered cs [])) (zero_places-none cs)
    ∙ with_errors-none (front ++ []) (gathered cs [])
all_errors F cs front [] (d ∷ ds) l are = absurd (omega arith)
all_errors F cs front (b ∷ bs) [] l are = absurd (omega arith)
all_errors F cs front (b ∷ bs) (d ∷ ds) l are = elim (cases_eq (value_at cs (element_power 2 (length ds))) 0) [
  | inl root ↦
      ap₂ (with_errors (front ++ b ∷ bs)) (zero_places-zero cs (length ds) root) (gathered-zero cs d ds root)
      ∙ with_errors-cons front b d (length ds) bs (zero_places cs (length ds)) (gathered cs ds) (omega arith)
      ∙ ap (λ (w : List ℕ). with_errors w (zero_places cs (length ds)) (gathered cs ds)) (sym (append_assoc front (bit_xor b d ∷ []) bs))
      ∙ all_errors F cs (front ++ bit_xor b d ∷ []) bs ds (omega arith) (located_behind cs d ds are)
      ∙ append_assoc front (bit_xor b d ∷ []) (difference bs ds)
  | inr other ↦
      let none : bit_xor b d ≡ b = ap (bit_xor b) (located_first cs d ds are other) ∙ xor_zero_r b in
      ap₂ (with_errors (front ++ b ∷ bs)) (zero_places-other cs (length ds) other) (gathered-other cs d ds other)
      ∙ ap (λ (w : List ℕ). with_errors w (zero_places cs (length ds)) (gathered cs ds)) (sym (append_assoc front (b ∷ []) bs))
      ∙ all_errors F cs (front ++ b ∷ []) bs ds (omega arith) (located_behind cs d ds are)
      ∙ append_assoc front (b ∷ []) (difference bs ds)
      ∙ ap (λ (a : ℕ). front ++ a ∷ difference bs ds) (sym none)
]

-- the difference of a word and its difference from another is the other
pub difference-back : (xs ys : List ℕ) → length xs ≡ length ys → difference xs (difference xs ys) ≡ ys
unfolding difference
difference-back [] [] l = refl
difference-back [] (y ∷ ys) l = absurd (omega arith)
difference-back (x ∷ xs) [] l = absurd (omega arith)
difference-back (x ∷ xs) (y ∷ ys) l =
    ap₂ (λ (a : ℕ) (us : List ℕ). a ∷ us) (xor-cancel x y) (difference-back xs ys (omega arith))
