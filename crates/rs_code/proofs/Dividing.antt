-- A multiple of a generator is taken away from a word: the power sums at its roots stay.
use Rattle.std.proofs.Common.{◌≡◌, ℕ, zero, suc, ◌+◌, ◌-◌, ◌*◌, ◌<◌, ◌≤◌, List, [], ◌∷◌, ◌++◌, length, get_or, take, drop, replicate, refl, sym, ◌∙◌, ap, ap₂, arith, drop-cons, add-one, length-append, length-drop, inl, inr}
use Rattle.std.specs.Int.Bits.{bit_xor, xor_zero_r, xor_self}
use Rattle.std.proofs.lemmas.List.{drop_at, length-take-le, length-replicate, ext_get_or, get_or_past}
use Rattle.std.proofs.lemmas.Bool.{cases_lt}
use Rattle.list_members.specs.Places.{get_or-zeros}
use Rattle.gf256_core.specs.Field.{IsField}
use Rattle.poly256.specs.Polynomial.{element_product, element_power, sum_of, scaled_coefficients, raised_coefficients}
use Rattle.poly256.specs.Laws.{HasDegrees}
use Rattle.rs_code.specs.CodeWord.{power_sum}
use Rattle.rs_code.proofs.PowerSums.{power_sum-cons_zero, power_sum-zeros, power_sum-sum, power_sum-append}
use Rattle.rs_code.proofs.Kernels.{IsRow, IsRow-multiple}

-- a list to whose members from a place on a multiple of a polynomial is added
pub same_as_multiple :
    (F : IsField 391) (D : HasDegrees) (old new list : List ℕ) (place f : ℕ) → length new ≡ length old → place + length list ≤ length old
    → ((k : ℕ) → k < length list → get_or new (place + k) 0 ≡ bit_xor (get_or old (place + k) 0) (element_product f (get_or list k 0)))
    → ((k : ℕ) → k < place → get_or new k 0 ≡ get_or old k 0)
    → ((k : ℕ) → place + length list ≤ k → get_or new k 0 ≡ get_or old k 0)
    → new ≡ sum_of old (raised_coefficients place (scaled_coefficients f list))
same_as_multiple F D old new list place f long room written before left =
    let r = D.raised_length place (scaled_coefficients f list) in
    let s = D.scaled_length f list in
    let l : length (sum_of old (raised_coefficients place (scaled_coefficients f list))) ≡ length old = D.sum_length old (raised_coefficients place (scaled_coefficients f list)) (omega arith) in
    ext_get_or 0 new (sum_of old (raised_coefficients place (scaled_coefficients f list))) (long ∙ sym l)
    (λ k h. elim (cases_lt k place) [
      | inl low ↦
          before k low
          ∙ sym (D.sum_coefficient old (raised_coefficients place (scaled_coefficients f list)) k
          ∙ ap (bit_xor (get_or old k 0)) (D.raised_below place (scaled_coefficients f list) k low) ∙ xor_zero_r (get_or old k 0))
      | inr high ↦
          let there : place + (k - place) ≡ k = omega arith in
          let term : get_or (sum_of old (raised_coefficients place (scaled_coefficients f list))) k 0 ≡ bit_xor (get_or old k 0) (element_product f (get_or list (k - place) 0)) =
          D.sum_coefficient old (raised_coefficients place (scaled_coefficients f list)) k
          ∙ ap (bit_xor (get_or old k 0))
          (ap (λ (n : ℕ). get_or (raised_coefficients place (scaled_coefficients f list)) n 0) (sym there)
          ∙ D.raised_coefficient place (scaled_coefficients f list) (k - place) ∙ D.scaled_coefficient f list (k - place)) in
          elim (cases_lt (k - place) (length list)) [
            | inl inside ↦
                ap (λ (n : ℕ). get_or new n 0) (sym there) ∙ written (k - place) inside
                ∙ ap (λ (n : ℕ). bit_xor (get_or old n 0) (element_product f (get_or list (k - place) 0))) there ∙ sym term
            | inr past ↦
                left k (omega arith)
                ∙ sym (term
                ∙ ap (bit_xor (get_or old k 0)) (ap (element_product f) (get_or_past list (k - place) 0 past) ∙ F.product_zero_right f)
                ∙ xor_zero_r (get_or old k 0))
          ]
    ])

get_or-zeros_behind : (xs : List ℕ) (n k : ℕ) → get_or (xs ++ replicate n 0) k 0 ≡ get_or xs k 0
get_or-zeros_behind [] n k = get_or-zeros n k
get_or-zeros_behind (x ∷ xs) n zero = refl
get_or-zeros_behind (x ∷ xs) n (suc k) = get_or-zeros_behind xs n k

-- the multiple of the generator that begins with an element is 0 at the roots
pub multiple-zero :
    (F : IsField 391) (D : HasDegrees) (byte j : ℕ) (row : List ℕ) → byte < 256 → power_sum (1 ∷ row) j ≡ 0
    → power_sum (byte ∷ scaled_coefficients byte row) j ≡ 0
multiple-zero F D byte j row fits root =
    let is : IsRow (length row) j byte (scaled_coefficients byte row) =
    IsRow-multiple F (length row) j byte row (scaled_coefficients byte row) fits refl (D.scaled_length byte row) (D.scaled_coefficient byte row) root in
    is.zero

taken-places :
    (D : HasDegrees) (b : ℕ) (back row : List ℕ) (n k : ℕ)
    → get_or (0 ∷ sum_of back row) k 0 ≡ bit_xor (get_or (b ∷ back) k 0) (get_or ((b ∷ row) ++ replicate n 0) k 0)
taken-places D b back row n zero = sym (xor_self b)
taken-places D b back row n (suc k) =
    D.sum_coefficient back row k ∙ ap (bit_xor (get_or back k 0)) (sym (get_or-zeros_behind row n k))

-- a row that is 0 with its byte is taken from what stands behind the byte, and the byte goes
pub taken_away :
    (F : IsField 391) (D : HasDegrees) (b j : ℕ) (back row : List ℕ) → length row ≤ length back → power_sum (b ∷ row) j ≡ 0
    → power_sum (sum_of back row) j ≡ power_sum (b ∷ back) j
taken_away F D b j back row h root =
    let l : length (b ∷ back) ≡ length (0 ∷ sum_of back row) = let m = D.sum_length back row h in omega arith in
    let l' : length ((b ∷ row) ++ replicate (length back - length row) 0) ≡ length (0 ∷ sum_of back row) =
    let m = D.sum_length back row h in
    let p = length-append (b ∷ row) (replicate (length back - length row) 0) in
    let q = length-replicate {A = ℕ} (length back - length row) 0 in omega arith in
    sym (power_sum-cons_zero F (sum_of back row) j)
    ∙ power_sum-sum F (0 ∷ sum_of back row) (b ∷ back) ((b ∷ row) ++ replicate (length back - length row) 0) l l'
    (taken-places D b back row (length back - length row)) j
    ∙ ap (bit_xor (power_sum (b ∷ back) j))
    (power_sum-append F (b ∷ row) (replicate (length back - length row) 0) j
    ∙ ap₂ bit_xor
    (ap (element_product (element_power 2 (j * length {A = ℕ} (replicate (length back - length row) 0)))) root
    ∙ F.product_zero_right (element_power 2 (j * length {A = ℕ} (replicate (length back - length row) 0))))
    (power_sum-zeros F (replicate (length back - length row) 0) (get_or-zeros (length back - length row)) j)
    ∙ xor_zero_r 0)
    ∙ xor_zero_r (power_sum (b ∷ back) j)

-- one step of a division
pub division-step :
    (F : IsField 391) (D : HasDegrees) (word front row : List ℕ) (place j : ℕ) → place + length row < length word
    → front ≡ take (place + 1) word → power_sum (get_or word place 0 ∷ row) j ≡ 0
    → power_sum (drop (place + 1) (front ++ sum_of (drop (place + 1) word) row)) j ≡ power_sum (drop place word) j
division-step F D word front row place j h is_front root =
    let inside : place < length word = omega arith in
    let long : length front ≡ place + 1 = ap length is_front ∙ length-take-le (place + 1) word (omega arith) in
    ap (λ (w : List ℕ). power_sum w j) (drop_at front (sum_of (drop (place + 1) word) row) (place + 1) long)
    ∙ taken_away F D (get_or word place 0) j (drop (place + 1) word) row
    (let l = length-drop (place + 1) word in omega arith) root
    ∙ ap (λ (w : List ℕ). power_sum w j)
    (ap (λ (n : ℕ). get_or word place 0 ∷ drop n word) (add-one place) ∙ sym (drop-cons word place 0 inside))

-- a front with the remainder of the front and zeros behind it
pub encoded-zero :
    (F : IsField 391) (front zeros rest : List ℕ) (j : ℕ) → length zeros ≡ length rest → ((k : ℕ) → get_or zeros k 0 ≡ 0)
    → power_sum rest j ≡ power_sum (front ++ zeros) j → power_sum (front ++ rest) j ≡ 0
encoded-zero F front zeros rest j l none same =
    power_sum-append F front rest j
    ∙ ap₂ bit_xor
    (ap (λ (n : ℕ). element_product (element_power 2 (j * n)) (power_sum front j)) (sym l))
    (same
    ∙ power_sum-append F front zeros j
    ∙ ap (bit_xor (element_product (element_power 2 (j * length zeros)) (power_sum front j))) (power_sum-zeros F zeros none j)
    ∙ xor_zero_r (element_product (element_power 2 (j * length zeros)) (power_sum front j)))
    ∙ xor_self (element_product (element_power 2 (j * length zeros)) (power_sum front j))
