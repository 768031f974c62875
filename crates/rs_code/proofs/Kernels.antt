-- What the steps of the generator, of the rows and of the parity do to power sums.
use Rattle.std.proofs.Common.{◌≡◌, ℕ, zero, suc, ◌+◌, ◌*◌, ◌<◌, ◌≤◌, List, [], ◌∷◌, ◌++◌, length, get_or, take, refl, sym, ◌∙◌, ap, ap₂, arith, inl, inr, append_assoc, length-append}
use Rattle.std.specs.Int.Bits.{bit_xor, xor_zero_r}
use Rattle.std.proofs.lemmas.Bool.{cases_lt}
use Rattle.std.proofs.lemmas.List.{length-take-le}
use Rattle.std.proofs.lemmas.Nat.{xor_comm}
use Rattle.bit_fields.specs.Xors.{xor-cancel}
use Rattle.list_members.specs.Places.{get_or-front}
use Rattle.gf256_core.specs.Field.{IsField}
use Rattle.poly256.specs.Polynomial.{element_product, element_power, scaled_coefficients}
use Rattle.poly256.specs.Laws.{HasDegrees}
use Rattle.rs_code.specs.CodeWord.{power_sum}
use Rattle.rs_code.proofs.Powers.{power-zero, product-one}
use Rattle.rs_code.proofs.Places.{get_or-push_zero}
use Rattle.rs_code.proofs.PowerSums.{power_sum-cons, power_sum-empty, power_sum-cons_zero, power_sum-sum, power_sum-multiple, power_sum-append}

-- a word with 0 behind it
pub power_sum-push_zero :
    (F : IsField 391) (ws : List ℕ) (j : ℕ)
    → power_sum (ws ++ 0 ∷ []) j ≡ element_product (element_power 2 j) (power_sum ws j)
power_sum-push_zero F ws j =
    power_sum-append F ws (0 ∷ []) j
    ∙ ap₂ bit_xor
    (ap (λ (n : ℕ). element_product (element_power 2 n) (power_sum ws j)) (let e : j * 1 ≡ j = omega arith in e))
    (power_sum-cons_zero F [] j ∙ power_sum-empty j)
    ∙ xor_zero_r (element_product (element_power 2 j) (power_sum ws j))

-- a word with another byte behind it
pub power_sum-push :
    (F : IsField 391) (ws : List ℕ) (b j : ℕ) → b < 256
    → power_sum (ws ++ b ∷ []) j ≡ bit_xor (element_product (element_power 2 j) (power_sum ws j)) b
power_sum-push F ws b j fits =
    power_sum-append F ws (b ∷ []) j
    ∙ ap₂ bit_xor
    (ap (λ (n : ℕ). element_product (element_power 2 n) (power_sum ws j)) (let e : j * 1 ≡ j = omega arith in e))
    (power_sum-cons b [] j
    ∙ ap₂ bit_xor (ap (λ (n : ℕ). element_product b (element_power 2 n)) (let e : j * 0 ≡ 0 = omega arith in e)
    ∙ ap (element_product b) (power-zero 2) ∙ product-one F b fits) (power_sum-empty j)
    ∙ xor_zero_r b)

behind_first :
    (F : IsField 391) (D : HasDegrees) (a : ℕ) (ws : List ℕ) (k : ℕ)
    → get_or (0 ∷ scaled_coefficients a ws) k 0 ≡ element_product a (get_or (0 ∷ ws) k 0)
behind_first F D a ws zero = sym (F.product_zero_right a)
behind_first F D a ws (suc k) = D.scaled_coefficient a ws k

-- a word times x + a
pub power_sum-root :
    (F : IsField 391) (D : HasDegrees) (a : ℕ) (ws vs : List ℕ) (j : ℕ) → length vs ≡ suc (length ws)
    → ((k : ℕ) → get_or vs k 0 ≡ bit_xor (get_or ws k 0) (element_product a (get_or (0 ∷ ws) k 0)))
    → power_sum vs j ≡ element_product (bit_xor (element_power 2 j) a) (power_sum ws j)
power_sum-root F D a ws vs j l e =
    let long : length (ws ++ 0 ∷ []) ≡ length vs = let p = length-append ws (0 ∷ []) in omega arith in
    let long' : length (0 ∷ scaled_coefficients a ws) ≡ length vs = let p = D.scaled_length a ws in omega arith in
    let behind : (k : ℕ) → get_or (0 ∷ scaled_coefficients a ws) k 0 ≡ element_product a (get_or (0 ∷ ws) k 0) = behind_first F D a ws in
    power_sum-sum F vs (ws ++ 0 ∷ []) (0 ∷ scaled_coefficients a ws) long long'
    (λ k. e k ∙ sym (ap₂ bit_xor (get_or-push_zero ws k) (behind k))) j
    ∙ ap₂ bit_xor (power_sum-push_zero F ws j)
    (power_sum-cons_zero F (scaled_coefficients a ws) j
    ∙ power_sum-multiple F a (scaled_coefficients a ws) ws (sym (D.scaled_length a ws)) (D.scaled_coefficient a ws) j)
    ∙ sym (F.distributive (element_power 2 j) a (power_sum ws j))

-- the coefficients of a polynomial of degree d, in a longer list, times x + a
pub record TakesRoot (a degree : ℕ) (old new : List ℕ) : Type 0 where
  pub room : degree < length old
  pub long : length new ≡ length old
  pub written :
      (k : ℕ) → k ≤ degree → get_or new k 0 ≡ bit_xor (get_or old k 0) (element_product a (get_or (1 ∷ old) k 0))
  pub kept : (k : ℕ) → degree < k → get_or new k 0 ≡ get_or old k 0
  pub zeros : (k : ℕ) → degree ≤ k → get_or old k 0 ≡ 0

written_all :
    (F : IsField 391) (a degree : ℕ) (old new : List ℕ) → TakesRoot a degree old new → (k : ℕ)
    → get_or new k 0 ≡ bit_xor (get_or old k 0) (element_product a (get_or (1 ∷ old) k 0))
written_all F a degree old new t zero = t.written 0 (omega arith)
written_all F a degree old new t (suc k) = elim (cases_lt degree (suc k)) [
  | inl behind ↦
      t.kept (suc k) behind
      ∙ sym (ap (bit_xor (get_or old (suc k) 0)) (ap (element_product a) (t.zeros k (omega arith)) ∙ F.product_zero_right a)
      ∙ xor_zero_r (get_or old (suc k) 0))
  | inr inside ↦ t.written (suc k) inside
]

pub zeros-root :
    (F : IsField 391) (a degree : ℕ) (old new : List ℕ) → TakesRoot a degree old new → (k : ℕ) → degree + 1 ≤ k
    → get_or new k 0 ≡ 0
zeros-root F a degree old new t zero h = absurd (omega arith)
zeros-root F a degree old new t (suc k) h =
    written_all F a degree old new t (suc k)
    ∙ ap₂ bit_xor (t.zeros (suc k) (omega arith))
    (ap (element_product a) (t.zeros k (omega arith)) ∙ F.product_zero_right a)
    ∙ xor_zero_r 0

front_places :
    (degree : ℕ) (old : List ℕ) → degree ≤ length old → ((k : ℕ) → degree ≤ k → get_or old k 0 ≡ 0) → (k : ℕ)
    → get_or (1 ∷ take degree old) k 0 ≡ get_or (1 ∷ old) k 0
front_places degree old h zeros zero = refl
front_places degree old h zeros (suc k) = get_or-front degree old zeros k

word_places :
    (F : IsField 391) (a degree : ℕ) (old new : List ℕ) → TakesRoot a degree old new → (k : ℕ)
    → get_or (1 ∷ take (degree + 1) new) k 0
    ≡ bit_xor (get_or (1 ∷ take degree old) k 0) (element_product a (get_or (0 ∷ 1 ∷ take degree old) k 0))
word_places F a degree old new t zero = sym (ap (bit_xor 1) (F.product_zero_right a) ∙ xor_zero_r 1)
word_places F a degree old new t (suc k) =
    let room = t.room in
    get_or-front (degree + 1) new (zeros-root F a degree old new t) k
    ∙ written_all F a degree old new t k
    ∙ sym (ap₂ bit_xor (get_or-front degree old t.zeros k)
    (ap (element_product a) (front_places degree old (omega arith) t.zeros k)))

pub power_sum-takes_root :
    (F : IsField 391) (D : HasDegrees) (a degree : ℕ) (old new : List ℕ) → TakesRoot a degree old new → (j : ℕ)
    → power_sum (1 ∷ take (degree + 1) new) j
    ≡ element_product (bit_xor (element_power 2 j) a) (power_sum (1 ∷ take degree old) j)
power_sum-takes_root F D a degree old new t j =
    let room = t.room in
    let l : length (take (degree + 1) new) ≡ degree + 1 = length-take-le (degree + 1) new (let l = t.long in omega arith) in
    let l' : length (take degree old) ≡ degree = length-take-le degree old (omega arith) in
    power_sum-root F D a (1 ∷ take degree old) (1 ∷ take (degree + 1) new) j (omega arith) (word_places F a degree old new t)

multiple_places :
    (F : IsField 391) (byte : ℕ) (row product : List ℕ) → byte < 256
    → ((k : ℕ) → get_or product k 0 ≡ element_product byte (get_or row k 0)) → (k : ℕ)
    → get_or (byte ∷ product) k 0 ≡ element_product byte (get_or (1 ∷ row) k 0)
multiple_places F byte row product h e zero = sym (F.product_comm byte 1 ∙ F.product_one byte h)
multiple_places F byte row product h e (suc k) = e k

-- a row, behind its byte, makes a word that is 0 at 2 raised to j
pub record IsRow (roots j byte : ℕ) (row : List ℕ) : Type 0 where
  pub long : length row ≡ roots
  pub zero : power_sum (byte ∷ row) j ≡ 0

-- a row times an element is a row
pub IsRow-multiple :
    (F : IsField 391) (roots j byte : ℕ) (row product : List ℕ) → byte < 256 → length row ≡ roots → length product ≡ roots
    → ((k : ℕ) → get_or product k 0 ≡ element_product byte (get_or row k 0)) → power_sum (1 ∷ row) j ≡ 0
    → IsRow roots j byte product
IsRow-multiple F roots j byte row product h l l' e zero_sum = record {
  long = l';
  zero =
      power_sum-multiple F byte (byte ∷ product) (1 ∷ row) (let m : suc (length row) ≡ suc (length product) = omega arith in m)
      (multiple_places F byte row product h e) j
      ∙ ap (element_product byte) zero_sum
      ∙ F.product_zero_right byte;
}

step_places :
    (b byte : ℕ) (rest next row : List ℕ) → byte ≡ bit_xor b (get_or rest 0 0)
    → ((k : ℕ) → get_or next k 0 ≡ bit_xor (get_or rest (k + 1) 0) (get_or row k 0)) → (k : ℕ)
    → get_or (b ∷ next) k 0 ≡ bit_xor (get_or (rest ++ 0 ∷ []) k 0) (get_or (byte ∷ row) k 0)
step_places b byte rest next row e places zero =
    sym (ap₂ bit_xor (get_or-push_zero rest 0) (e ∙ xor_comm b (get_or rest 0 0)) ∙ xor-cancel (get_or rest 0 0) b)
step_places b byte rest next row e places (suc k) =
    places k
    ∙ ap (λ (n : ℕ). bit_xor n (get_or row k 0))
    (ap (λ (n : ℕ). get_or rest n 0) (let m : k + 1 ≡ suc k = omega arith in m) ∙ sym (get_or-push_zero rest (suc k)))

-- one more byte of a message
pub power_sum-step :
    (F : IsField 391) (roots j b byte : ℕ) (front rest next row : List ℕ) → length rest ≡ roots → length next ≡ roots
    → byte ≡ bit_xor b (get_or rest 0 0)
    → ((k : ℕ) → get_or next k 0 ≡ bit_xor (get_or rest (k + 1) 0) (get_or row k 0)) → IsRow roots j byte row
    → power_sum (front ++ rest) j ≡ 0 → power_sum ((front ++ b ∷ []) ++ next) j ≡ 0
power_sum-step F roots j b byte front rest next row l l' e places r zero_sum =
    let long : length (rest ++ 0 ∷ []) ≡ length (b ∷ next) = let p = length-append rest (0 ∷ []) in omega arith in
    let long' : length (byte ∷ row) ≡ length (b ∷ next) = let p = r.long in omega arith in
    let behind : power_sum (b ∷ next) j ≡ power_sum (rest ++ 0 ∷ []) j =
    power_sum-sum F (b ∷ next) (rest ++ 0 ∷ []) (byte ∷ row) long long' (step_places b byte rest next row e places) j
    ∙ ap (bit_xor (power_sum (rest ++ 0 ∷ []) j)) r.zero
    ∙ xor_zero_r (power_sum (rest ++ 0 ∷ []) j) in
    ap (λ (w : List ℕ). power_sum w j) (append_assoc front (b ∷ []) next)
    ∙ power_sum-append F front (b ∷ next) j
    ∙ ap₂ bit_xor
    (ap (λ (n : ℕ). element_product (element_power 2 (j * n)) (power_sum front j)) (sym long)) behind
    ∙ sym (power_sum-append F front (rest ++ 0 ∷ []) j)
    ∙ ap (λ (w : List ℕ). power_sum w j) (sym (append_assoc front rest (0 ∷ [])))
    ∙ power_sum-push_zero F (front ++ rest) j
    ∙ ap (element_product (element_power 2 j)) zero_sum
    ∙ F.product_zero_right (element_power 2 j)
