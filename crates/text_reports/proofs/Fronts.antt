-- Fronts of words: how they grow by a byte, and that they order words.
use Rattle.std.proofs.Common.{◌≡◌, ◌≢◌, ℕ, zero, suc, ◌+◌, ◌*◌, ◌^◌, ◌<◌, ◌≤◌, List, [], ◌∷◌, length, get_or, refl, arith, sym, ap, ◌∙◌, inl, inr}
use Rattle.std.proofs.Math.Nat.{pow-suc, mul_assoc, mul_comm, mul-suc, mul-le-mul_left, pow-le-pow_right}
use Rattle.std.proofs.lemmas.Bool.{cases_lt}
use Rattle.std.specs.Cmp.{nat_cmp_is}
use Rattle.std.specs.Cmp.Lexicographic.{slice_cmp}
use Rattle.std.specs.Ordering.{nat_cmp, ordering_reverse}
use Rattle.std.specs.declared.cmp.Ordering.{Ordering}
use Rattle.std.proofs.lemmas.Cmp.{nat_list_cmp_total}
use Rattle.std.specs.declared.cmp.Ordering.TheVariants.{Less, Equal, Greater}
use Rattle.text_reports.specs.Front.{front_number}

abbrev pub IsBytes : List ℕ → Type 0
IsBytes word = (k : ℕ) → get_or word k 0 < 256

add_digit : (a b x f digit : ℕ) → a ≡ x * 256 → b ≡ f * 256 + digit → a + b ≡ (x + f) * 256 + digit
add_digit a b x f digit e g = omega arith

-- one byte more is one digit more
pub front_more : (n : ℕ) (word : List ℕ) → front_number (suc n) word ≡ front_number n word * 256 + get_or word n 0
front_more zero [] = refl
front_more (suc n) [] = refl
front_more zero (byte ∷ more) = omega arith
front_more (suc n) (byte ∷ more) =
    let worth : byte * 256 ^ suc n ≡ byte * 256 ^ n * 256 = ap (λ p. byte * p) (pow-suc 256 n) ∙ sym (mul_assoc byte (256 ^ n) 256) in
    add_digit _ _ (byte * 256 ^ n) (front_number n more) (get_or more n 0) worth (front_more n more)

some_power : (n : ℕ) → 0 < 256 ^ n
some_power zero = omega arith
some_power (suc n) =
    let more = pow-suc 256 n in
    let some = some_power n in
    omega (arith, more, some)

-- a number with a greater first digit is greater
led_below : (p x y f g : ℕ) → f < p → x < y → x * p + f < y * p + g
led_below p x y f g small below =
    let times : p * suc x ≤ p * y = mul-le-mul_left p (omega arith) in
    let one_more = mul-suc p x in
    let first = mul_comm p x in
    let second = mul_comm p y in
    omega (arith, times, one_more, first, second)

pub front_fits : (n : ℕ) (word : List ℕ) → IsBytes word → front_number n word < 256 ^ n
front_fits zero word h = omega arith
front_fits (suc n) [] h = some_power (suc n)
front_fits (suc n) (byte ∷ more) h =
    let fits = front_fits n more (λ k. h (suc k)) in
    let led = led_below (256 ^ n) byte 256 (front_number n more) 0 fits (h 0) in
    let power = pow-suc 256 n in
    let turned = mul_comm (256 ^ n) 256 in
    omega (arith, led, power, turned)

behind_first : (p x y f g : ℕ) → x ≡ y → x * p + f < y * p + g → f < g
behind_first p x y f g equal below =
    let same : x * p ≡ y * p = ap (λ z. z * p) equal in
    omega (arith, same)

same_behind_first : (p x y f g : ℕ) → x ≡ y → x * p + f ≡ y * p + g → f ≡ g
same_behind_first p x y f g equal sums =
    let same : x * p ≡ y * p = ap (λ z. z * p) equal in
    omega (arith, same)

-- one more on both sides changes no order
longer : (m n : ℕ) → nat_cmp m n ≡ nat_cmp (suc m) (suc n)
longer m n =
    elim (cases_lt m n) [
      | inl less ↦ sym (nat_cmp_is m n Less less) ∙ nat_cmp_is (suc m) (suc n) Less (omega arith)
      | inr not_less ↦
          elim (cases_lt n m) [
            | inl more ↦ sym (nat_cmp_is m n Greater more) ∙ nat_cmp_is (suc m) (suc n) Greater (omega arith)
            | inr not_more ↦
                let equal : m ≡ n = omega arith in
                sym (nat_cmp_is m n Equal equal) ∙ nat_cmp_is (suc m) (suc n) Equal (omega arith)
          ]
    ]

-- words are in the order of their fronts, where these differ
front_below : (n : ℕ) (a b : List ℕ) → IsBytes a → IsBytes b → front_number n a < front_number n b → slice_cmp nat_cmp a b ≡ Less
front_below zero a b h k below = absurd (omega arith)
front_below (suc n) [] [] h k below = absurd (omega arith)
front_below (suc n) [] (y ∷ ys) h k below = refl
front_below (suc n) (x ∷ xs) [] h k below = absurd (omega arith)
front_below (suc n) (x ∷ xs) (y ∷ ys) h k below =
    elim (cases_lt x y) [
      | inl less ↦ rw (← nat_cmp_is x y Less less)
      | inr not_less ↦
          elim (cases_lt y x) [
            | inl more ↦ let led = led_below (256 ^ n) y x (front_number n ys) (front_number n xs) (front_fits n ys (λ i. k (suc i))) more in absurd (omega (arith, led))
            | inr same ↦
                let equal : x ≡ y = omega arith in
                let rest : front_number n xs < front_number n ys = behind_first (256 ^ n) x y _ _ equal below in
                rw (← nat_cmp_is x y Equal equal) (front_below n xs ys (λ i. h (suc i)) (λ i. k (suc i)) rest)
          ]
    ]

front_above : (n : ℕ) (a b : List ℕ) → IsBytes a → IsBytes b → front_number n b < front_number n a → slice_cmp nat_cmp a b ≡ Greater
front_above n a b h k above = nat_list_cmp_total.antisymm a b ∙ ap ordering_reverse (front_below n b a k h above)

-- the order of two fronts that differ is that of their words
pub front_told : (n : ℕ) (a b : List ℕ) (o : Ordering) → IsBytes a → IsBytes b → front_number n a ≢ front_number n b → o ≡ nat_cmp (front_number n a) (front_number n b) → o ≡ slice_cmp nat_cmp a b
front_told n a b o h k other told =
    elim (cases_lt (front_number n a) (front_number n b)) [
      | inl less ↦ told ∙ sym (nat_cmp_is _ _ Less less) ∙ sym (front_below n a b h k less)
      | inr not_less ↦ let more : front_number n b < front_number n a = omega (arith, other) in told ∙ sym (nat_cmp_is _ _ Greater more) ∙ sym (front_above n a b h k more)
    ]

-- words of equal fronts that are no longer than these are in the order of their lengths
pub front_same : (n : ℕ) (a b : List ℕ) → IsBytes a → IsBytes b → length a ≤ n → length b ≤ n → front_number n a ≡ front_number n b → slice_cmp nat_cmp a b ≡ nat_cmp (length a) (length b)
front_same n [] [] h k short small same = nat_cmp_is 0 0 Equal refl
front_same n [] (y ∷ ys) h k short small same = nat_cmp_is 0 (suc (length ys)) Less (omega arith)
front_same n (x ∷ xs) [] h k short small same = nat_cmp_is (suc (length xs)) 0 Greater (omega arith)
front_same zero (x ∷ xs) (y ∷ ys) h k short small same = absurd (omega arith)
front_same (suc n) (x ∷ xs) (y ∷ ys) h k short small same =
    let p = 256 ^ n in
    let one = front_fits n xs (λ i. h (suc i)) in
    let other = front_fits n ys (λ i. k (suc i)) in
    elim (cases_lt x y) [
      | inl less ↦ let led = led_below p x y (front_number n xs) (front_number n ys) one less in absurd (omega (arith, led, same))
      | inr not_less ↦
          elim (cases_lt y x) [
            | inl more ↦ let led = led_below p y x (front_number n ys) (front_number n xs) other more in absurd (omega (arith, led, same))
            | inr not_more ↦
                let equal : x ≡ y = omega arith in
                let rest : front_number n xs ≡ front_number n ys = same_behind_first p x y _ _ equal same in
                let ends = front_same n xs ys (λ i. h (suc i)) (λ i. k (suc i)) (omega arith) (omega arith) rest in
                rw (← nat_cmp_is x y Equal equal) (ends ∙ longer (length xs) (length ys))
          ]
    ]

-- eight digits to the base 256 are a number of 64 bits
pub digits_fit : (n number byte : ℕ) → n < 8 → number < 256 ^ n → byte < 256 → number * 256 + byte < 2 ^ 64
digits_fit n number byte below fits small =
    let power : 256 ^ n ≤ 256 ^ 7 = pow-le-pow_right {n = 256} (omega arith) {i = n} {j = 7} (omega arith) in
    omega (arith, power)
