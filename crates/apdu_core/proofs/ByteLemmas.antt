-- A number as bytes, and bytes as they are read one after another.
use Rattle.std.proofs.Common.{◌≡◌, ℕ, zero, suc, ◌+◌, ◌*◌, ◌/◌, ◌%◌, ◌^◌, ◌<◌, List, [], ◌∷◌, ◌++◌, length, take, get_or, refl, sym, ap, ◌∙◌, arith}
use Rattle.std.proofs.Math.Nat.{div-one, pow-suc, mod-eq_of_lt}
use Rattle.std.proofs.lemmas.Nat.{pow-add, mod-pow-add, same_from_place}
use Rattle.std.proofs.lemmas.List.{take_more}
use Rattle.std.proofs.lemmas.List.Elements.{All-tail}
use Rattle.std.specs.Int.{byte_at, bytes_high_first}
use Rattle.bit_fields.specs.Bits.{number_of}
use Rattle.bit_fields.specs.BytesAsNumbers.{IsByte, bytes_high_first-bytes, eight_more, number_of-cons, number_of-append, number_of-fits}
use Rattle.apdu_core.specs.Spelling.{AreBytes}

pow256 : (n : ℕ) → 256 ^ n ≡ 2 ^ (8 * n)
pow256 zero = refl
pow256 (suc n) =
    let rest = pow256 n in
    let more = eight_more n in
    let step = pow-suc 256 n in
    omega arith

pub length-bytes_high_first : (n x : ℕ) → length (bytes_high_first n x) ≡ n
length-bytes_high_first zero x = refl
length-bytes_high_first (suc n) x = let e = length-bytes_high_first n x in omega (arith, e)

-- a byte of a number, by its place
byte_at-pow : (k x : ℕ) → byte_at k x ≡ x / 2 ^ (8 * k) % 2 ^ 8
byte_at-pow zero x = ap (λ (y : ℕ). y % 256) (sym (div-one x))
byte_at-pow (suc k) x = ap (λ (p : ℕ). x / p % 256) (pow256 (suc k))

-- the bytes of a number make its lowest part
pub number_of-bytes : (n x : ℕ) → number_of (bytes_high_first n x) ≡ x % 2 ^ (8 * n)
number_of-bytes zero x = omega arith
number_of-bytes (suc n) x =
    let e : 8 * suc n ≡ 8 + 8 * n = omega arith in
    number_of-cons (byte_at n x) (bytes_high_first n x)
    ∙ ap (λ (k : ℕ). byte_at n x * 2 ^ (8 * k) + number_of (bytes_high_first n x)) (length-bytes_high_first n x)
    ∙ ap (λ (b : ℕ). b * 2 ^ (8 * n) + number_of (bytes_high_first n x)) (byte_at-pow n x)
    ∙ ap (λ (r : ℕ). x / 2 ^ (8 * n) % 2 ^ 8 * 2 ^ (8 * n) + r) (number_of-bytes n x)
    ∙ sym (mod-pow-add x 8 (8 * n))
    ∙ ap (λ (k : ℕ). x % 2 ^ k) (sym e)

-- bytes are known by their number
pub same_bytes : (xs ys : List ℕ) → AreBytes xs → AreBytes ys → length xs ≡ length ys → number_of xs ≡ number_of ys → xs ≡ ys
same_bytes [] [] h i l e = refl
same_bytes [] (y ∷ ys) h i l e = absurd (omega arith)
same_bytes (x ∷ xs) [] h i l e = absurd (omega arith)
same_bytes (x ∷ xs) (y ∷ ys) h i l e =
    let lengths : length ys ≡ length xs = omega arith in
    let fits : number_of ys < 2 ^ (8 * length xs) = rw (← lengths) (number_of-fits ys (All-tail IsByte y ys i)) in
    let other : number_of (y ∷ ys) ≡ y * 2 ^ (8 * length xs) + number_of ys = rw (← lengths) (number_of-cons y ys) in
    let both = same_from_place x (number_of xs) y (number_of ys) (2 ^ (8 * length xs)) (number_of-fits xs (All-tail IsByte x xs h)) fits
    (sym (number_of-cons x xs) ∙ e ∙ other) in
    let rest = same_bytes xs ys (All-tail IsByte x xs h) (All-tail IsByte y ys i) (sym lengths) both.1 in
    let first : x ≡ y = both.0 in
    cc

pub bytes_from_number : (xs : List ℕ) → AreBytes xs → bytes_high_first (length xs) (number_of xs) ≡ xs
bytes_from_number xs h =
    same_bytes (bytes_high_first (length xs) (number_of xs)) xs (bytes_high_first-bytes (length xs) (number_of xs)) h
    (length-bytes_high_first (length xs) (number_of xs))
    (number_of-bytes (length xs) (number_of xs) ∙ mod-eq_of_lt (number_of-fits xs h))

-- one byte more
pub number_of-more : (xs : List ℕ) (i n x : ℕ) → i < length xs → n ≡ number_of (take i xs) → x ≡ get_or xs i 0 → 256 * n + x ≡ number_of (take (i + 1) xs)
number_of-more xs i n x h e f =
    let front : take (i + 1) xs ≡ take i xs ++ get_or xs i 0 ∷ [] = take_more xs i 0 h in
    let number = number_of-append (take i xs) (get_or xs i 0 ∷ []) 0 in
    let shown : number_of (take (i + 1) xs) ≡ number_of (take i xs ++ get_or xs i 0 ∷ []) = ap number_of front in
    omega arith

pub fits_more : (i n x : ℕ) → n < 2 ^ (8 * i) → x < 256 → 256 * n + x < 2 ^ (8 * (i + 1))
fits_more i n x h k =
    let e : 8 * (i + 1) ≡ 8 + 8 * i = omega arith in
    let power : 2 ^ (8 * (i + 1)) ≡ 256 * 2 ^ (8 * i) = ap (λ (k : ℕ). 2 ^ k) e ∙ pow-add 2 8 (8 * i) in
    omega arith
