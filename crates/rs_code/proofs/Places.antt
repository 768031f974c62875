-- The bytes of a list by their places.
use Rattle.std.proofs.Common.{◌≡◌, ℕ, zero, suc, ◌<◌, List, [], ◌∷◌, ◌++◌, get_or, set, lit<, refl, arith}
use Rattle.std.proofs.lemmas.List.{get_or-set_other}

-- the bytes after the one that is written stay
pub set_keeps : (xs : List ℕ) (n i v : ℕ) → n < i → get_or (set xs n v) i 0 ≡ get_or xs i 0
set_keeps xs n i v h = get_or-set_other xs n i v 0 (λ e. absurd (omega arith))

pub get_or-push_zero : (xs : List ℕ) (k : ℕ) → get_or (xs ++ 0 ∷ []) k 0 ≡ get_or xs k 0
get_or-push_zero [] zero = refl
get_or-push_zero [] (suc k) = refl
get_or-push_zero (x ∷ xs) zero = refl
get_or-push_zero (x ∷ xs) (suc k) = get_or-push_zero xs k

pub bytes-append :
    (xs ys : List ℕ) → ((k : ℕ) → get_or xs k 0 < 256) → ((k : ℕ) → get_or ys k 0 < 256) → (k : ℕ)
    → get_or (xs ++ ys) k 0 < 256
bytes-append [] ys h h' k = h' k
bytes-append (x ∷ xs) ys h h' zero = h 0
bytes-append (x ∷ xs) ys h h' (suc k) = bytes-append xs ys (λ i. h (suc i)) h' k

pub bytes-front :
    (xs ys : List ℕ) → ((k : ℕ) → get_or (xs ++ ys) k 0 < 256) → (k : ℕ) → get_or xs k 0 < 256
bytes-front [] ys h k = lit< tt
bytes-front (x ∷ xs) ys h zero = h 0
bytes-front (x ∷ xs) ys h (suc k) = bytes-front xs ys (λ i. h (suc i)) k
