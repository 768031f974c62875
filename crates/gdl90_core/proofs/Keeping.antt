-- What is kept of a piece, a byte later.
use Rattle.std.specs.Prelude.{MatchBool}
use Rattle.std.proofs.Common.{◌≡◌, ℕ, ◌+◌, ◌-◌, ◌<◌, ◌≤◌, Bool, true, false, List, [], ◌∷◌, ◌++◌, refl, sym, ◌∙◌, ap}
use Rattle.std.proofs.Common.{subst, arith, length, take, get_or, length-append}
use Rattle.std.proofs.lemmas.List.{take-append-le, take_more}
use Rattle.std.proofs.lemmas.List.Sums.{fold-append}
use Rattle.gdl90_core.specs.declared.piece_bytes.PieceBytes.{PieceBytes}
use Rattle.gdl90_core.specs.CheckSequence.{remainder, with_byte}
use Rattle.gdl90_core.specs.StandsFor.{Keeps, KeepsAll}

pub remainder-nil : remainder [] ≡ 0
unfolding remainder
remainder-nil = refl

pub remainder-push : (bytes : List ℕ) (byte : ℕ) → remainder (bytes ++ byte ∷ []) ≡ with_byte (remainder bytes) byte
unfolding remainder
remainder-push bytes byte = fold-append with_byte 0 bytes (byte ∷ [])

-- the bytes but the last two, a byte later
front-push :
    (bytes : List ℕ) (byte : ℕ) → 2 ≤ length bytes
    → take (length (bytes ++ byte ∷ []) - 2) (bytes ++ byte ∷ [])
    ≡ take (length bytes - 2) bytes ++ get_or bytes (length bytes - 2) 0 ∷ []
front-push bytes byte two =
    let size : length (bytes ++ byte ∷ []) ≡ length bytes + 1 = length-append bytes (byte ∷ []) in
    let e : length (bytes ++ byte ∷ []) - 2 ≡ (length bytes - 2) + 1 = omega arith in
    let short : (length bytes - 2) + 1 ≤ length bytes = omega arith in
    let place : length bytes - 2 < length bytes = omega arith in
    ap (λ (n : ℕ). take n (bytes ++ byte ∷ [])) e
    ∙ take-append-le ((length bytes - 2) + 1) bytes (byte ∷ []) short
    ∙ take_more bytes (length bytes - 2) 0 place

-- of at most two bytes the front is empty
front-short : (bytes : List ℕ) (byte : ℕ) → length bytes < 2
    → take (length (bytes ++ byte ∷ []) - 2) (bytes ++ byte ∷ []) ≡ take (length bytes - 2) bytes
front-short bytes byte short =
    let size : length (bytes ++ byte ∷ []) ≡ length bytes + 1 = length-append bytes (byte ∷ []) in
    let e : length (bytes ++ byte ∷ []) - 2 ≡ 0 = omega arith in
    let z : length bytes - 2 ≡ 0 = omega arith in
    ap (λ (n : ℕ). take n (bytes ++ byte ∷ [])) e ∙ sym (ap (λ (n : ℕ). take n bytes) z)

longer : (bytes : List ℕ) (byte : ℕ) → 1024 < length bytes → 1024 < length (bytes ++ byte ∷ [])
longer bytes byte long = omega (arith, length-append bytes (byte ∷ []))

-- a byte more, where there were two before
pub push_long :
    (old new : PieceBytes) (byte before : ℕ) → 2 ≤ length old.bytes.items → new.too_long ≡ old.too_long
    → new.bytes.items ≡ old.bytes.items ++ byte ∷ [] → before ≡ get_or old.bytes.items (length old.bytes.items - 2) 0
    → new.remainder ≡ with_byte old.remainder before
    → (bytes : List ℕ) → Keeps old bytes → Keeps new (bytes ++ byte ∷ [])
push_long old new byte before two same items read rest bytes keeps =
    let P : Bool → Type 0 = λ b. MatchBool b (1024 < length (bytes ++ byte ∷ [])) (KeepsAll new (bytes ++ byte ∷ [])) in
    subst P (sym same) (at old.too_long keeps)
  where
    all : KeepsAll old bytes → KeepsAll new (bytes ++ byte ∷ [])
    all kept = record {
      bytes_are = items ∙ ap (λ (xs : List ℕ). xs ++ byte ∷ []) kept.bytes_are;
      remainder_is =
          let two' : 2 ≤ length bytes = omega (arith, ap length kept.bytes_are, two) in
          rest ∙ ap (λ (r : ℕ). with_byte r before) kept.remainder_is
          ∙ ap (with_byte (remainder (take (length bytes - 2) bytes)))
          (read ∙ ap (λ (xs : List ℕ). get_or xs (length xs - 2) 0) kept.bytes_are)
          ∙ sym (remainder-push (take (length bytes - 2) bytes) (get_or bytes (length bytes - 2) 0))
          ∙ sym (ap remainder (front-push bytes byte two'));
    }

    at : (b : Bool) → MatchBool b (1024 < length bytes) (KeepsAll old bytes)
        → MatchBool b (1024 < length (bytes ++ byte ∷ [])) (KeepsAll new (bytes ++ byte ∷ []))
    at true long = longer bytes byte long
    at false kept = all kept

-- a byte more, where there were not two before
pub push_short :
    (old new : PieceBytes) (byte : ℕ) → length old.bytes.items < 2 → new.too_long ≡ old.too_long
    → new.bytes.items ≡ old.bytes.items ++ byte ∷ [] → new.remainder ≡ old.remainder
    → (bytes : List ℕ) → Keeps old bytes → Keeps new (bytes ++ byte ∷ [])
push_short old new byte short same items rest bytes keeps =
    let P : Bool → Type 0 = λ b. MatchBool b (1024 < length (bytes ++ byte ∷ [])) (KeepsAll new (bytes ++ byte ∷ [])) in
    subst P (sym same) (at old.too_long keeps)
  where
    all : KeepsAll old bytes → KeepsAll new (bytes ++ byte ∷ [])
    all kept = record {
      bytes_are = items ∙ ap (λ (xs : List ℕ). xs ++ byte ∷ []) kept.bytes_are;
      remainder_is =
          let short' : length bytes < 2 = omega (arith, ap length kept.bytes_are, short) in
          rest ∙ kept.remainder_is ∙ sym (ap remainder (front-short bytes byte short'));
    }

    at : (b : Bool) → MatchBool b (1024 < length bytes) (KeepsAll old bytes)
        → MatchBool b (1024 < length (bytes ++ byte ∷ [])) (KeepsAll new (bytes ++ byte ∷ []))
    at true long = longer bytes byte long
    at false kept = all kept
