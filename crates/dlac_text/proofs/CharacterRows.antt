-- The table of characters has that of each code, or 0.
use Rattle.std.specs.Prelude.{◌&&◌, ◌==◌}
use Rattle.std.proofs.Common.{◌≡◌, ◌≢◌, ℕ, zero, suc, ◌+◌, ◌<◌, Bool, true, false, IsTrue, List, [], ◌∷◌, length, get_or, refl, ap, ◌∙◌, arith}
use Rattle.std.proofs.lemmas.Bool.{and_parts, eqb-true}
use Rattle.std.proofs.lemmas.Bool.Decides.{nat_tests}
use Rattle.dlac_text.specs.Alphabet.{character_of, character_or_zero, is_in_alphabet, IsDlac}
use Rattle.dlac_text.specs.declared.alphabet.TheConstants.{CHARACTERS}

-- the row at each place, from `code` on, is the character of that code, or 0
have_characters : ℕ → List ℕ → Bool
have_characters code [] = true
have_characters code (row ∷ rows) = (row == character_or_zero code) && have_characters (suc code) rows

characters_from_test : (code : ℕ) (rows : List ℕ) → have_characters code rows ≡ true → (i : ℕ) → i < length rows → get_or rows i 0 ≡ character_or_zero (code + i)
unfolding have_characters
characters_from_test code [] e i h = absurd (omega arith)
characters_from_test code (row ∷ rows) e zero h =
    eqb-true row (character_or_zero code) (and_parts _ _ e).0 ∙ ap character_or_zero (let z : code ≡ code + 0 = omega arith in z)
characters_from_test code (row ∷ rows) e (suc i) h =
    characters_from_test (suc code) rows (and_parts _ _ e).1 i (omega arith) ∙ ap character_or_zero (let z : suc code + i ≡ code + suc i = omega arith in z)

rows_are_characters : have_characters 0 CHARACTERS ≡ true
unfolding have_characters
rows_are_characters = refl

pub row_is_character : (code : ℕ) → code < 64 → get_or CHARACTERS code 0 ≡ character_or_zero code
row_is_character code h = characters_from_test 0 CHARACTERS rows_are_characters code h ∙ ap character_or_zero (let z : 0 + code ≡ code = omega arith in z)

-- a code with a character is none of the three others
pub some_character : (code : ℕ) → character_or_zero code ≢ 0 → (code ≢ 0) × (code ≢ 28) × (code ≢ 29)
some_character code h = (λ e. h (ap character_or_zero e), λ e. h (ap character_or_zero e), λ e. h (ap character_or_zero e))

pub is_character : (code : ℕ) → code ≢ 0 → code ≢ 28 → code ≢ 29 → character_or_zero code ≡ character_of code
is_character code h i j =
    let zero : (code == 0) ≡ false = grind (arith, nat_tests) in
    let tab : (code == 28) ≡ false = grind (arith, nat_tests) in
    let end : (code == 29) ≡ false = grind (arith, nat_tests) in
    rw (zero, tab, end) refl

-- and its character is of the alphabet
pub character_in_alphabet : (code : ℕ) → code < 64 → code ≢ 0 → code ≢ 28 → code ≢ 29 → IsTrue (is_in_alphabet (character_of code))
character_in_alphabet code fits h i j = grind (arith, nat_tests)

some_in_alphabet : (code : ℕ) → code < 64 → character_or_zero code ≢ 0 → is_in_alphabet (character_or_zero code) ≡ true
some_in_alphabet code fits h =
    let known = some_character code h in
    rw (is_character code known.0 known.1 known.2) (character_in_alphabet code fits known.0 known.1 known.2)

-- the characters of four codes that have some
pub four_in_alphabet : (a b c d : ℕ) → a < 64 → b < 64 → c < 64 → d < 64 → (character_or_zero a ≢ 0) × (character_or_zero b ≢ 0) × (character_or_zero c ≢ 0) × (character_or_zero d ≢ 0)
    → IsDlac (character_or_zero a ∷ character_or_zero b ∷ character_or_zero c ∷ character_or_zero d ∷ [])
four_in_alphabet a b c d h i j k (p, q, r, s) = rw (some_in_alphabet a h p, some_in_alphabet b i q, some_in_alphabet c j r, some_in_alphabet d k s) refl
