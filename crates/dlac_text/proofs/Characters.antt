-- Texts of the alphabet: their first character outside it, and that their characters are their bytes.
use Rattle.std.proofs.Common.{ap, ◌≡◌, ℕ, ◌<◌, ◌≤◌, Bool, true, false, not, ltb, Some, None, List, length, get_or, sym, subst, ◌∙◌, arith}
use Rattle.std.proofs.lemmas.Bool.{not-false, not-true}
use Rattle.std.proofs.lemmas.Bool.Decides.{nat_tests}
use Rattle.std.proofs.lemmas.List.Folds.{list_all_at}
use Rattle.std.proofs.lemmas.List.Quantifiers.{position-Some}
use Rattle.std.proofs.lemmas.List.Sums.{list_all-from_AllPass, AllPass-from_list_all, fails_before_first}
use Rattle.std.proofs.lemmas.Str.{IsUtf8-from_ascii, encodes-chars, length-le-encodes, encodes-IsAscii}
use Rattle.std.proofs.lemmas.Str.Ascii.{IsAscii-from_all}
use Rattle.std.proofs.lemmas.List.Elements.{All-weaker}
use Rattle.std.specs.List.{list_all, position_or_len}
use Rattle.std.specs.Str.{chars, IsUtf8, IsAscii}
use Rattle.list_members.specs.Tests.{none_past_test}
use Rattle.dlac_text.specs.Alphabet.{is_in_alphabet, IsDlac}
use Rattle.dlac_text.specs.Refusal.{bad_character, too_long, first_bad, first_cause, longest_text, text_refusal}

abbrev is_bad : ℕ → Bool
is_bad character = not (is_in_alphabet character)

pub first_bad-None : (text : List ℕ) → first_bad text ≡ None → IsDlac text
first_bad-None text h =
    let none : ltb (position_or_len is_bad text) (length text) ≡ false = (none_past_test _ (position_or_len is_bad text) None h).0 in
    let past : length text ≤ position_or_len is_bad text = grind (arith, nat_tests) in
    list_all-from_AllPass is_in_alphabet text
    (λ k d l. not-false (is_in_alphabet (get_or text k d)) (fails_before_first is_bad text k d (omega arith)))

pub first_bad-Some : (text : List ℕ) (place : ℕ) → first_bad text ≡ Some place → list_all is_in_alphabet text ≡ false
first_bad-Some text place h =
    let at = position-Some is_bad text place 0 h in
    list_all_at is_in_alphabet text place 0 at.0 (not-true (is_in_alphabet (get_or text place 0)) at.1)

pub first_bad-place : (text : List ℕ) (place : ℕ) → first_bad text ≡ Some place → place < length text
first_bad-place text place h = (position-Some is_bad text place 0 h).0

ascii_character : (c : ℕ) → is_in_alphabet c ≡ true → c < 128
ascii_character c h = grind (arith, nat_tests)

pub IsDlac-IsAscii : (text : List ℕ) → IsDlac text → IsAscii text
IsDlac-IsAscii text h =
    IsAscii-from_all text (All-weaker (λ c. is_in_alphabet c ≡ true) (λ c. c < 128) ascii_character text (AllPass-from_list_all is_in_alphabet text h))

-- bytes of the alphabet are UTF-8
pub utf8_of_dlac : (text : List ℕ) → IsDlac text → IsUtf8 text
utf8_of_dlac text h = IsUtf8-from_ascii text (IsDlac-IsAscii text h)

-- a text whose characters are of the alphabet has them as its bytes
pub IsDlac-chars : (text : List ℕ) → IsUtf8 text → IsDlac (chars text) → chars text ≡ text
IsDlac-chars text u h = sym (encodes-IsAscii (chars text) (IsDlac-IsAscii (chars text) h)) ∙ encodes-chars text u

pub length-chars : (text : List ℕ) → IsUtf8 text → length (chars text) ≤ length text
length-chars text u = let P : List ℕ → Type 0 = λ t. length (chars text) ≤ length t in subst P (encodes-chars text u) (length-le-encodes (chars text))

pub text_refusal-bad : (text : List ℕ) (place : ℕ) → first_bad text ≡ Some place → text_refusal text ≡ Some (bad_character place)
unfolding text_refusal
text_refusal-bad text place h = ap (λ bad. first_cause bad (ltb longest_text (length text))) h

pub text_refusal-long : (text : List ℕ) → first_bad text ≡ None → longest_text < length text → text_refusal text ≡ Some too_long
unfolding text_refusal
text_refusal-long text h l =
    let long : ltb longest_text (length text) ≡ true = grind (arith, nat_tests) in
    ap (λ bad. first_cause bad (ltb longest_text (length text))) h ∙ ap (first_cause None) long

pub text_refusal-none : (text : List ℕ) → first_bad text ≡ None → length text ≤ longest_text → text_refusal text ≡ None
unfolding text_refusal
text_refusal-none text h l =
    let short : ltb longest_text (length text) ≡ false = grind (arith, nat_tests) in
    ap (λ bad. first_cause bad (ltb longest_text (length text))) h ∙ ap (first_cause None) short
