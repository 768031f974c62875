-- Which texts cannot be sent, and why.
use Rattle.std.specs.Prelude.{ℕ, ◌≤◌, Bool, true, false, not, nat_lt, List, length, Option, None}
use Rattle.std.specs.Prelude.{Some}
use Rattle.std.specs.List.{position}
use Rattle.dlac_text.specs.declared.text_fault.TextFault.{TextFault}
use Rattle.dlac_text.specs.declared.text_fault.TextFault.TheVariants.{BadCharacter, TooLong}
use Rattle.dlac_text.specs.declared.text_fault.TextFault.TheVariants.{NoMemory}
use Rattle.dlac_text.specs.Alphabet.{is_in_alphabet, IsDlac}

-- the least place of a character outside the alphabet
abbrev pub first_bad : List ℕ → Option ℕ
first_bad text = position (λ character. not (is_in_alphabet character)) text

-- the greatest number of characters that are sent as one text
abbrev pub longest_text : ℕ
longest_text = 16384

-- a text that can be sent
abbrev pub IsSendable : List ℕ → Type 0
IsSendable text = IsDlac text × (length text ≤ longest_text)

-- why a text cannot be sent: the character at this place is outside the alphabet, or there are too
-- many
pub data TextRefusal : Type 0 where
  bad_character : (place : ℕ) → TextRefusal
  too_long : TextRefusal

-- the cause by the place of a bad character, if there is one, and by whether the text is too long
abbrev pub first_cause : Option ℕ → Bool → Option TextRefusal
first_cause (Some place) is_long = Some (bad_character place)
first_cause None true = Some too_long
first_cause None false = None

-- why a text is refused, or None where it can be sent
unfoldable pub text_refusal : List ℕ → Option TextRefusal
text_refusal text = first_cause (first_bad text) (nat_lt longest_text (length text))

-- what a fault tells of the text: out of memory tells nothing
abbrev pub told_of_text : TextFault → Option TextRefusal
told_of_text (BadCharacter place) = Some (bad_character place)
told_of_text TooLong = Some too_long
told_of_text NoMemory = None
