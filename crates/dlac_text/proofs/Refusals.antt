-- A text that is not refused can be sent.
use Rattle.std.proofs.Common.{◌≡◌, ℕ, ◌≤◌, Bool, true, false, ltb, Option, None, Some, List, length, refl, subst}
use Rattle.std.proofs.lemmas.Bool.{ltb-false}
use Rattle.std.specs.Str.{chars, IsUtf8}
use Rattle.dlac_text.specs.Alphabet.{IsDlac}
use Rattle.dlac_text.specs.Refusal.{first_bad, first_cause, longest_text, text_refusal, IsSendable}
use Rattle.dlac_text.proofs.Characters.{first_bad-None, IsDlac-chars}

no_cause : (place : Option ℕ) (too_long : Bool) → first_cause place too_long ≡ None → (place ≡ None) × (too_long ≡ false)
no_cause (Some place) too_long h = absurd (cc)
no_cause None true h = absurd (cc)
no_cause None false h = (refl, refl)

pub IsSendable-unrefused : (text : List ℕ) → IsUtf8 text → text_refusal (chars text) ≡ None → IsSendable text
unfolding text_refusal
IsSendable-unrefused text u h =
    let none = no_cause (first_bad (chars text)) (ltb longest_text (length (chars text))) h in
    let alphabet = first_bad-None (chars text) none.0 in
    let same = IsDlac-chars text u alphabet in
    let short : length (chars text) ≤ longest_text = ltb-false longest_text (length (chars text)) none.1 in
    (subst IsDlac same alphabet, subst (λ t. length t ≤ longest_text) same short)
