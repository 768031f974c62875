use Rattle.std.proofs.Common.{◌≡◌, ◌∙◌, List, ℕ, true, false, None, sym, ap, subst, refl, arith, length}
use Rattle.std.specs.Str.{chars, IsUtf8}
use Rattle.dlac_text.specs.Alphabet.{IsDlac}
use Rattle.dlac_text.specs.Refusal.{first_bad}
use Rattle.dlac_text.proofs.Characters.{first_bad-None, first_bad-Some, first_bad-place, IsDlac-chars, length-chars, text_refusal-bad, text_refusal-long, text_refusal-none}
use Rattle.dlac_text.proofs.encoding.encode_text.Goals as goal

record Passed (text : List ℕ) : Type 0 where
  alphabet : IsDlac (chars text)
  bytes : IsDlac text
  same_length : length (chars text) ≡ length text

-- where no character is bad, the characters are the bytes
passed : (text : List ℕ) → IsUtf8 text → first_bad (chars text) ≡ None → Passed text
passed text u h =
    let alphabet = first_bad-None (chars text) h in
    let same = IsDlac-chars text u alphabet in
    record { alphabet = alphabet; bytes = subst IsDlac same alphabet; same_length = ap length same }

pub overflow_cast-result : goal.overflow_cast-result
overflow_cast-result c =
    let text = c.args.text.now in
    let below = first_bad-place (chars text) c.in-Some.place (sym c.first_bad.ensures ∙ c.in-Some.is) in
    omega (arith, below, length-chars text c.utf8.text)

pub returns-in-Some-clause-too_long : goal.returns-in-Some-clause-too_long
returns-in-Some-clause-too_long c =
    let bad = first_bad-Some (chars c.args.text.now) c.in-Some.place (sym c.first_bad.ensures ∙ c.in-Some.is) in
    (λ e. absurd (cc), λ p. absurd (let both : true ≡ false = sym p.0 ∙ bad in cc))

pub returns-then-text-gt-LONGEST_TEXT-clause-too_long :
    goal.returns-then-text-gt-LONGEST_TEXT-clause-too_long
returns-then-text-gt-LONGEST_TEXT-clause-too_long c =
    let p = passed c.args.text.now c.utf8.text (sym c.first_bad.ensures ∙ c.in_default.is) in
    (λ _. (p.alphabet, omega (arith, p.same_length)), λ _. refl)

pub payload_bytes-requires : goal.payload_bytes-requires
payload_bytes-requires c =
    let p = passed c.args.text.now c.utf8.text (sym c.first_bad.ensures ∙ c.in_default.is) in
    subst IsDlac (sym c.as_bytes.ensures.value) p.bytes

pub returns-in-Ok-clause-sendable : goal.returns-in-Ok-clause-sendable
returns-in-Ok-clause-sendable c =
    let p = passed c.args.text.now c.utf8.text (sym c.first_bad.ensures ∙ c.in_default.is) in
    (p.bytes, omega arith)

pub returns-in-Ok-clause-too_long : goal.returns-in-Ok-clause-too_long
returns-in-Ok-clause-too_long c =
    let p = passed c.args.text.now c.utf8.text (sym c.first_bad.ensures ∙ c.in_default.is) in
    (λ e. absurd (cc), λ q. absurd (omega (arith, p.same_length, q.1)))

pub returns-in-Err-clause-too_long : goal.returns-in-Err-clause-too_long
returns-in-Err-clause-too_long c =
    let p = passed c.args.text.now c.utf8.text (sym c.first_bad.ensures ∙ c.in_default.is) in
    (λ e. absurd (cc), λ q. absurd (omega (arith, p.same_length, q.1)))

pub returns-in-Err-clause-no_memory : goal.returns-in-Err-clause-no_memory
returns-in-Err-clause-no_memory c =
    let p = passed c.args.text.now c.utf8.text (sym c.first_bad.ensures ∙ c.in_default.is) in
    λ _. (p.bytes, omega arith)

pub returns-in-Some-clause-refusal : goal.returns-in-Some-clause-refusal
returns-in-Some-clause-refusal c = text_refusal-bad (chars c.args.text.now) c.in-Some.place (sym c.first_bad.ensures ∙ c.in-Some.is)

pub returns-then-text-gt-LONGEST_TEXT-clause-refusal : goal.returns-then-text-gt-LONGEST_TEXT-clause-refusal
returns-then-text-gt-LONGEST_TEXT-clause-refusal c =
    let good = sym c.first_bad.ensures ∙ c.in_default.is in
    let p = passed c.args.text.now c.utf8.text good in
    text_refusal-long (chars c.args.text.now) good (omega (arith, p.same_length))

pub returns-in-Ok-clause-refusal : goal.returns-in-Ok-clause-refusal
returns-in-Ok-clause-refusal c =
    let good = sym c.first_bad.ensures ∙ c.in_default.is in
    let p = passed c.args.text.now c.utf8.text good in
    text_refusal-none (chars c.args.text.now) good (omega (arith, p.same_length))

pub returns-in-Err-clause-refusal : goal.returns-in-Err-clause-refusal
returns-in-Err-clause-refusal c =
    let good = sym c.first_bad.ensures ∙ c.in_default.is in
    let p = passed c.args.text.now c.utf8.text good in
    text_refusal-none (chars c.args.text.now) good (omega (arith, p.same_length))
