-- What a REPORT shows, and how long that is.
use Rattle.std.proofs.Common.{◌≡◌, ◌==◌, ℕ, ◌<◌, ◌≤◌, true, false, List, [], ◌∷◌, Option, Some, None, length, ◌+◌, sym, ap, subst, ◌∙◌, arith, refl, inl, inr}
use Rattle.std.proofs.lemmas.Bool.{cases_Bool}
use Rattle.std.proofs.lemmas.List.Splits.{length-slice_split, join_with_byte-slice_split}
use Rattle.std.proofs.lemmas.Str.{IsUtf8-from_is_utf8, is_utf8-from_IsUtf8}
use Rattle.std.specs.List.{join_with_byte}
use Rattle.std.specs.Str.{is_utf8, IsUtf8}
use Rattle.dlac_text.specs.Plain.{text_of_plain, prefixed_text, unescaped_text}
use Rattle.script_core.specs.Fields.{fields, moment_in, report_in, text_line, ◌>>=◌}
use Rattle.script_core.specs.Script.{Line, text}

pub report_of_text : (bytes : List ℕ) → IsUtf8 bytes → report_in bytes ≡ text_of_plain bytes
report_of_text bytes is_text = let yes : is_utf8 bytes ≡ true = is_utf8-from_IsUtf8 bytes is_text in rw yes

pub report_of_other : (bytes : List ℕ) → (IsUtf8 bytes → ⊥) → report_in bytes ≡ None
report_of_other bytes other =
    let no : is_utf8 bytes ≡ false = elim (cases_Bool (is_utf8 bytes)) [ inl t ↦ absurd (other (IsUtf8-from_is_utf8 bytes t)) | inr f ↦ f ] in
    rw no

-- a text line, by what its moment, its version and its report are
abbrev pub text_by : Option ℕ → Option ℕ → Option (List ℕ) → Option Line
text_by moment version report = do
  m ← moment
  v ← version
  r ← report
  Some (text m v r)

some_fields : (bytes : List ℕ) → 0 < length (fields bytes)
some_fields bytes = let counted = length-slice_split (λ b. b == 32) bytes in omega arith

text_of_more : (moment version : List ℕ) (others : List (List ℕ)) → 0 < length others
    → text_line (moment ∷ version ∷ others) ≡ text_by (moment_in moment) (moment_in version) (report_in (join_with_byte 32 others))
text_of_more moment version [] some = absurd (omega arith)
text_of_more moment version (word ∷ rest) some = refl

-- the report of a text line is all behind the space after its version
text_of_report : (moment version report : List ℕ)
    → text_line (moment ∷ version ∷ fields report) ≡ text_by (moment_in moment) (moment_in version) (report_in report)
text_of_report moment version report =
    text_of_more moment version (fields report) (some_fields report)
    ∙ ap (λ bytes. text_by (moment_in moment) (moment_in version) (report_in bytes)) (join_with_byte-slice_split 32 report)

pub text_with_report : (m v : ℕ) (moment version report : List ℕ) (shown : Option (List ℕ)) → Some m ≡ moment_in moment → Some v ≡ moment_in version
    → report_in report ≡ shown → text_line (moment ∷ version ∷ fields report) ≡ text_by (Some m) (Some v) shown
text_with_report m v moment version report shown is_m is_v is_shown =
    text_of_report moment version report ∙ ap (λ o. text_by o (moment_in version) (report_in report)) (sym is_m)
    ∙ ap (λ o. text_by (Some m) o (report_in report)) (sym is_v) ∙ ap (text_by (Some m) (Some v)) is_shown

-- what a plain text shows is no longer than it is
abbrev IsWithin : ℕ → Option (List ℕ) → Type 0
IsWithin size None = Unit {0}
IsWithin size (Some shown) = length shown ≤ size

within_prefixed : (size : ℕ) (c : ℕ) (o : Option (List ℕ)) → IsWithin size o → IsWithin (size + 1) (prefixed_text (c ∷ []) o)
within_prefixed size c None h = tt
within_prefixed size c (Some shown) h = omega arith

within_more : (size : ℕ) (o : Option (List ℕ)) → IsWithin size o → IsWithin (size + 1) o
within_more size None h = tt
within_more size (Some shown) h = omega arith

within_unescaped : (size next : ℕ) (o : Option (List ℕ)) → IsWithin size o → IsWithin (size + 1) (unescaped_text next o)
within_unescaped size next o h =
    elim (cases_Bool (next == 110)) [
      | inl n ↦ rw n (within_prefixed size 10 o h)
      | inr not_n ↦ elim (cases_Bool (next == 122)) [ inl z ↦ rw (not_n, z) (within_prefixed size 26 o h) | inr not_z ↦ rw (not_n, not_z) tt ]
    ]

within_unplained : (bytes : List ℕ) → IsWithin (length bytes) (text_of_plain bytes)
within_unplained [] = omega arith
within_unplained (c ∷ []) = elim (cases_Bool (c == 92)) [ inl same ↦ rw same tt | inr other ↦ rw other (omega arith) ]
within_unplained (c ∷ next ∷ more) =
    elim (cases_Bool (c == 92)) [
      | inl same ↦ rw same (subst (λ n. IsWithin n (unescaped_text next (text_of_plain more))) (omega arith) (within_more (length more + 1) (unescaped_text next (text_of_plain more)) (within_unescaped (length more) next (text_of_plain more) (within_unplained more))))
      | inr other ↦ rw other (subst (λ n. IsWithin n (prefixed_text (c ∷ []) (text_of_plain (next ∷ more)))) (omega arith) (within_prefixed (length (next ∷ more)) c (text_of_plain (next ∷ more)) (within_unplained (next ∷ more))))
    ]

pub report_size : (bytes shown : List ℕ) → report_in bytes ≡ Some shown → length shown ≤ length bytes
report_size bytes shown is_shown =
    elim (cases_Bool (is_utf8 bytes)) [
      | inl is_so ↦ (let same : text_of_plain bytes ≡ Some shown = rw is_so at is_shown in subst (IsWithin (length bytes)) same (within_unplained bytes))
      | inr other ↦ absurd (let none = rw other at is_shown in cc)
    ]

pub text_cut : (all others : List (List ℕ)) (moment version report : List ℕ) → all ≡ moment ∷ others → others ≡ version ∷ fields report
    → text_line all ≡ text_line (moment ∷ version ∷ fields report)
text_cut all others moment version report cut next = ap text_line (cut ∙ ap (λ rest. moment ∷ rest) next)
