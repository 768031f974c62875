-- What a plain text shows is UTF-8 again.
use Rattle.std.proofs.Common.{◌≡◌, ◌≢◌, ℕ, ◌<◌, true, inl, inr, List, [], ◌∷◌, ◌++◌, Option, None, Some, length, get_or, sym, ap, subst, ◌∙◌, append-nil, lit<, arith}
use Rattle.std.proofs.Math.Utf8.{scalar, scalars, encode, encodes, low_scalar}
use Rattle.std.proofs.lemmas.Bool.{and_parts}
use Rattle.std.proofs.lemmas.Bool.Decides.{eqb_tells}
use Rattle.std.proofs.lemmas.Str.{IsUtf8-nil, IsUtf8-append, IsUtf8-encode, encode_ascii, inside_one, char_from_byte}
use Rattle.std.specs.Str.{IsUtf8}
use Rattle.dlac_text.specs.Plain.{prefixed_text, text_of_plain}
use Rattle.dlac_text.proofs.PlainLemmas.{text_of_plain-append, text_of_plain-none}

-- what is shown, if anything, is UTF-8
abbrev IsShownText : Option (List ℕ) → Type 0
IsShownText None = Unit {0}
IsShownText (Some shown) = IsUtf8 shown

behind : (front : List ℕ) (rest : Option (List ℕ)) → IsUtf8 front → IsShownText rest → IsShownText (prefixed_text front rest)
behind front None u h = tt
behind front (Some text) u h = IsUtf8-append front text u h

one_ascii : (c : ℕ) → c < 128 → IsUtf8 (c ∷ [])
one_ascii c h = subst IsUtf8 (encode_ascii c h) (IsUtf8-encode c (low_scalar c (omega arith)))

-- no byte of another character is a backslash
no_backslash_in : (c : ℕ) → c ≢ 92 → (i : ℕ) → i < length (encode c) → get_or (encode c) i 0 ≢ 92
no_backslash_in c other i within e = other (inside_one c [] (encode c) i (sym (append-nil (encode c))) within (omega (arith, e)) ∙ e)

other_first : (c : ℕ) (rest : List ℕ) → scalar c ≡ true → c ≢ 92 → IsShownText (text_of_plain rest) → IsShownText (text_of_plain (encode c ++ rest))
other_first c rest s other h =
    subst IsShownText (sym (text_of_plain-append (encode c) rest (no_backslash_in c other))) (behind (encode c) (text_of_plain rest) (IsUtf8-encode c s) h)

begins_with : (c x : ℕ) (rest more : List ℕ) → x < 128 → encode c ++ rest ≡ x ∷ more → c ≡ x
begins_with c x rest more ascii e = char_from_byte (x ∷ more) rest c (sym e) ascii (omega arith)

backslash_first : (c : ℕ) (rest : List ℕ) → IsShownText (text_of_plain rest) → IsShownText (text_of_plain (92 ∷ (encode c ++ rest)))
backslash_first c rest h =
    elim (eqb_tells c 110) [
      | inl n ↦ subst (λ front. IsShownText (text_of_plain (92 ∷ (front ++ rest)))) (sym (ap encode n.1 ∙ encode_ascii 110 (lit< tt))) (behind (10 ∷ []) (text_of_plain rest) (one_ascii 10 (lit< tt)) h)
      | inr not_n ↦
          elim (eqb_tells c 122) [
            | inl z ↦ subst (λ front. IsShownText (text_of_plain (92 ∷ (front ++ rest)))) (sym (ap encode z.1 ∙ encode_ascii 122 (lit< tt))) (behind (26 ∷ []) (text_of_plain rest) (one_ascii 26 (lit< tt)) h)
            | inr not_z ↦ subst IsShownText (sym (text_of_plain-none (encode c ++ rest) (λ more e. not_n.1 (begins_with c 110 rest more (lit< tt) e)) (λ more e. not_z.1 (begins_with c 122 rest more (lit< tt) e)))) tt
          ]
    ]

is_backslash : (c : ℕ) → c ≡ 92 → encode c ≡ 92 ∷ []
is_backslash c e = ap encode e ∙ encode_ascii 92 (lit< tt)

shown_characters : (cs : List ℕ) → scalars cs ≡ true → IsShownText (text_of_plain (encodes cs))
shown_characters [] h = IsUtf8-nil
shown_characters (c ∷ []) h =
    elim (eqb_tells c 92) [
      | inl same ↦ subst (λ front. IsShownText (text_of_plain (front ++ []))) (sym (is_backslash c same.1)) tt
      | inr other ↦ other_first c [] (and_parts (scalar c) true h).0 other.1 IsUtf8-nil
    ]
shown_characters (c ∷ d ∷ more) h =
    let parts = and_parts (scalar c) (scalars (d ∷ more)) h in
    elim (eqb_tells c 92) [
      | inl same ↦ subst (λ front. IsShownText (text_of_plain (front ++ encodes (d ∷ more)))) (sym (is_backslash c same.1)) (backslash_first d (encodes more) (shown_characters more (and_parts (scalar d) (scalars more) parts.1).1))
      | inr other ↦ other_first c (encodes (d ∷ more)) parts.0 other.1 (shown_characters (d ∷ more) parts.1)
    ]

pub text_of_plain-IsUtf8 : (text shown : List ℕ) → IsUtf8 text → text_of_plain text ≡ Some shown → IsUtf8 shown
text_of_plain-IsUtf8 text shown u e = subst IsShownText (ap text_of_plain u.1.1 ∙ e) (shown_characters u.0 u.1.0)
