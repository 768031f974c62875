-- Showing a text as plain text, and reading it back.
use Rattle.std.proofs.Common.{◌≡◌, ◌≢◌, ℕ, ◌+◌, ◌<◌, true, false, not, ◌&&◌, eqb, inl, inr, suc, List, [], ◌∷◌, ◌++◌, Option, None, Some, length, get_or, take, refl, sym, ap, ◌∙◌, append_assoc, append-nil, arith, IsTrue}
use Rattle.std.proofs.lemmas.Bool.Decides.{nat_tests, eqb_tells}
use Rattle.std.proofs.lemmas.List.{take_more}
use Rattle.std.proofs.lemmas.Bool.{and_parts}
use Rattle.std.specs.List.{list_all}
use Rattle.dlac_text.specs.Alphabet.{is_in_alphabet, IsDlac}
use Rattle.dlac_text.specs.Plain.{is_itself, plain_character, plain_text, prefixed_text, text_of_plain}
use Rattle.dlac_text.proofs.Cuts.{IsDlac-tail}
use Rattle.dlac_text.proofs.RoundTrip.{IsDlac-head}

plain_text-push : (text : List ℕ) (character : ℕ) → plain_text (text ++ character ∷ []) ≡ plain_text text ++ plain_character character
plain_text-push [] character = append-nil (plain_character character)
plain_text-push (c ∷ text) character =
    ap (λ t. plain_character c ++ t) (plain_text-push text character) ∙ sym (append_assoc (plain_character c) (plain_text text) (plain_character character))

pub plain_text-more : (text : List ℕ) (i : ℕ) → i < length text → plain_text (take (i + 1) text) ≡ plain_text (take i text) ++ plain_character (get_or text i 0)
plain_text-more text i h = ap plain_text (take_more text i 0 h) ∙ plain_text-push (take i text) (get_or text i 0)

one_itself : (c : ℕ) → is_itself c ≡ true → plain_character c ≡ c ∷ []
one_itself c h = elim (eqb_tells c 10) [
  | inl n ↦ absurd (is_false n.0)
  | inr not_n ↦ elim (eqb_tells c 26) [
    | inl z ↦ absurd (is_false_too not_n.0 z.0)
    | inr not_z ↦ rw (not_n.0, not_z.0) refl
  ]
] where
  is_false : eqb c 10 ≡ true → ⊥
  is_false e = let bad : false ≡ true = ap (λ b. not b && not (eqb c 26)) (sym e) ∙ h in cc

  is_false_too : eqb c 10 ≡ false → eqb c 26 ≡ true → ⊥
  is_false_too d e = let bad : false ≡ true = ap (λ b. not b && false) (sym d) ∙ ap (λ b. not (eqb c 10) && not b) (sym e) ∙ h in cc

-- a text whose characters are shown as themselves shows itself
pub plain_text_itself : (text : List ℕ) → list_all is_itself text ≡ true → plain_text text ≡ text
plain_text_itself [] h = refl
plain_text_itself (c ∷ more) h =
    let both = and_parts (is_itself c) (list_all is_itself more) h in
    ap (λ t. t ++ plain_text more) (one_itself c both.0) ∙ ap (λ t. c ∷ t) (plain_text_itself more both.1)

pub prefixed_text-nil : (o : Option (List ℕ)) → prefixed_text [] o ≡ o
prefixed_text-nil None = refl
prefixed_text-nil (Some t) = refl

prefixed_text-prefixed_text : (a b : List ℕ) (o : Option (List ℕ)) → prefixed_text a (prefixed_text b o) ≡ prefixed_text (a ++ b) o
prefixed_text-prefixed_text a b None = refl
prefixed_text-prefixed_text a b (Some t) = ap Some (sym (append_assoc a b t))

-- a character that is no backslash shows itself
text_of_plain-other : (c : ℕ) (text : List ℕ) → c ≢ 92 → text_of_plain (c ∷ text) ≡ prefixed_text (c ∷ []) (text_of_plain text)
text_of_plain-other c [] h = let other : eqb c 92 ≡ false = grind (arith, nat_tests) in rw other refl
text_of_plain-other c (d ∷ text) h = let other : eqb c 92 ≡ false = grind (arith, nat_tests) in rw other refl

pub text_of_plain-append : (front rest : List ℕ) → ((i : ℕ) → i < length front → get_or front i 0 ≢ 92) → text_of_plain (front ++ rest) ≡ prefixed_text front (text_of_plain rest)
text_of_plain-append [] rest h = sym (prefixed_text-nil (text_of_plain rest))
text_of_plain-append (c ∷ front) rest h =
    let others = text_of_plain-append front rest (λ i l. h (suc i) (omega arith)) in
    text_of_plain-other c (front ++ rest) (h 0 (omega arith)) ∙ ap (prefixed_text (c ∷ [])) others ∙ prefixed_text-prefixed_text (c ∷ []) front (text_of_plain rest)

-- a backslash with no n or z behind it
pub text_of_plain-none : (after : List ℕ) → ((rest : List ℕ) → after ≢ 110 ∷ rest) → ((rest : List ℕ) → after ≢ 122 ∷ rest) → text_of_plain (92 ∷ after) ≡ None
text_of_plain-none [] h i = refl
text_of_plain-none (d ∷ more) h i =
    elim (eqb_tells d 110) [
      | inl n ↦ absurd (h more (ap (λ x. x ∷ more) n.1))
      | inr not_n ↦
          elim (eqb_tells d 122) [
            | inl z ↦ absurd (i more (ap (λ x. x ∷ more) z.1))
            | inr not_z ↦ rw (not_n.0, not_z.0) refl
          ]
    ]

-- the text shown so far, up to a backslash
pub up_to_backslash :
    (all : Option (List ℕ)) (shown rest before after new : List ℕ) → all ≡ prefixed_text shown (text_of_plain rest) → rest ≡ before ++ 92 ∷ after → ((i : ℕ) → i < length before → get_or before i 0 ≢ 92) → new ≡ shown ++ before → all ≡ prefixed_text new (text_of_plain (92 ∷ after))
up_to_backslash all shown rest before after new e f h g =
    e ∙ ap (prefixed_text shown) (ap text_of_plain f ∙ text_of_plain-append before (92 ∷ after) h) ∙ prefixed_text-prefixed_text shown before (text_of_plain (92 ∷ after)) ∙ ap (λ t. prefixed_text t (text_of_plain (92 ∷ after))) (sym g)

-- one character behind a backslash
pub past_backslash :
    (all : Option (List ℕ)) (shown after more new : List ℕ) (character : ℕ) → all ≡ prefixed_text shown (text_of_plain (92 ∷ after)) → text_of_plain (92 ∷ after) ≡ prefixed_text (character ∷ []) (text_of_plain more) → new ≡ shown ++ character ∷ [] → all ≡ prefixed_text new (text_of_plain more)
past_backslash all shown after more new character e f g =
    e ∙ ap (prefixed_text shown) f ∙ prefixed_text-prefixed_text shown (character ∷ []) (text_of_plain more) ∙ ap (λ t. prefixed_text t (text_of_plain more)) (sym g)

-- the rest, with no backslash
pub to_end :
    (all : Option (List ℕ)) (shown rest new : List ℕ) → all ≡ prefixed_text shown (text_of_plain rest) → ((i : ℕ) → i < length rest → get_or rest i 0 ≢ 92) → new ≡ shown ++ rest → Some new ≡ all
to_end all shown rest new e h g =
    let plain = ap text_of_plain (sym (append-nil rest)) ∙ text_of_plain-append rest [] h in
    ap Some (g ∙ ap (λ t. shown ++ t) (sym (append-nil rest))) ∙ sym (e ∙ ap (prefixed_text shown) plain)

no_backslash : (c : ℕ) → IsTrue (is_in_alphabet c) → c ≢ 92
no_backslash c h = grind (arith, nat_tests)

plain_back : (c : ℕ) (text : List ℕ) → IsTrue (is_in_alphabet c) → text_of_plain (plain_character c ++ text) ≡ prefixed_text (c ∷ []) (text_of_plain text)
plain_back c text h =
    elim (eqb_tells c 10) [
      | inl line ↦ rw line.1 refl
      | inr not_line ↦
          elim (eqb_tells c 26) [
            | inl mark ↦ rw mark.1 refl
            | inr not_mark ↦ rw (not_line.0, not_mark.0) (text_of_plain-other c text (no_backslash c h))
          ]
    ]

pub text_of_plain-plain_text : (text : List ℕ) → IsDlac text → text_of_plain (plain_text text) ≡ Some text
text_of_plain-plain_text [] h = refl
text_of_plain-plain_text (c ∷ text) h =
    plain_back c (plain_text text) (IsDlac-head c text h) ∙ ap (prefixed_text (c ∷ [])) (text_of_plain-plain_text text (IsDlac-tail c text h))
