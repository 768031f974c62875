-- What is escaped reads back, and has no flag and no bad escape.
use Rattle.std.specs.Prelude.{◌==◌, ◌||◌, ◌&&◌, if◌then◌else◌}
use Rattle.std.proofs.Common.{◌≡◌, ◌≢◌, ℕ, ◌<◌, ◌⊎◌, inl, inr, Bool, true, false, not, List, [], ◌∷◌, ◌++◌, refl, sym}
use Rattle.std.proofs.Common.{◌∙◌, ap, subst, arith, lit<}
use Rattle.std.proofs.Math.Path.{ap₂}
use Rattle.std.proofs.lemmas.Bool.{ne_eqb, cases_eq}
use Rattle.std.proofs.lemmas.List.{append_assoc}
use Rattle.std.proofs.lemmas.List.Elements.{All-head, All-tail, All-cons}
use Rattle.bit_fields.specs.Bits.{AreBytes}
use Rattle.list_members.specs.Each.{AllByRecursion-append}
use Rattle.gdl90_core.specs.Framing.{escaped_byte, escaped_bytes}
use Rattle.gdl90_core.specs.Reading.{EscapesNothing, HasBadEscape}
use Rattle.gdl90_core.proofs.Cuts.{NoFlag}
use Rattle.gdl90_core.proofs.Steps.{plain_byte}

-- the three forms of an escaped byte
pub by_form :
    (byte : ℕ) (P : ℕ → List ℕ → Type 0) → P 0x7E (0x7D ∷ 0x5E ∷ []) → P 0x7D (0x7D ∷ 0x5D ∷ [])
    → (byte ≢ 0x7E → byte ≢ 0x7D → P byte (byte ∷ [])) → P byte (escaped_byte byte)
by_form byte P at_flag at_escape plain = elim (cases_eq byte 0x7E) [
  | inl e ↦ let Q : ℕ → Type 0 = λ b. P b (escaped_byte b) in subst Q (sym e) at_flag
  | inr other ↦ elim (cases_eq byte 0x7D) [
    | inl e ↦ let Q : ℕ → Type 0 = λ b. P b (escaped_byte b) in subst Q (sym e) at_escape
    | inr none ↦ let Q : List ℕ → Type 0 = λ bytes. P byte bytes in subst Q (sym (plain_byte byte other none)) (plain other none)
  ]
]

-- the bytes that escaped bytes were
unescaped_bytes : List ℕ → List ℕ
unescaped_bytes [] = []
unescaped_bytes (byte ∷ []) = byte ∷ []
unescaped_bytes (byte ∷ next ∷ more) =
    if byte == 0x7D then (if next == 0x5E then 0x7E else 0x7D) ∷ unescaped_bytes more else byte ∷ unescaped_bytes (next ∷ more)

unescaped_bytes-plain : (byte : ℕ) (rest : List ℕ) → byte ≢ 0x7D → unescaped_bytes (byte ∷ rest) ≡ byte ∷ unescaped_bytes rest
unfolding unescaped_bytes
unescaped_bytes-plain byte [] plain = refl
unescaped_bytes-plain byte (next ∷ more) plain =
    let escape : List ℕ = (if next == 0x5E then 0x7E else 0x7D) ∷ unescaped_bytes more in
    ap (λ (b : Bool). if b then escape else byte ∷ unescaped_bytes (next ∷ more)) (ne_eqb byte 0x7D plain)

unescaped_bytes-byte : (byte : ℕ) (rest : List ℕ) → unescaped_bytes (escaped_byte byte ++ rest) ≡ byte ∷ unescaped_bytes rest
unfolding unescaped_bytes
unescaped_bytes-byte byte rest =
    by_form byte (λ b bytes. unescaped_bytes (bytes ++ rest) ≡ b ∷ unescaped_bytes rest) refl refl
    (λ flag plain. unescaped_bytes-plain byte rest plain)

unescaped_bytes-escaped_bytes : (bytes : List ℕ) → unescaped_bytes (escaped_bytes bytes) ≡ bytes
unfolding unescaped_bytes
unescaped_bytes-escaped_bytes [] = refl
unescaped_bytes-escaped_bytes (byte ∷ more) =
    unescaped_bytes-byte byte (escaped_bytes more) ∙ ap (λ (bytes : List ℕ). byte ∷ bytes) (unescaped_bytes-escaped_bytes more)

pub escaped_bytes_inj : (xs ys : List ℕ) → escaped_bytes xs ≡ escaped_bytes ys → xs ≡ ys
escaped_bytes_inj xs ys e = sym (unescaped_bytes-escaped_bytes xs) ∙ ap unescaped_bytes e ∙ unescaped_bytes-escaped_bytes ys

-- whether each control-escape is followed by 5D or 5E
has_good_escapes : List ℕ → Bool
has_good_escapes [] = true
has_good_escapes (byte ∷ []) = not (byte == 0x7D)
has_good_escapes (byte ∷ next ∷ more) =
    if byte == 0x7D then (next == 0x5E || next == 0x5D) && has_good_escapes more else has_good_escapes (next ∷ more)

good-plain : (byte : ℕ) (rest : List ℕ) → byte ≢ 0x7D → has_good_escapes (byte ∷ rest) ≡ has_good_escapes rest
unfolding has_good_escapes
good-plain byte [] plain = ap not (ne_eqb byte 0x7D plain)
good-plain byte (next ∷ more) plain =
    let escape : Bool = (next == 0x5E || next == 0x5D) && has_good_escapes more in
    ap (λ (b : Bool). if b then escape else has_good_escapes (next ∷ more)) (ne_eqb byte 0x7D plain)

good-byte : (byte : ℕ) (rest : List ℕ) → has_good_escapes (escaped_byte byte ++ rest) ≡ has_good_escapes rest
unfolding has_good_escapes
good-byte byte rest =
    by_form byte (λ b bytes. has_good_escapes (bytes ++ rest) ≡ has_good_escapes rest) refl refl
    (λ flag plain. good-plain byte rest plain)

good-front : (front rest : List ℕ) → has_good_escapes (escaped_bytes front ++ rest) ≡ has_good_escapes rest
good-front [] rest = refl
good-front (byte ∷ front) rest =
    ap has_good_escapes (append_assoc (escaped_byte byte) (escaped_bytes front) rest)
    ∙ good-byte byte (escaped_bytes front ++ rest) ∙ good-front front rest

good-escaped_bytes : (bytes : List ℕ) → has_good_escapes (escaped_bytes bytes) ≡ true
unfolding has_good_escapes
good-escaped_bytes [] = refl
good-escaped_bytes (byte ∷ more) = good-byte byte (escaped_bytes more) ∙ good-escaped_bytes more

bad-rest : (rest : List ℕ) → EscapesNothing rest → has_good_escapes (0x7D ∷ rest) ≡ false
unfolding has_good_escapes
bad-rest [] bad = refl
bad-rest (next ∷ more) bad =
    ap₂ (λ (b c : Bool). (b || c) && has_good_escapes more) (ne_eqb next 0x5E bad.1) (ne_eqb next 0x5D bad.0)

-- bytes that were escaped have no bad escape
pub escaped_bytes-good : (piece bytes : List ℕ) → piece ≡ escaped_bytes bytes → HasBadEscape piece → ⊥
escaped_bytes-good piece bytes e bad =
    let good : has_good_escapes piece ≡ true = ap has_good_escapes e ∙ good-escaped_bytes bytes in
    let broken : has_good_escapes piece ≡ false =
    ap has_good_escapes bad.escape ∙ good-front bad.front (0x7D ∷ bad.rest) ∙ bad-rest bad.rest bad.bad in
    cc

pub escaped_bytes-NoFlag : (bytes : List ℕ) → NoFlag (escaped_bytes bytes)
escaped_bytes-NoFlag [] = tt
escaped_bytes-NoFlag (byte ∷ more) =
    AllByRecursion-append (λ b. b ≢ 0x7E) (escaped_byte byte) (escaped_bytes more)
    (by_form byte (λ b bytes. NoFlag bytes)
    ((λ e. omega (arith, e)), ((λ e. omega (arith, e)), tt))
    ((λ e. omega (arith, e)), ((λ e. omega (arith, e)), tt))
    (λ flag plain. (flag, tt)))
    (escaped_bytes-NoFlag more)

bad_at :
    (byte next : ℕ) (more : List ℕ) → byte ≡ 0x7D → next ≢ 0x5D → next ≢ 0x5E → HasBadEscape (byte ∷ next ∷ more)
bad_at byte next more e escape flag = record {
  front = [];
  rest = next ∷ more;
  escape = ap (λ (b : ℕ). b ∷ next ∷ more) e;
  bad = (escape, flag);
}

-- a piece without a flag was escaped, or has a bad escape
pub read_piece : (piece : List ℕ) → NoFlag piece → ((bytes : List ℕ) × (piece ≡ escaped_bytes bytes)) ⊎ HasBadEscape piece
read_piece [] none = inl ([], refl)
read_piece (byte ∷ []) none = elim (cases_eq byte 0x7D) [
  | inl e ↦ inr (record { front = []; rest = []; escape = ap (λ (b : ℕ). b ∷ []) e; bad = tt })
  | inr plain ↦ inl (byte ∷ [], ap (λ (bytes : List ℕ). bytes ++ []) (sym (plain_byte byte none.0 plain)))
]
read_piece (byte ∷ next ∷ more) none = elim (cases_eq byte 0x7D) [
  | inl e ↦ elim (cases_eq next 0x5E) [
    | inl f ↦ behind byte next 0x7E more (ap₂ (λ (b n : ℕ). b ∷ n ∷ []) e f) (read_piece more none.1.1)
    | inr other ↦ elim (cases_eq next 0x5D) [
      | inl f ↦ behind byte next 0x7D more (ap₂ (λ (b n : ℕ). b ∷ n ∷ []) e f) (read_piece more none.1.1)
      | inr last ↦ inr (bad_at byte next more e last other)
    ]
  ]
  | inr plain ↦ plain_then byte (next ∷ more) none.0 plain (read_piece (next ∷ more) none.1)
]
  where
    put :
        (spelt : List ℕ) (byte : ℕ) (more : List ℕ) → spelt ≡ escaped_byte byte
        → ((bytes : List ℕ) × (more ≡ escaped_bytes bytes)) ⊎ HasBadEscape more
        → ((bytes : List ℕ) × (spelt ++ more ≡ escaped_bytes bytes)) ⊎ HasBadEscape (spelt ++ more)
    put spelt byte more e (inl read) = inl (byte ∷ read.0, ap₂ (λ (xs ys : List ℕ). xs ++ ys) e read.1)
    put spelt byte more e (inr bad) = inr (record {
      front = byte ∷ bad.front;
      rest = bad.rest;
      escape =
          ap₂ (λ (xs ys : List ℕ). xs ++ ys) e bad.escape
          ∙ sym (append_assoc (escaped_byte byte) (escaped_bytes bad.front) (0x7D ∷ bad.rest));
      bad = bad.bad;
    })

    behind :
        (b n byte : ℕ) (more : List ℕ) → b ∷ n ∷ [] ≡ escaped_byte byte
        → ((bytes : List ℕ) × (more ≡ escaped_bytes bytes)) ⊎ HasBadEscape more
        → ((bytes : List ℕ) × (b ∷ n ∷ more ≡ escaped_bytes bytes)) ⊎ HasBadEscape (b ∷ n ∷ more)
    behind b n byte more e read = put (b ∷ n ∷ []) byte more e read

    plain_then :
        (byte : ℕ) (more : List ℕ) → byte ≢ 0x7E → byte ≢ 0x7D
        → ((bytes : List ℕ) × (more ≡ escaped_bytes bytes)) ⊎ HasBadEscape more
        → ((bytes : List ℕ) × (byte ∷ more ≡ escaped_bytes bytes)) ⊎ HasBadEscape (byte ∷ more)
    plain_then byte more flag plain read = put (byte ∷ []) byte more (sym (plain_byte byte flag plain)) read

-- what was escaped to bytes was bytes
pub escaped_bytes-AreBytes : (bytes : List ℕ) → AreBytes (escaped_bytes bytes) → AreBytes bytes
escaped_bytes-AreBytes [] all = all
escaped_bytes-AreBytes (byte ∷ more) all =
    let B : ℕ → Type 0 = λ b. b < 256 in
    let parts : (byte < 256) × AreBytes (escaped_bytes more) =
    by_form byte (λ b bytes. AreBytes (bytes ++ escaped_bytes more) → (b < 256) × AreBytes (escaped_bytes more))
    (λ two. (lit< tt, All-tail B 0x5E (escaped_bytes more) (All-tail B 0x7D (0x5E ∷ escaped_bytes more) two)))
    (λ two. (lit< tt, All-tail B 0x5D (escaped_bytes more) (All-tail B 0x7D (0x5D ∷ escaped_bytes more) two)))
    (λ flag plain one. (All-head B byte (escaped_bytes more) one, All-tail B byte (escaped_bytes more) one))
    all in
    All-cons B byte more parts.0 (escaped_bytes-AreBytes more parts.1)
