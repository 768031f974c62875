-- The payload of a text: what it reads back as, its length, and that it is made of bytes.
use Rattle.std.proofs.Common.{◌≡◌, ◌≢◌, ◌⊎◌, ℕ, ◌+◌, ◌*◌, ◌/◌, ◌%◌, ◌<◌, false, eqb, inl, inr, suc, List, [], ◌∷◌, ◌++◌, length, map, filter, refl, sym, ap, ◌∙◌, append_assoc, append-nil, length-append, All, arith, IsTrue}
use Rattle.std.proofs.lemmas.Bool.{and_parts}
use Rattle.std.proofs.lemmas.Bool.Decides.{nat_tests}
use Rattle.std.proofs.lemmas.Nat.{mod-mul-add}
use Rattle.std.proofs.lemmas.List.{length-map}
use Rattle.std.proofs.lemmas.List.Elements.{All-from_recursion}
use Rattle.std.specs.List.{AllByRecursion}
use Rattle.bit_fields.specs.BytesAsNumbers.{IsByte}
use Rattle.dlac_text.specs.Alphabet.{is_in_alphabet, IsDlac, code_of, character_of}
use Rattle.dlac_text.specs.SixBits.{packed_bytes, six_bit_groups}
use Rattle.dlac_text.specs.Payload.{text_payload}
use Rattle.dlac_text.specs.Reports.{reports_of, has_characters}
use Rattle.dlac_text.proofs.Cuts.{IsDlac-tail}
use Rattle.dlac_text.proofs.SixBitsLemmas.{IsSixBits}
use Rattle.dlac_text.proofs.Joining.{from_start, from_character, from_end_code}
use Rattle.dlac_text.specs.Reading.{reports_from}

-- one group of four codes goes through three bytes unharmed
first_back : (a b : ℕ) → b < 64 → (a * 4 + b / 16) / 4 ≡ a
first_back a b h = omega arith

second_back : (a b c : ℕ) → b < 64 → c < 64 → (a * 4 + b / 16) % 4 * 16 + (b % 16 * 16 + c / 4) / 16 ≡ b
second_back a b c h i = omega arith

third_back : (b c d : ℕ) → c < 64 → d < 64 → (b % 16 * 16 + c / 4) % 16 * 4 + (c % 4 * 64 + d) / 64 ≡ c
third_back b c d h i = omega arith

-- the groups of packed codes are the codes, and a code 0 where three codes fill three bytes
pub groups_of_packed : (codes : List ℕ) → AllByRecursion IsSixBits codes → (six_bit_groups (packed_bytes codes) ≡ codes) ⊎ (six_bit_groups (packed_bytes codes) ≡ codes ++ 0 ∷ [])
groups_of_packed [] h = inl refl
groups_of_packed (a ∷ []) h = let first : a * 4 / 4 ≡ a = omega arith in inl (ap (λ x. x ∷ []) first)
groups_of_packed (a ∷ b ∷ []) h =
    let fits : b < 64 = h.1.0 in
    let second : (a * 4 + b / 16) % 4 * 16 + b % 16 * 16 / 16 ≡ b = omega arith in
    inl (rw (first_back a b fits, second) refl)
groups_of_packed (a ∷ b ∷ c ∷ []) h =
    let b_fits : b < 64 = h.1.0 in
    let c_fits : c < 64 = h.1.1.0 in
    let third : (b % 16 * 16 + c / 4) % 16 * 4 + c % 4 * 64 / 64 ≡ c = omega arith in
    let fourth : c % 4 * 64 % 64 ≡ 0 = omega arith in
    inr (rw (first_back a b b_fits, second_back a b c b_fits c_fits, third, fourth) refl)
groups_of_packed (a ∷ b ∷ c ∷ d ∷ more) h =
    let b_fits : b < 64 = h.1.0 in
    let c_fits : c < 64 = h.1.1.0 in
    let d_fits : d < 64 = h.1.1.1.0 in
    let front : six_bit_groups (packed_bytes (a ∷ b ∷ c ∷ d ∷ more)) ≡ a ∷ b ∷ c ∷ d ∷ six_bit_groups (packed_bytes more) =
    rw (first_back a b b_fits, second_back a b c b_fits c_fits, third_back b c d c_fits d_fits, mod-mul-add (c % 4) 64 d d_fits) refl in
    elim (groups_of_packed more h.1.1.1.1) [ inl e ↦ inl (front ∙ ap (λ ys. a ∷ b ∷ c ∷ d ∷ ys) e) | inr e ↦ inr (front ∙ ap (λ ys. a ∷ b ∷ c ∷ d ∷ ys) e) ]

pub IsDlac-head : (c : ℕ) (text : List ℕ) → IsDlac (c ∷ text) → IsTrue (is_in_alphabet c)
IsDlac-head c text h = (and_parts _ _ h).0

code_fits : (c : ℕ) → IsTrue (is_in_alphabet c) → code_of c < 64
code_fits c h = grind (arith, nat_tests)

code-not-end : (c : ℕ) → IsTrue (is_in_alphabet c) → code_of c ≢ 0
code-not-end c h = grind (arith, nat_tests)

code-not-tab : (c : ℕ) → IsTrue (is_in_alphabet c) → code_of c ≢ 28
code-not-tab c h = grind (arith, nat_tests)

code-not-other_end : (c : ℕ) → IsTrue (is_in_alphabet c) → code_of c ≢ 29
code-not-other_end c h = grind (arith, nat_tests)

character_back : (c : ℕ) → IsTrue (is_in_alphabet c) → character_of (code_of c) ≡ c
character_back c h = grind (arith, nat_tests)

codes_fit : (text : List ℕ) → IsDlac text → AllByRecursion IsSixBits (map code_of text ++ 0 ∷ [])
codes_fit [] h = (omega arith, tt)
codes_fit (c ∷ text) h = (code_fits c (IsDlac-head c text h), codes_fit text (IsDlac-tail c text h))

-- a text, the end behind it, and what follows
reports_from-text :
    (front text tail : List ℕ) → IsDlac text → reports_from front (map code_of text ++ 0 ∷ tail) ≡ filter has_characters ((front ++ text) ∷ []) ++ reports_from [] tail
reports_from-text front [] tail h =
    from_end_code front tail 0 (inl refl) ∙ ap (λ t. filter has_characters (t ∷ []) ++ reports_from [] tail) (sym (append-nil front))
reports_from-text front (c ∷ text) tail h =
    let known = IsDlac-head c text h in
    let first = from_character front (map code_of text ++ 0 ∷ tail) (code_of c) (code-not-end c known) (code-not-tab c known) (code-not-other_end c known) in
    let named = ap (λ x. reports_from (front ++ x ∷ []) (map code_of text ++ 0 ∷ tail)) (character_back c known) in
    let rest = reports_from-text (front ++ c ∷ []) text tail (IsDlac-tail c text h) in
    first ∙ named ∙ rest ∙ ap (λ t. filter has_characters (t ∷ []) ++ reports_from [] tail) (append_assoc front (c ∷ []) text)

-- the codes of a text, with or without a second end, stand for the text alone
alone : (text codes : List ℕ) → IsDlac text → (codes ≡ map code_of text ++ 0 ∷ []) ⊎ (codes ≡ (map code_of text ++ 0 ∷ []) ++ 0 ∷ []) → reports_from [] codes ≡ filter has_characters (text ∷ [])
alone text codes h (inl e) = ap (reports_from []) e ∙ reports_from-text [] text [] h ∙ append-nil (filter has_characters (text ∷ []))
alone text codes h (inr e) =
    ap (reports_from []) (e ∙ append_assoc (map code_of text) (0 ∷ []) (0 ∷ [])) ∙ reports_from-text [] text (0 ∷ []) h ∙ append-nil (filter has_characters (text ∷ []))

pub reports_of-text_payload : (text : List ℕ) → IsDlac text → reports_of (text_payload text) ≡ filter has_characters (text ∷ [])
unfolding reports_of text_payload
reports_of-text_payload text h =
    let codes = map code_of text ++ 0 ∷ [] in
    sym (from_start (six_bit_groups (packed_bytes codes))) ∙ alone text (six_bit_groups (packed_bytes codes)) h (groups_of_packed codes (codes_fit text h))

pub filter-some : (text : List ℕ) → 0 < length text → filter has_characters (text ∷ []) ≡ text ∷ []
filter-some [] h = absurd (omega arith)
filter-some (c ∷ text) h =
    let some : eqb (suc (length text)) 0 ≡ false = grind (arith, nat_tests) in
    rw some refl

pub length-packed_bytes : (codes : List ℕ) → length (packed_bytes codes) ≡ (6 * length codes + 7) / 8
length-packed_bytes [] = refl
length-packed_bytes (a ∷ []) = refl
length-packed_bytes (a ∷ b ∷ []) = refl
length-packed_bytes (a ∷ b ∷ c ∷ []) = refl
length-packed_bytes (a ∷ b ∷ c ∷ d ∷ more) =
    let rest = length-packed_bytes more in
    omega arith

pub length-text_payload : (text : List ℕ) → length (text_payload text) ≡ (6 * (length text + 1) + 7) / 8
unfolding text_payload
length-text_payload text =
    let codes : length (map code_of text ++ 0 ∷ []) ≡ length text + 1 = simp (length-append, length-map) in
    length-packed_bytes (map code_of text ++ 0 ∷ []) ∙ ap (λ n. (6 * n + 7) / 8) codes

pub packed_fits : (codes : List ℕ) → AllByRecursion IsSixBits codes → AllByRecursion IsByte (packed_bytes codes)
packed_fits [] h = tt
packed_fits (a ∷ []) h =
    let a_fits : a < 64 = h.0 in
    (omega arith, tt)
packed_fits (a ∷ b ∷ []) h =
    let a_fits : a < 64 = h.0 in
    let b_fits : b < 64 = h.1.0 in
    (omega arith, (omega arith, tt))
packed_fits (a ∷ b ∷ c ∷ []) h =
    let a_fits : a < 64 = h.0 in
    let b_fits : b < 64 = h.1.0 in
    let c_fits : c < 64 = h.1.1.0 in
    (omega arith, (omega arith, (omega arith, tt)))
packed_fits (a ∷ b ∷ c ∷ d ∷ more) h =
    let a_fits : a < 64 = h.0 in
    let b_fits : b < 64 = h.1.0 in
    let c_fits : c < 64 = h.1.1.0 in
    let d_fits : d < 64 = h.1.1.1.0 in
    (omega arith, (omega arith, (omega arith, packed_fits more h.1.1.1.1)))

pub text_payload-bytes : (text : List ℕ) → IsDlac text → All IsByte (text_payload text)
unfolding text_payload
text_payload-bytes text h =
    let codes = map code_of text ++ 0 ∷ [] in
    All-from_recursion IsByte (packed_bytes codes) (packed_fits codes (codes_fit text h))
