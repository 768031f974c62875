-- What is written of an APDU.
use Rattle.std.proofs.Common.{◌≡◌, ℕ, zero, suc, ◌+◌, ◌-◌, ◌*◌, ◌%◌, ◌^◌, ◌<◌, ◌≤◌, Bool, is_some, Ok, List, [], ◌∷◌, ◌++◌, length, take, drop, refl, sym, ap, ◌∙◌, arith, length-append, append_assoc}
use Rattle.std.proofs.lemmas.Nat.{shl_whole, pow_pos}
use Rattle.std.proofs.lemmas.List.{take_at, drop_at, drop-drop, take_all}
use Rattle.std.proofs.lemmas.List.Elements.{All-append}
use Rattle.std.specs.Int.{bytes_high_first}
use Rattle.fisb_time.specs.declared.form.TimeForm.{TimeForm}
use Rattle.bit_fields.specs.Bits.{Field, as_number}
use Rattle.bit_fields.specs.BytesAsNumbers.{IsByte, bytes_high_first-bytes}
use Rattle.apdu_core.specs.Apdu.{Apdu, header_width, header_length, header_fields, fill_width, apdu_header, apdu_bytes, apdu_of}
use Rattle.apdu_core.specs.Spelling.{FitsApdu, AreBytes, SpellsApdu}
use Rattle.apdu_core.proofs.ByteLemmas.{length-bytes_high_first}
use Rattle.apdu_core.proofs.HeaderLemmas.{fields_with}
use Rattle.apdu_core.proofs.ApduLemmas.{header_most, read-from_spelled}

pub reads_back : (a : Apdu) → FitsApdu a → AreBytes a.payload → apdu_of (apdu_bytes a) ≡ Ok a
reads_back a fits payload =
    let spelled : SpellsApdu (apdu_bytes a) a = (0, record { fits = fits; fill_fits = pow_pos (fill_width a); payload = payload; bits = refl }) in
    read-from_spelled (apdu_bytes a) a spelled

pub size_of_header : (a : Apdu) → length (apdu_header a) ≡ header_length a.form (is_some a.segmentation)
size_of_header a = length-bytes_high_first (header_length a.form (is_some a.segmentation)) (as_number 0 (fields_with 0 a))

pub size_of_bytes : (a : Apdu) → length (apdu_bytes a) ≡ header_length a.form (is_some a.segmentation) + length a.payload
size_of_bytes a = length-append (apdu_header a) a.payload ∙ ap (λ (n : ℕ). n + length a.payload) (size_of_header a)

pub bytes_of_bytes : (a : Apdu) → AreBytes a.payload → AreBytes (apdu_bytes a)
bytes_of_bytes a payload =
    All-append IsByte (apdu_header a) a.payload (bytes_high_first-bytes (header_length a.form (is_some a.segmentation)) (as_number 0 (fields_with 0 a))) payload

joined-append : (xs ys : List Field) (bits : ℕ) → as_number bits (xs ++ ys) ≡ as_number (as_number bits xs) ys
joined-append [] ys bits = refl
joined-append (x ∷ xs) ys bits = joined-append xs ys (bits * 2 ^ x.width + x.number)

-- the lowest bytes of a number stand at the end
lowest : (more n total x : ℕ) → total ≡ more + n → drop more (bytes_high_first total x) ≡ bytes_high_first n x
lowest zero n total x e = let same : total ≡ n = omega arith in rw same refl
lowest (suc more) n zero x e = absurd (omega arith)
lowest (suc more) n (suc total) x e = lowest more n total x (omega arith)

fill_most : (form : TimeForm) (s : Bool) → 8 * header_length form s - header_width form s ≤ 7
fill_most form s = omega arith

-- the end of the sixteen bytes of the fields and the fill
pub header_at_end : (a : Apdu) (number n fill : ℕ) → number ≡ as_number 0 (header_fields a) → number < 2 ^ 71 → n ≡ header_length a.form (is_some a.segmentation) → n ≤ 9 → fill ≡ fill_width a
    → take (16 - (16 - n)) (drop (16 - n) (bytes_high_first 16 (number * 2 ^ fill % 2 ^ 128))) ≡ apdu_header a
header_at_end a number n fill is fits size most fill_is =
    let seven = fill_most a.form (is_some a.segmentation) in
    let small : fill ≤ 7 = omega arith in
    let shifted = shl_whole number 71 fill 128 fits (omega arith) in
    let behind : as_number 0 (fields_with 0 a) ≡ as_number 0 (header_fields a) * 2 ^ fill_width a + 0 = joined-append (header_fields a) (record { width = fill_width a; number = 0 } ∷ []) 0 in
    let value : number * 2 ^ fill ≡ as_number 0 (fields_with 0 a) =
    ap (λ (k : ℕ). number * 2 ^ k) fill_is ∙ ap (λ (x : ℕ). x * 2 ^ fill_width a) is ∙ omega (arith, behind) in
    let cut = lowest (16 - n) n 16 (number * 2 ^ fill % 2 ^ 128) (omega arith) in
    let whole : take (16 - (16 - n)) (bytes_high_first n (number * 2 ^ fill % 2 ^ 128)) ≡ bytes_high_first n (number * 2 ^ fill % 2 ^ 128) =
    take_all (16 - (16 - n)) (bytes_high_first n (number * 2 ^ fill % 2 ^ 128)) (omega (arith, length-bytes_high_first n (number * 2 ^ fill % 2 ^ 128))) in
    ap (take (16 - (16 - n))) cut ∙ whole
    ∙ ap (bytes_high_first n) (shifted ∙ value)
    ∙ ap (λ (k : ℕ). bytes_high_first k (as_number 0 (fields_with 0 a))) size

-- two parts that are written one behind the other at the front of a room
pub placed : (header payload room : List ℕ) (n p : ℕ) → length header ≡ n → length payload ≡ p
    → take n (header ++ drop n room) ++ (payload ++ drop (n + p - n) (drop n (header ++ drop n room))) ≡ (header ++ payload) ++ drop (length (header ++ payload)) room
placed header payload room n p size payload_size =
    let lengths = length-append header payload in
    let all : length (header ++ payload) ≡ n + p = omega arith in
    let back : n + p - n ≡ p = omega arith in
    rw (take_at header (drop n room) n size, drop_at header (drop n room) n size, back, drop-drop p n room, all, append_assoc header payload (drop (n + p) room)) refl

pub header_size : (a : Apdu) (s : Bool) (n : ℕ) → s ≡ is_some a.segmentation → n ≡ header_length a.form s → n ≡ length (apdu_header a)
header_size a s n segmented size = size ∙ ap (header_length a.form) segmented ∙ sym (size_of_header a)

-- the header that is cut out of sixteen bytes
pub header_written :
    (a : Apdu) (s : Bool) (number n width : ℕ) (bytes : List ℕ) → s ≡ is_some a.segmentation → n ≡ header_length a.form s → width ≡ header_width a.form s
    → number ≡ as_number 0 (header_fields a) → number < 2 ^ 71 → bytes ≡ bytes_high_first 16 (number * 2 ^ (8 * n - width) % 2 ^ 128)
    → take (16 - (16 - n)) (drop (16 - n) bytes) ≡ apdu_header a
header_written a s number n width bytes segmented size width_is is fits bytes_are =
    let whole : n ≡ header_length a.form (is_some a.segmentation) = size ∙ ap (header_length a.form) segmented in
    let fill : 8 * n - width ≡ fill_width a =
    ap (λ (k : ℕ). 8 * k - width) whole
    ∙ ap (λ (w : ℕ). 8 * header_length a.form (is_some a.segmentation) - w) (width_is ∙ ap (header_width a.form) segmented) in
    let most : n ≤ 9 = rw whole (header_most a.form (is_some a.segmentation)) in
    ap (λ (b : List ℕ). take (16 - (16 - n)) (drop (16 - n) b)) bytes_are ∙ header_at_end a number n (8 * n - width) is fits whole most fill
