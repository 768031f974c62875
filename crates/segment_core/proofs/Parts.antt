-- The parts of a payload that is cut: where each stands in it, and how many there are.
use Rattle.std.proofs.Common.{◌≡◌, ℕ, zero, suc, ◌+◌, ◌-◌, ◌*◌, ◌/◌, ◌<◌, ◌≤◌, true, false, List, [], ◌∷◌}
use Rattle.std.proofs.Common.{◌++◌, length, take, drop, get_or, refl, sym, ap, subst, ◌∙◌, inl, inr, min, arith}
use Rattle.std.proofs.Common.{length-take, length-drop, drop-drop, take-append-drop, append-nil}
use Rattle.std.specs.List.{concat}
use Rattle.std.proofs.Math.Nat.{le-div_iff_mul-le, mul-le-mul_left}
use Rattle.std.proofs.lemmas.Bool.{cases_Bool, cond-true, cases_lt, leb-true, leb-false, not-true, not-false}
use Rattle.std.proofs.lemmas.List.Elements.{All-take, All-drop}
use Rattle.bit_fields.specs.Bits.{AreBytes}
use Rattle.fisb_time.specs.declared.form.TimeForm.{TimeForm}
use Rattle.fisb_time.specs.declared.form.TimeForm.TheVariants.{Minute, Second, DayMinute, DaySecond}
use Rattle.apdu_core.specs.Apdu.{header_length}
use Rattle.segment_core.specs.File.{File, body_limit, segment_limit, whole_limit, pieces, segments_needed, is_segmented}
use Rattle.segment_core.specs.File.{parts, parts_of, part_of}
use Rattle.segment_core.specs.OnePart.{parts-whole, one-part}
use Rattle.segment_core.specs.Cutting.{ArePartsOf, IsPart}

pub length-pieces : (count limit : ℕ) (bytes : List ℕ) → length (pieces count limit bytes) ≡ count
length-pieces zero limit bytes = refl
length-pieces (suc count) limit bytes = ap suc (length-pieces count limit (drop limit bytes))

nothing : (bytes : List ℕ) → length bytes ≤ 0 → [] ≡ bytes
nothing [] h = refl
nothing (b ∷ bytes) h = absurd (omega arith)

concat-pieces : (count limit : ℕ) (bytes : List ℕ) → length bytes ≤ count * limit → concat (pieces count limit bytes) ≡ bytes
concat-pieces zero limit bytes h = nothing bytes (omega arith)
concat-pieces (suc count) limit bytes h =
    let rest : length (drop limit bytes) ≤ count * limit = rw length-drop (omega arith) in
    ap (λ (later : List ℕ). take limit bytes ++ later) (concat-pieces count limit (drop limit bytes) rest)
    ∙ take-append-drop limit bytes

pieces-at : (count limit : ℕ) (bytes : List ℕ) (k : ℕ) → k < count → get_or (pieces count limit bytes) k []
    ≡ take limit (drop (k * limit) bytes)
pieces-at zero limit bytes k h = absurd (omega arith)
pieces-at (suc count) limit bytes zero h = let e : 0 * limit ≡ 0 = omega arith in rw e refl
pieces-at (suc count) limit bytes (suc k) h =
    let e : limit + k * limit ≡ suc k * limit = omega arith in
    pieces-at count limit (drop limit bytes) k (omega arith)
    ∙ ap (take limit) (drop-drop (k * limit) limit bytes ∙ ap (λ (n : ℕ). drop n bytes) e)

-- as many pieces as are needed hold all, and with one fewer they do not
needed_hold : (size limit : ℕ) → 0 < limit → size ≤ (size + (limit - 1)) / limit * limit
needed_hold size limit h = omega arith

needed_least : (size limit k : ℕ) → 0 < limit → k < (size + (limit - 1)) / limit → k * limit < size
needed_least size limit k h below =
    let more : suc k * limit ≤ size + (limit - 1) = (le-div_iff_mul-le {k = limit} {x = suc k} {y =
    size + (limit - 1)} h).0 (omega arith) in
    omega arith

needed_few : (size limit most : ℕ) → 0 < limit → size ≤ most * limit → (size + (limit - 1)) / limit ≤ most
needed_few size limit most h few = elim (cases_lt most ((size + (limit - 1)) / limit)) [
  | inl more ↦ let least = needed_least size limit most h more in absurd (omega arith)
  | inr e ↦ e
]

pub limit_some : (form : TimeForm) → 0 < segment_limit form
limit_some Minute = omega arith
limit_some Second = omega arith
limit_some DayMinute = omega arith
limit_some DaySecond = omega arith

limit_least : (form : TimeForm) → 413 ≤ segment_limit form
limit_least Minute = omega arith
limit_least Second = omega arith
limit_least DayMinute = omega arith
limit_least DaySecond = omega arith

headers_fit : (form : TimeForm)
    → (header_length form true + segment_limit form ≡ body_limit) × (header_length form false + whole_limit form ≡ body_limit)
headers_fit Minute = (refl, refl)
headers_fit Second = (refl, refl)
headers_fit DayMinute = (refl, refl)
headers_fit DaySecond = (refl, refl)

pub parts-cut : (form : TimeForm) (payload : List ℕ) → is_segmented form payload ≡ true
    → parts form payload ≡ pieces (segments_needed form payload) (segment_limit form) payload
parts-cut form payload cut =
    cond-true (is_segmented form payload) (pieces (segments_needed form payload) (segment_limit form) payload)
    (payload ∷ []) cut

-- a payload that is cut has a part
cut_some : (form : TimeForm) (payload : List ℕ) → is_segmented form payload ≡ true
    → 1 ≤ length (pieces (segments_needed form payload) (segment_limit form) payload)
cut_some form payload cut =
    let limit : ℕ = segment_limit form in
    let some = limit_some form in
    let long : whole_limit form < length payload = leb-false (length payload) (whole_limit form) (not-true _ cut) in
    let hold = needed_hold (length payload) limit some in
    elim (cases_lt 0 (segments_needed form payload)) [
      | inl more ↦ rw (length-pieces (segments_needed form payload) limit payload) more
      | inr none ↦
          let zero_needed : segments_needed form payload ≡ 0 = omega arith in
          let empty : length payload ≤ 0 * limit = subst (λ (n : ℕ). length payload ≤ n * limit) zero_needed hold in
          absurd (omega arith)
    ]

pub are_parts : (form : TimeForm) (payload : List ℕ) → ArePartsOf form payload
are_parts form payload = elim (cases_Bool (is_segmented form payload)) [
  | inl cut ↦ record {
    whole = ap concat (parts-cut form payload cut)
        ∙ concat-pieces (segments_needed form payload) (segment_limit form) payload (needed_hold (length payload)
        (segment_limit form) (limit_some form));
    some = rw (parts-cut form payload cut) (cut_some form payload cut);
  }
  | inr whole ↦ record {
    whole = ap concat (parts-whole form payload whole) ∙ append-nil payload;
    some = rw (parts-whole form payload whole) (omega arith);
  }
]

-- how many parts a payload that is cut has
pub parts-count : (form : TimeForm) (payload : List ℕ) → is_segmented form payload ≡ true
    → length (parts form payload) ≡ (length payload + (segment_limit form - 1)) / segment_limit form
parts-count form payload cut =
    ap length (parts-cut form payload cut) ∙ length-pieces (segments_needed form payload) (segment_limit form) payload

-- a payload has no more bytes than so many full frames
limit_most : (form : TimeForm) → segment_limit form ≤ body_limit
limit_most Minute = omega arith
limit_most Second = omega arith
limit_most DayMinute = omega arith
limit_most DaySecond = omega arith

whole_most : (form : TimeForm) → whole_limit form ≤ body_limit
whole_most Minute = omega arith
whole_most Second = omega arith
whole_most DayMinute = omega arith
whole_most DaySecond = omega arith

pub parts-hold : (form : TimeForm) (payload : List ℕ) → length payload ≤ length (parts form payload) * body_limit
parts-hold form payload = elim (cases_Bool (is_segmented form payload)) [
  | inl cut ↦
      let size : length (parts form payload) ≡ segments_needed form payload = parts-count form payload cut in
      let hold = needed_hold (length payload) (segment_limit form) (limit_some form) in
      let most = mul-le-mul_left (segments_needed form payload) (limit_most form) in
      subst (λ (n : ℕ). length payload ≤ n * body_limit) (sym size) (omega (arith, hold, most))
  | inr whole ↦
      let one : length (parts form payload) ≡ 1 = one-part form payload whole in
      let short : length payload ≤ whole_limit form = leb-true (length payload) (whole_limit form) (not-false _ whole) in
      let most = whole_most form in
      subst (λ (n : ℕ). length payload ≤ n * body_limit) (sym one) (omega (arith, short, most))
]

-- where a part stands in a payload that is cut
pub part-at : (form : TimeForm) (payload : List ℕ) (number : ℕ) → is_segmented form payload ≡ true
    → number - 1 < length (parts form payload)
    → get_or (parts form payload) (number - 1) [] ≡ take (segment_limit form) (drop ((number - 1) * segment_limit form) payload)
part-at form payload number cut below =
    let size = parts-count form payload cut in
    ap (λ (ps : List (List ℕ)). get_or ps (number - 1) []) (parts-cut form payload cut)
    ∙ pieces-at (segments_needed form payload) (segment_limit form) payload (number - 1) (omega arith)

pub part-starts : (form : TimeForm) (payload : List ℕ) (number : ℕ) → is_segmented form payload ≡ true
    → number - 1 < length (parts form payload) → (number - 1) * segment_limit form < length payload
part-starts form payload number cut below =
    let size = parts-count form payload cut in
    needed_least (length payload) (segment_limit form) (number - 1) (limit_some form) (omega arith)

part_cut : (f : File) (number : ℕ) → is_segmented f.form f.payload ≡ true → number - 1 < length (parts_of f) → IsPart f number
part_cut f number cut below =
    let limit : ℕ = segment_limit f.form in
    let at = part-at f.form f.payload number cut below in
    let left = part-starts f.form f.payload number cut below in
    let some = limit_some f.form in
    let fit = (headers_fit f.form).0 in
    let header : header_length f.form (is_segmented f.form f.payload) ≡ header_length f.form true =
    ap (header_length f.form) cut in
    let long : length (part_of f number) ≡ min limit (length f.payload - (number - 1) * limit) =
    ap length at ∙ length-take limit (drop ((number - 1) * limit) f.payload)
    ∙ ap (min limit) (length-drop ((number - 1) * limit) f.payload) in
    record {
      fits = omega (arith, header, long, fit);
      filled = λ e. omega (arith, long, left, some);
      bytes = λ all. subst AreBytes (sym at)
          (All-take (λ (byte : ℕ). byte < 256) limit (drop ((number - 1) * limit) f.payload)
          (All-drop (λ (byte : ℕ). byte < 256) ((number - 1) * limit) f.payload all));
    }

part_whole : (f : File) (number : ℕ) → is_segmented f.form f.payload ≡ false → number ≡ 1 → IsPart f number
part_whole f number whole first =
    let at : part_of f number ≡ f.payload =
    ap (λ (n : ℕ). part_of f n) first ∙ ap (λ (ps : List (List ℕ)). get_or ps 0 []) (parts-whole f.form f.payload whole) in
    let short : length f.payload ≤ whole_limit f.form = leb-true (length f.payload) (whole_limit f.form) (not-false _ whole) in
    let fit = (headers_fit f.form).1 in
    let header : header_length f.form (is_segmented f.form f.payload) ≡ header_length f.form false =
    ap (header_length f.form) whole in
    let long = ap length at in
    record {
      fits = omega (arith, header, long, fit, short);
      filled = λ e. absurd (cc);
      bytes = λ all. subst AreBytes (sym at) all;
    }

pub is_part : (f : File) (number : ℕ) → 1 ≤ number → number ≤ length (parts_of f) → IsPart f number
is_part f number some most = elim (cases_Bool (is_segmented f.form f.payload)) [
  | inl cut ↦ part_cut f number cut (omega arith)
  | inr whole ↦
      let one : length (parts_of f) ≡ 1 = one-part f.form f.payload whole in
      part_whole f number whole (omega arith)
]

pub parts-few : (form : TimeForm) (payload : List ℕ) (most : ℕ) → 1 ≤ most → length payload ≤ most * segment_limit form
    → length (parts form payload) ≤ most
parts-few form payload most some few = elim (cases_Bool (is_segmented form payload)) [
  | inl cut ↦
      let size : length (parts form payload) ≡ segments_needed form payload =
      ap length (parts-cut form payload cut) ∙ length-pieces (segments_needed form payload) (segment_limit form) payload in
      let fewer = needed_few (length payload) (segment_limit form) most (limit_some form) few in omega arith
  | inr whole ↦ let one : length (parts form payload) ≡ 1 = one-part form payload whole in omega arith
]

pub parts-text : (form : TimeForm) (payload : List ℕ) → length payload ≤ 12289 → length (parts form payload) ≤ 30
parts-text form payload few =
    let least = limit_least form in parts-few form payload 30 (omega arith) (omega arith)
