-- A body is read as an APDU exactly where it spells that APDU.
use Rattle.std.proofs.Common.{◌≡◌, ℕ, ◌+◌, ◌-◌, ◌*◌, ◌/◌, ◌%◌, ◌^◌, ◌<◌, ◌≤◌, ◌==◌, nat_lt, not, ◌&&◌, Bool, true, false, if◌then◌else◌, Option, None, Some, is_some, Result, Ok, Err, List, [], ◌∷◌, ◌++◌, length, take, drop, refl, sym, ap, ◌∙◌, arith, rules, subst, inl, inr, length-append, append_assoc}
use Rattle.std.proofs.lemmas.Bool.{cases_Bool, cases_eq, cond-true, cond-false, ltb-false, le-ltb, lt-ltb, ne_eqb, eqb-true, not-false}
use Rattle.std.proofs.lemmas.Bool.Decides.{nat_tests}
use Rattle.std.proofs.lemmas.Nat.{shr-shr, shr_high}
use Rattle.std.proofs.lemmas.List.{take-append-drop, take_at, drop_at, take-append-le}
use Rattle.std.proofs.lemmas.List.Elements.{All-take, All-drop}
use Rattle.std.specs.Int.{bytes_high_first}
use Rattle.fisb_time.specs.declared.form.TimeForm.{TimeForm}
use Rattle.fisb_time.specs.declared.form.TimeForm.TheVariants.{Minute, Second, DayMinute, DaySecond}
use Rattle.fisb_time.specs.declared.form.TimeFields.{TimeFields}
use Rattle.list_members.specs.Each.{AllByRecursion-front, AllByRecursion-back}
use Rattle.list_members.specs.Tests.{ok_past_test}
use Rattle.bit_fields.specs.Bits.{Field, as_number, number_of, field_at}
use Rattle.apdu_core.specs.declared.apdu.Seg.{Seg}
use Rattle.apdu_core.specs.declared.fault.ApduFault.{ApduFault}
use Rattle.apdu_core.specs.declared.fault.ApduFault.TheVariants.{Short, Flagged, BadSegment}
use Rattle.apdu_core.specs.Apdu.{Apdu, form_number, form_of, time_fields, segment_fields, time_width, header_width, header_length, header_fields, header_with, fill_width, time_in, segmentation_in, form_in, is_segmented_in, is_bad, apdu_of_header, apdu_of}
use Rattle.apdu_core.specs.Spelling.{FitsTime, FitsSegment, FitsSegmentation, FitsApdu, AreBytes, SpellsApdu, IsReadingOf}
use Rattle.bit_fields.specs.BitsBack.{bit_back, bit_of_test}
use Rattle.bit_fields.specs.BytesAsNumbers.{IsByte, number_of-append, number_of-fits, bytes_high_first-bytes}
use Rattle.apdu_core.proofs.ByteLemmas.{length-bytes_high_first}
use Rattle.apdu_core.proofs.FieldLemmas.{IsWithin, AreWithin, AreAt, bytes-from_at, at-from_bytes}
use Rattle.apdu_core.proofs.HeaderLemmas.{fields_with, whole, time-from_at, at-from_time, segment-from_at, at-from_segment, within-from_fits, time_in-fits}

-- a field of the front of some bytes is that field of all of them
pub field_in_front : (xs ys : List ℕ) (place width : ℕ) → AreBytes ys → place + width ≤ 8 * length xs → field_at (xs ++ ys) place width ≡ field_at xs place width
field_in_front xs ys place width h fits =
    let low = 8 * length ys in
    let rest = 8 * length xs - place - width in
    let lengths = length-append xs ys in
    let place_is : 8 * length (xs ++ ys) - place - width ≡ low + rest = omega arith in
    let number = number_of-append xs ys 0 in
    let high = shr_high (number_of xs) low (number_of ys) (number_of-fits ys h) in
    ap (λ (k : ℕ). number_of (xs ++ ys) / 2 ^ k % 2 ^ width) place_is
    ∙ ap (λ (n : ℕ). n % 2 ^ width) (sym (shr-shr (number_of (xs ++ ys)) low rest))
    ∙ ap (λ (n : ℕ). n / 2 ^ low / 2 ^ rest % 2 ^ width) number
    ∙ ap (λ (n : ℕ). n / 2 ^ rest % 2 ^ width) high

-- the same of the first four bytes
pub field_in_four : (header payload : List ℕ) (place width : ℕ) → AreBytes header → 4 ≤ length header → place + width ≤ 32
    → field_at (take 4 (header ++ payload)) place width ≡ field_at header place width
field_in_four header payload place width h enough fits =
    let front : take 4 (header ++ payload) ≡ take 4 header = take-append-le 4 header payload enough in
    let size : length (take 4 header) ≡ 4 = search (rules, enough) in
    let within : place + width ≤ 8 * length (take 4 header) = omega (arith, size) in
    ap (λ (bytes : List ℕ). field_at bytes place width) front
    ∙ sym (field_in_front (take 4 header) (drop 4 header) place width (All-drop IsByte 4 header h) within)
    ∙ ap (λ (bytes : List ℕ). field_at bytes place width) (take-append-drop 4 header)

pub header_least : (form : TimeForm) (is_segmented : Bool) → 4 ≤ header_length form is_segmented
header_least Minute false = omega arith
header_least Minute true = omega arith
header_least Second false = omega arith
header_least Second true = omega arith
header_least DayMinute false = omega arith
header_least DayMinute true = omega arith
header_least DaySecond false = omega arith
header_least DaySecond true = omega arith

pub header_most : (form : TimeForm) (is_segmented : Bool) → header_length form is_segmented ≤ 9
header_most Minute false = omega arith
header_most Minute true = omega arith
header_most Second false = omega arith
header_most Second true = omega arith
header_most DayMinute false = omega arith
header_most DayMinute true = omega arith
header_most DaySecond false = omega arith
header_most DaySecond true = omega arith

form_back : (form : TimeForm) → form_of (form_number form) ≡ form
form_back Minute = refl
form_back Second = refl
form_back DayMinute = refl
form_back DaySecond = refl

-- what the tests of a reader let through
passed : (a b c : Bool) (r : Result Apdu ApduFault) (v : Apdu) → (if a then Err Short else (if b then Err Flagged else (if c then Err Short else r))) ≡ Ok v
    → (a ≡ false) × (b ≡ false) × (c ≡ false) × (r ≡ Ok v)
passed a b c r v e =
    let first = ok_past_test a Short _ v e in
    let second = ok_past_test b Flagged _ v first.1 in
    let third = ok_past_test c Short r v second.1 in
    (first.0, second.0, third.0, third.1)

pass : (a b c : Bool) (r : Result Apdu ApduFault) → a ≡ false → b ≡ false → c ≡ false → (if a then Err Short else (if b then Err Flagged else (if c then Err Short else r))) ≡ r
pass a b c r p q s = rw (p, q, s) refl

-- a segment that fits is not bad
good : (s : Seg) → FitsSegment s → is_bad s ≡ false
good s h =
    let first = h.first in
    let last = h.last in
    grind (arith, nat_tests)

-- the header has these values at their places
record IsHeaderOf (a : Apdu) (header : List ℕ) : Type 0 where
  flags : 0 ≡ field_at header 0 3
  product : a.product ≡ field_at header 3 11
  segmented : (if is_some a.segmentation then 1 else 0) ≡ field_at header 14 1
  form : form_number a.form ≡ field_at header 15 2
  time : a.time ≡ time_in a.form header
  segmentation : a.segmentation ≡ (if is_some a.segmentation then Some (segmentation_in a.form header) else None)

same_segmentation : (form : TimeForm) (s : Option Seg) (header : List ℕ) (rest : List Field) → AreAt header (17 + time_width form) (segment_fields s ++ rest)
    → s ≡ (if is_some s then Some (segmentation_in form header) else None)
same_segmentation form None header rest h = refl
same_segmentation form (Some s) header rest h = ap (λ (x : Seg). Some x) (segment-from_at form s header rest h)

header-from_at : (fill : ℕ) (a : Apdu) (header : List ℕ) → FitsApdu a → AreAt header 0 (fields_with fill a) → IsHeaderOf a header
header-from_at fill a header fits h =
    let last : List Field = record { width = fill_width a; number = fill } ∷ [] in
    let tail : AreAt header 17 ((time_fields a.form a.time ++ segment_fields a.segmentation) ++ last) = h.1.1.1.1 in
    let tail_split : AreAt header 17 (time_fields a.form a.time ++ (segment_fields a.segmentation ++ last)) = rw (append_assoc (time_fields a.form a.time) (segment_fields a.segmentation) last) at tail in
    let time = time-from_at a.form a.time header (segment_fields a.segmentation ++ last) fits.time tail_split in
    record {
      flags = h.0;
      product = h.1.0;
      segmented = h.1.1.0;
      form = h.1.1.1.0;
      time = time.0;
      segmentation = same_segmentation a.form a.segmentation header last time.1;
    }

same_apdu : (a : Apdu) (product : ℕ) (form : TimeForm) (time : TimeFields) (segmentation : Option Seg) (payload : List ℕ)
    → a.product ≡ product → a.form ≡ form → a.time ≡ time → a.segmentation ≡ segmentation → a.payload ≡ payload
    → a ≡ record { product = product; form = form; time = time; segmentation = segmentation; payload = payload }
same_apdu a product form time segmentation payload p q r u v =
    let made : Apdu = record { product = a.product; form = a.form; time = a.time; segmentation = a.segmentation; payload = a.payload } in
    let same : made ≡ record { product = product; form = form; time = time; segmentation = segmentation; payload = payload } = cc in
    same

not_bad : (o : Option Seg) (s : Seg) → FitsSegmentation o → o ≡ (if is_some o then Some s else None) → (is_some o && is_bad s) ≡ false
not_bad None s fits e = refl
not_bad (Some t) s fits e = let same : t ≡ s = cc in subst (λ (x : Seg). is_bad x ≡ false) same (good t fits)

-- what is read of a header that has these values
read-from_header : (a : Apdu) (header : List ℕ) → IsHeaderOf a header → FitsSegmentation a.segmentation → apdu_of_header a.form (is_some a.segmentation) header a.payload ≡ Ok a
read-from_header a header h fits =
    let value : Apdu = record {
      product = field_at header 3 11;
      form = a.form;
      time = time_in a.form header;
      segmentation = if is_some a.segmentation then Some (segmentation_in a.form header) else None;
      payload = a.payload;
    } in
    let same : a ≡ value = same_apdu a _ _ _ _ _ h.product refl h.time h.segmentation refl in
    cond-false (is_some a.segmentation && is_bad (segmentation_in a.form header)) (Err BadSegment) (Ok value) (not_bad a.segmentation (segmentation_in a.form header) fits h.segmentation)
    ∙ ap (λ (x : Apdu). Ok x) (sym same)

-- a body whose header has these values is read as them
apdu_of-header : (a : Apdu) (header : List ℕ) → AreBytes header → length header ≡ header_length a.form (is_some a.segmentation) → IsHeaderOf a header → FitsSegmentation a.segmentation
    → apdu_of (header ++ a.payload) ≡ Ok a
unfolding apdu_of
apdu_of-header a header b size h fits =
    let body = header ++ a.payload in
    let step : TimeForm → Bool → Result Apdu ApduFault = λ f s. apdu_of_header f s (take (header_length f s) body) (drop (header_length f s) body) in
    let least = header_least a.form (is_some a.segmentation) in
    let enough : 4 ≤ length header = omega arith in
    let lengths = length-append header a.payload in
    let there : nat_lt (length body) 4 ≡ false = le-ltb (length body) 4 (omega arith) in
    let flags_are : field_at (take 4 body) 0 3 ≡ 0 = field_in_four header a.payload 0 3 b enough (omega arith) ∙ sym h.flags in
    let no_flags : not (field_at (take 4 body) 0 3 == 0) ≡ false = ap (λ (n : ℕ). not (n == 0)) flags_are in
    let form : form_in body ≡ a.form = ap form_of (field_in_four header a.payload 15 2 b enough (omega arith) ∙ sym h.form) ∙ form_back a.form in
    let segmented : is_segmented_in body ≡ is_some a.segmentation =
    ap (λ (n : ℕ). n == 1) (field_in_four header a.payload 14 1 b enough (omega arith) ∙ sym h.segmented) ∙ bit_back (is_some a.segmentation) _ refl in
    let same_size : header_length (form_in body) (is_segmented_in body) ≡ header_length a.form (is_some a.segmentation) =
    ap (λ (f : TimeForm). header_length f (is_segmented_in body)) form ∙ ap (header_length a.form) segmented in
    let there_whole : nat_lt (length body) (header_length (form_in body) (is_segmented_in body)) ≡ false =
    le-ltb (length body) (header_length (form_in body) (is_segmented_in body)) (omega arith) in
    pass (nat_lt (length body) 4) (not (field_at (take 4 body) 0 3 == 0)) (nat_lt (length body) (header_length (form_in body) (is_segmented_in body)))
    (step (form_in body) (is_segmented_in body)) there no_flags there_whole
    ∙ ap (λ (f : TimeForm). step f (is_segmented_in body)) form
    ∙ ap (step a.form) segmented
    ∙ ap (λ (bytes : List ℕ). apdu_of_header a.form (is_some a.segmentation) bytes (drop (header_length a.form (is_some a.segmentation)) body)) (take_at header a.payload _ size)
    ∙ ap (λ (bytes : List ℕ). apdu_of_header a.form (is_some a.segmentation) header bytes) (drop_at header a.payload _ size)
    ∙ read-from_header a header h fits

-- a body that spells an APDU is read as that APDU
pub read-from_spelled : (body : List ℕ) (a : Apdu) → SpellsApdu body a → apdu_of body ≡ Ok a
read-from_spelled body a (fill, h) =
    let n = header_length a.form (is_some a.segmentation) in
    let number = as_number 0 (fields_with fill a) in
    let header = bytes_high_first n number in
    let size = length-bytes_high_first n number in
    let there = at-from_bytes (fields_with fill a) n (whole fill a) (within-from_fits fill a h.fits h.fill_fits) size in
    ap apdu_of h.bits ∙ apdu_of-header a header (bytes_high_first-bytes n number) size (header-from_at fill a header h.fits there) h.fits.segmentation

-- the other way round: the fields of what is read stand in the header
at-from_fill : (form : TimeForm) (s : Option Seg) (header : List ℕ) (width : ℕ) → s ≡ (if is_some s then Some (segmentation_in form header) else None)
    → AreAt header (17 + time_width form) (segment_fields s ++ record { width = width; number = field_at header (header_width form (is_some s)) width } ∷ [])
at-from_fill form None header width e =
    let place : 17 + time_width form + 0 ≡ 17 + time_width form = omega arith in
    (ap (λ (k : ℕ). field_at header k width) place, tt)
at-from_fill form (Some s) header width e =
    let same : segmentation_in form header ≡ s = cc in
    let place : 17 + time_width form + 28 ≡ 45 + time_width form = omega arith in
    let last : List Field = record { width = width; number = field_at header (17 + time_width form + 28) width } ∷ [] in
    let behind : AreAt header (45 + time_width form) last = (ap (λ (k : ℕ). field_at header k width) place, tt) in
    subst (λ (x : Seg). AreAt header (17 + time_width form) (segment_fields (Some x) ++ last)) same (at-from_segment form header last behind)

-- the fill of a header
abbrev fill_in : Apdu → List ℕ → ℕ
fill_in a header = field_at header (header_width a.form (is_some a.segmentation)) (fill_width a)

at-from_header : (a : Apdu) (header : List ℕ) → IsHeaderOf a header → AreAt header 0 (fields_with (fill_in a header) a)
at-from_header a header h =
    let last : List Field = record { width = fill_width a; number = fill_in a header } ∷ [] in
    let behind : AreAt header (17 + time_width a.form) (segment_fields a.segmentation ++ last) = at-from_fill a.form a.segmentation header (fill_width a) h.segmentation in
    let timed : AreAt header 17 (time_fields a.form a.time ++ (segment_fields a.segmentation ++ last)) =
    subst (λ (t : TimeFields). AreAt header 17 (time_fields a.form t ++ (segment_fields a.segmentation ++ last))) (sym h.time)
    (at-from_time a.form header (segment_fields a.segmentation ++ last) behind) in
    let tail : AreAt header 17 ((time_fields a.form a.time ++ segment_fields a.segmentation) ++ last) =
    rw (append_assoc (time_fields a.form a.time) (segment_fields a.segmentation) last) timed in
    (h.flags, (h.product, (h.segmented, (h.form, tail))))

-- the segment that is read is none or a good one
abbrev IsGood : Option Seg → Type 0
IsGood None = Unit {0}
IsGood (Some s) = is_bad s ≡ false

good_parts : (s : Seg) → is_bad s ≡ false → (1 ≤ s.number) × (s.number ≤ s.count)
good_parts s h = (grind (arith, nat_tests), grind (arith, nat_tests))

fits-from_within : (s : Option Seg) → AreWithin (segment_fields s) → IsGood s → FitsSegmentation s
fits-from_within None w g = tt
fits-from_within (Some s) w g =
    let parts = good_parts s g in
    record { file = w.0; count = w.1.0; first = parts.0; last = parts.1 }

spelled-from_header : (a : Apdu) (header : List ℕ) → AreBytes header → AreBytes a.payload → length header ≡ header_length a.form (is_some a.segmentation)
    → IsHeaderOf a header → FitsTime a.form a.time → IsGood a.segmentation → SpellsApdu (header ++ a.payload) a
spelled-from_header a header b payload size h time g =
    let fill = fill_in a header in
    let last : List Field = record { width = fill_width a; number = fill } ∷ [] in
    let both = bytes-from_at (fields_with fill a) header b (whole fill a ∙ ap (λ (n : ℕ). 8 * n) (sym size)) (at-from_header a header h) in
    let within : AreWithin (header_fields a ++ last) = both.0 in
    let front = AllByRecursion-front IsWithin (header_fields a) last within in
    let back = AllByRecursion-back IsWithin (header_fields a) last within in
    let segment = AllByRecursion-back IsWithin (time_fields a.form a.time) (segment_fields a.segmentation) front.1.1.1.1 in
    let fits : FitsApdu a = record { product = front.1.0; time = time; segmentation = fits-from_within a.segmentation segment g } in
    let same : header ≡ header_with fill a = both.1 ∙ ap (λ (n : ℕ). bytes_high_first n (as_number 0 (fields_with fill a))) size in
    (fill, record { fits = fits; fill_fits = back.0; payload = payload; bits = ap (λ (bytes : List ℕ). bytes ++ a.payload) same })

-- what is read of a header is spelled
spelled-from_read : (form : TimeForm) (s : Bool) (header payload : List ℕ) → AreBytes header → AreBytes payload → length header ≡ header_length form s
    → 0 ≡ field_at header 0 3 → (if s then 1 else 0) ≡ field_at header 14 1 → form_number form ≡ field_at header 15 2
    → (a : Apdu) → apdu_of_header form s header payload ≡ Ok a → SpellsApdu (header ++ payload) a
spelled-from_read form false header payload b p size flags segmented number a e =
    let value : Apdu = record { product = field_at header 3 11; form = form; time = time_in form header; segmentation = None; payload = payload } in
    let same : value ≡ a = cc in
    let values : IsHeaderOf value header = record { flags = flags; product = refl; segmented = segmented; form = number; time = refl; segmentation = refl } in
    subst (λ (x : Apdu). SpellsApdu (header ++ payload) x) same (spelled-from_header value header b p size values (time_in-fits form header) tt)
spelled-from_read form true header payload b p size flags segmented number a e =
    let segment = segmentation_in form header in
    let value : Apdu = record { product = field_at header 3 11; form = form; time = time_in form header; segmentation = Some segment; payload = payload } in
    elim (cases_Bool (is_bad segment)) [
      | inl bad ↦ let refused : Err BadSegment ≡ Ok a = sym (cond-true (is_bad segment) (Err BadSegment) (Ok value) bad) ∙ e in absurd (cc)
      | inr good ↦
          let taken : Ok value ≡ Ok a = sym (cond-false (is_bad segment) (Err BadSegment) (Ok value) good) ∙ e in
          let same : value ≡ a = cc in
          let values : IsHeaderOf value header = record { flags = flags; product = refl; segmented = segmented; form = number; time = refl; segmentation = refl } in
          subst (λ (x : Apdu). SpellsApdu (header ++ payload) x) same (spelled-from_header value header b p size values (time_in-fits form header) good)
    ]

form_number_back : (n : ℕ) → n < 4 → form_number (form_of n) ≡ n
form_number_back n h =
    elim (cases_eq n 0) [
      | inl e ↦ rw e refl
      | inr not_0 ↦ elim (cases_eq n 1) [
        | inl e ↦ rw e refl
        | inr not_1 ↦ elim (cases_eq n 2) [
          | inl e ↦ rw e refl
          | inr not_2 ↦ let e : n ≡ 3 = omega arith in rw e refl
        ]
      ]
    ]

-- a body that is read as an APDU spells that APDU
pub spelled-from_body : (body : List ℕ) (a : Apdu) → AreBytes body → apdu_of body ≡ Ok a → SpellsApdu body a
unfolding apdu_of
spelled-from_body body a b e =
    let form = form_in body in
    let s = is_segmented_in body in
    let n = header_length form s in
    let tests = passed (nat_lt (length body) 4) (not (field_at (take 4 body) 0 3 == 0)) (nat_lt (length body) n) (apdu_of_header form s (take n body) (drop n body)) a e in
    let enough : n ≤ length body = ltb-false (length body) n tests.2 in
    let header = take n body in
    let payload = drop n body in
    let least = header_least form s in
    let size : length header ≡ n = search (rules, enough) in
    let whole_body : header ++ payload ≡ body = take-append-drop n body in
    let header_bytes = All-take IsByte n body b in
    let same : (place width : ℕ) → place + width ≤ 32 → field_at (take 4 body) place width ≡ field_at header place width = λ place width fits.
    ap (λ (bytes : List ℕ). field_at (take 4 bytes) place width) (sym whole_body) ∙ field_in_four header payload place width header_bytes (omega arith) fits in
    let flags : 0 ≡ field_at header 0 3 =
    sym (eqb-true (field_at (take 4 body) 0 3) 0 (not-false (field_at (take 4 body) 0 3 == 0) tests.1)) ∙ same 0 3 (omega arith) in
    let segmented : (if s then 1 else 0) ≡ field_at header 14 1 = bit_of_test (field_at (take 4 body) 14 1) (omega arith) ∙ same 14 1 (omega arith) in
    let number : form_number form ≡ field_at header 15 2 = form_number_back (field_at (take 4 body) 15 2) (omega arith) ∙ same 15 2 (omega arith) in
    subst (λ (bytes : List ℕ). SpellsApdu bytes a) whole_body
    (spelled-from_read form s header payload header_bytes (All-drop IsByte n body b) size flags segmented number a tests.3)

-- a list of bytes is read as an APDU exactly where it spells that APDU
pub reading_of : (body : List ℕ) → AreBytes body → IsReadingOf body (apdu_of body)
reading_of body b = λ a. (spelled-from_body body a b, read-from_spelled body a)

pub reading_of-same : (body : List ℕ) (answer : Result Apdu ApduFault) → AreBytes body → answer ≡ apdu_of body → IsReadingOf body answer
reading_of-same body answer b e = subst (λ (r : Result Apdu ApduFault). IsReadingOf body r) (sym e) (reading_of body b)

-- the bodies that are refused, and the one whose header is read
pub apdu_of-short : (body : List ℕ) → length body < 4 → apdu_of body ≡ Err Short
unfolding apdu_of
apdu_of-short body h = rw (lt-ltb (length body) 4 h) refl

pub apdu_of-flagged : (body : List ℕ) → 4 ≤ length body → (field_at (take 4 body) 0 3 ≡ 0 → ⊥) → apdu_of body ≡ Err Flagged
unfolding apdu_of
apdu_of-flagged body h flag = rw (le-ltb (length body) 4 h, ne_eqb (field_at (take 4 body) 0 3) 0 flag) refl

abbrev length_in : List ℕ → ℕ
length_in body = header_length (form_in body) (is_segmented_in body)

pub apdu_of-cut : (body : List ℕ) (form : TimeForm) (s : Bool) → 4 ≤ length body → field_at (take 4 body) 0 3 ≡ 0 → form ≡ form_in body → s ≡ is_segmented_in body
    → length body < header_length form s → apdu_of body ≡ Err Short
unfolding apdu_of
apdu_of-cut body form s h flags form_is s_is cut =
    let size : header_length (form_in body) (is_segmented_in body) ≡ header_length form s =
    ap (λ (f : TimeForm). header_length f (is_segmented_in body)) (sym form_is) ∙ ap (header_length form) (sym s_is) in
    rw (le-ltb (length body) 4 h, flags, lt-ltb (length body) (length_in body) (omega arith)) refl

pub apdu_of-whole : (body : List ℕ) (form : TimeForm) (s : Bool) → 4 ≤ length body → field_at (take 4 body) 0 3 ≡ 0 → form ≡ form_in body → s ≡ is_segmented_in body
    → header_length form s ≤ length body
    → apdu_of body ≡ apdu_of_header form s (take (header_length form s) body) (drop (header_length form s) body)
unfolding apdu_of
apdu_of-whole body form s h flags form_is s_is enough =
    let step : TimeForm → Bool → Result Apdu ApduFault = λ f t. apdu_of_header f t (take (header_length f t) body) (drop (header_length f t) body) in
    let no_flags : not (field_at (take 4 body) 0 3 == 0) ≡ false = ap (λ (n : ℕ). not (n == 0)) flags in
    let size : header_length (form_in body) (is_segmented_in body) ≡ header_length form s =
    ap (λ (f : TimeForm). header_length f (is_segmented_in body)) (sym form_is) ∙ ap (header_length form) (sym s_is) in
    pass (nat_lt (length body) 4) (not (field_at (take 4 body) 0 3 == 0)) (nat_lt (length body) (length_in body)) (step (form_in body) (is_segmented_in body))
    (le-ltb (length body) 4 h) no_flags (le-ltb (length body) (length_in body) (omega arith))
    ∙ ap (λ (f : TimeForm). step f (is_segmented_in body)) (sym form_is)
    ∙ ap (step form) (sym s_is)
