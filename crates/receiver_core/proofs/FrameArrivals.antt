-- What is known of an arrival by the information frame that it was.
use Rattle.std.proofs.Common.{◌≡◌, ℕ, ◌+◌, ◌≤◌, Bool, true, false, cond, not, ◌&&◌, List, length, take, drop, Option, Some, None, is_some, Result, Ok, Err, refl, sym, ap, subst, ◌∙◌, arith}
use Rattle.std.specs.Prelude.{◌==◌, nat_lt}
use Rattle.std.proofs.lemmas.Bool.{eqb-false, ltb-false, or_parts}
use Rattle.std.proofs.lemmas.List.{length-drop}
use Rattle.list_members.specs.Tests.{ok_past_test, some_by_test}
use Rattle.fisb_time.specs.declared.form.TimeForm.{TimeForm}
use Rattle.fisb_time.specs.declared.form.TimeForm.TheVariants.{Minute, Second, DayMinute, DaySecond}
use Rattle.fisb_time.specs.declared.form.TimeFields.{TimeFields}
use Rattle.fisb_time.specs.Naming.{named_moment}
use Rattle.uplink_frame.specs.declared.station.StationId.{StationId}
use Rattle.uplink_frame.specs.UplinkFrame.{InformationFrame}
use Rattle.apdu_core.specs.declared.apdu.Seg.{Seg}
use Rattle.apdu_core.specs.declared.fault.ApduFault.{ApduFault}
use Rattle.apdu_core.specs.Apdu.{Apdu, apdu_of, apdu_of_header, form_in, header_length, is_bad, is_segmented_in, segmentation_in}
use Rattle.life_table.specs.LifeTable.{LifeTable, longest}
use Rattle.segment_core.specs.Arrival.{Arrival}
use Rattle.receiver_core.specs.Reception.{arrival_in, arrival_with_version, arrival_of_apdu, arrival_with_row, is_large}
use Rattle.life_table.specs.Products.{is_read_product}
use Rattle.receiver_core.proofs.Completing.{IsNumbered}

-- what a header leaves of a body
record IsWithin (body : List ℕ) (segmentation : Option Seg) (payload : List ℕ) : Type 0 where
  pub payload_fits : 4 + length payload ≤ length body
  pub header_fits : is_some segmentation ≡ true → 7 ≤ length body
  pub numbered : IsNumbered segmentation

ok_before : {A E : Type 0} (b : Bool) (e : E) (x : Result A E) (y : A) → cond b x (Err e) ≡ Ok y → x ≡ Ok y
ok_before true e x y is = is
ok_before false e x y is = absurd (cc)

long_header : (form : TimeForm) → 7 ≤ header_length form true
long_header Minute = omega arith
long_header Second = omega arith
long_header DayMinute = omega arith
long_header DaySecond = omega arith

-- a header has four bytes at least
abbrev pub HeadersAreLong : Type 0
HeadersAreLong = (form : TimeForm) (segmented : Bool) → 4 ≤ header_length form segmented

numbered_by : (b : Bool) (s : Seg) → (b && is_bad s) ≡ false → IsNumbered (cond b (Some s) None)
numbered_by false s fine = tt
numbered_by true s fine =
    let parts = or_parts _ (nat_lt s.count s.number) fine in
    let zeros = or_parts (s.count == 0) (s.number == 0) parts.0 in
    let most = ltb-false s.count s.number parts.1 in
    let some = eqb-false s.number 0 zeros.1 in
    (omega (arith, some), most)

header_leaves : HeadersAreLong → (form : TimeForm) (segmented : Bool) (body : List ℕ) (a : Apdu)
    → header_length form segmented ≤ length body
    → apdu_of_header form segmented (take (header_length form segmented) body) (drop (header_length form segmented) body)
    ≡ Ok a → IsWithin body a.segmentation a.payload
header_leaves headers form segmented body a fits is =
    let bytes = header_length form segmented in
    let s = segmentation_in form (take bytes body) in
    let read = ok_past_test (segmented && is_bad s) _ _ a is in
    let same_payload : drop bytes body ≡ a.payload = (let e = read.1 in cc) in
    let same : cond segmented (Some s) None ≡ a.segmentation = (let e = read.1 in cc) in
    record {
      payload_fits =
          let least = headers form segmented in
          omega (arith, least, fits, ap length same_payload, length-drop bytes body);
      header_fits = λ some.
          let own = sym (some_by_test segmented s) ∙ ap is_some same ∙ some in
          let long = long_header form in
          omega (arith, long, fits, ap (header_length form) own);
      numbered = subst IsNumbered same (numbered_by segmented s read.0);
    }

body_leaves : HeadersAreLong → (body : List ℕ) (a : Apdu) → apdu_of body ≡ Ok a
    → IsWithin body a.segmentation a.payload
unfolding apdu_of
body_leaves headers body a is =
    let long = ok_past_test (nat_lt (length body) 4) _ _ a is in
    let unflagged = ok_past_test (not (_ == 0)) _ _ a long.1 in
    let bytes = header_length (form_in body) (is_segmented_in body) in
    let whole = ok_past_test (nat_lt (length body) bytes) _ _ a unflagged.1 in
    header_leaves headers (form_in body) (is_segmented_in body) body a
    (ltb-false (length body) bytes whole.0) whole.1

-- a time names no moment that lies more than a minute after its reception
abbrev pub NamesNear : Type 0
NamesNear = (form : TimeForm) (fields : TimeFields) (received moment : ℕ) → named_moment form fields received ≡ Some moment
    → moment ≤ received + 60

-- the laws of times and of headers
pub record ReadsFrames : Type 0 where
  pub near : NamesNear
  pub headers : HeadersAreLong

-- what an arrival is by its frame
pub record IsOfFrame (received : ℕ) (frame : InformationFrame) (a : Arrival) : Type 0 where
  pub payload_fits : 4 + length a.payload ≤ length frame.body
  pub header_fits : is_some a.segmentation ≡ true → 7 ≤ length frame.body
  pub numbered : IsNumbered a.segmentation
  pub near : a.version ≤ received + 60

module _ (laws : ReadsFrames) (station : StationId) (received : ℕ) (frame : InformationFrame) (a : Arrival) where
  by_name : (apdu : Apdu) (life : ℕ) (o : Option ℕ) → named_moment apdu.form apdu.time received ≡ o
      → arrival_with_version station received apdu life o ≡ Ok a → IsWithin frame.body apdu.segmentation apdu.payload
      → IsOfFrame received frame a
  by_name apdu life None is arrives within = absurd (cc)
  by_name apdu life (Some version) is arrives within =
      let read = ok_before (nat_lt received (version + life)) _ _ a arrives in
      let near = laws.near apdu.form apdu.time received version is in
      let same_payload : apdu.payload ≡ a.payload = cc in
      let same : apdu.segmentation ≡ a.segmentation = cc in
      let same_version : version ≡ a.version = cc in
      record {
        payload_fits = subst (λ (p : List ℕ). 4 + length p ≤ length frame.body) same_payload within.payload_fits;
        header_fits = λ some. within.header_fits (ap is_some same ∙ some);
        numbered = subst IsNumbered same within.numbered;
        near = omega (arith, near, same_version);
      }

  by_row : (apdu : Apdu) (o : Option ℕ) → arrival_with_row station received apdu o ≡ Ok a
      → IsWithin frame.body apdu.segmentation apdu.payload → IsOfFrame received frame a
  by_row apdu None arrives within = absurd (cc)
  by_row apdu (Some life) arrives within =
      by_name apdu life (named_moment apdu.form apdu.time received) refl
      (ok_past_test (is_large apdu.segmentation) _ _ a arrives).1 within

  by_apdu : (table : LifeTable) (read : Result Apdu ApduFault) → apdu_of frame.body ≡ read
      → arrival_of_apdu table station received read ≡ Ok a → IsOfFrame received frame a
  by_apdu table (Err fault) is arrives = absurd (cc)
  by_apdu table (Ok apdu) is arrives =
      by_row apdu (longest table apdu.product) (ok_before (is_read_product apdu.product) _ _ a arrives)
      (body_leaves laws.headers frame.body apdu is)

  pub arrives_of_frame : (table : LifeTable) → arrival_in table station received frame ≡ Ok a → IsOfFrame received frame a
  arrives_of_frame table arrives =
      by_apdu table (apdu_of frame.body) refl (ok_before (frame.kind == 0) _ _ a arrives)
