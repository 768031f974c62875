use Rattle.std.proofs.Common.{◌≡◌, ℕ, ◌<◌, Bool, nat_eq, List, take, drop, sym, ap, ◌∙◌, arith}
use Rattle.std.proofs.lemmas.List.Elements.{All-from_get_or}
use Rattle.bit_fields.specs.Bits.{field_at}
use Rattle.apdu_core.specs.Apdu.{header_length, apdu_of_header, form_of, form_in, is_segmented_in}
use Rattle.apdu_core.proofs.ApduLemmas.{apdu_of-short, apdu_of-flagged, apdu_of-cut, apdu_of-whole, reading_of-same}
use Rattle.apdu_core.proofs.reading.read_apdu.Goals as goal

pub returns-then-body-lt-LEAST_LENGTH-clause-whole :
    goal.returns-then-body-lt-LEAST_LENGTH-clause-whole
returns-then-body-lt-LEAST_LENGTH-clause-whole c = sym (apdu_of-short c.args.body.now c.if-body-lt-LEAST_LENGTH.true)

pub returns-then-field-ne0-clause-whole : goal.returns-then-field-ne0-clause-whole
returns-then-field-ne0-clause-whole c =
    let flag = c.field.ensures.value c.split_at.result.0.now c.bits_of-bits.ensures ∙ ap (λ (b : List ℕ). field_at b 0 3) c.split_at.ensures.front in
    sym (apdu_of-flagged c.args.body.now c.if-body-lt-LEAST_LENGTH.false (λ e. c.if-field-ne0.true (flag ∙ e)))

pub returns-then-field-ne0-clause-spelled : goal.returns-then-field-ne0-clause-spelled
returns-then-field-ne0-clause-spelled c =
    reading_of-same c.args.body.now _ (All-from_get_or (λ (b : ℕ). b < 256) c.args.body.now 0 (λ i h. omega (arith, c.type_inv.body i))) (returns-then-field-ne0-clause-whole c)

pub returns-then-body-length-clause-whole : goal.returns-then-body-length-clause-whole
returns-then-body-length-clause-whole c =
    let body = c.args.body.now in
    let flag = c.field.ensures.value c.split_at.result.0.now c.bits_of-bits.ensures ∙ ap (λ (b : List ℕ). field_at b 0 3) c.split_at.ensures.front in
    let bit = c.field-is_segmented.ensures.value c.split_at.result.0.now c.bits_of-bits.ensures ∙ ap (λ (b : List ℕ). field_at b 14 1) c.split_at.ensures.front in
    let number = c.field-2.ensures.value c.split_at.result.0.now c.bits_of-bits.ensures ∙ ap (λ (b : List ℕ). field_at b 15 2) c.split_at.ensures.front in
    let form = c.form_of-form.result in
    let s : Bool = nat_eq c.field-is_segmented.result 1 in
    let form_is : form ≡ form_in body = c.form_of-form.ensures ∙ ap form_of number in
    let s_is : s ≡ is_segmented_in body = ap (λ (n : ℕ). nat_eq n 1) bit in
    let size = c.header_length-length.ensures in
    let cut = c.if-body-length.true in
    sym (apdu_of-cut body form s c.if-body-lt-LEAST_LENGTH.false (sym flag ∙ c.if-field-ne0.false) form_is s_is (omega arith))

pub returns-then-body-length-clause-spelled : goal.returns-then-body-length-clause-spelled
returns-then-body-length-clause-spelled c =
    reading_of-same c.args.body.now _ (All-from_get_or (λ (b : ℕ). b < 256) c.args.body.now 0 (λ i h. omega (arith, c.type_inv.body i))) (returns-then-body-length-clause-whole c)

pub returns-clause-whole : goal.returns-clause-whole
returns-clause-whole c =
    let body = c.args.body.now in
    let flag = c.field.ensures.value c.split_at.result.0.now c.bits_of-bits.ensures ∙ ap (λ (b : List ℕ). field_at b 0 3) c.split_at.ensures.front in
    let bit = c.field-is_segmented.ensures.value c.split_at.result.0.now c.bits_of-bits.ensures ∙ ap (λ (b : List ℕ). field_at b 14 1) c.split_at.ensures.front in
    let number = c.field-2.ensures.value c.split_at.result.0.now c.bits_of-bits.ensures ∙ ap (λ (b : List ℕ). field_at b 15 2) c.split_at.ensures.front in
    let form = c.form_of-form.result in
    let s : Bool = nat_eq c.field-is_segmented.result 1 in
    let form_is : form ≡ form_in body = c.form_of-form.ensures ∙ ap form_of number in
    let s_is : s ≡ is_segmented_in body = ap (λ (n : ℕ). nat_eq n 1) bit in
    let size = c.header_length-length.ensures in
    c.apdu_of_header.ensures
    ∙ ap (λ (h : List ℕ). apdu_of_header form s h c.split_at-2.result.1.now) (c.split_at-2.ensures.front ∙ ap (λ (n : ℕ). take n body) size)
    ∙ ap (λ (p : List ℕ). apdu_of_header form s (take (header_length form s) body) p) (c.split_at-2.ensures.back ∙ ap (λ (n : ℕ). drop n body) size)
    ∙ sym (apdu_of-whole body form s c.if-body-lt-LEAST_LENGTH.false (sym flag ∙ c.if-field-ne0.false) form_is s_is (omega (arith, size)))

pub returns-clause-spelled : goal.returns-clause-spelled
returns-clause-spelled c =
    reading_of-same c.args.body.now _ (All-from_get_or (λ (b : ℕ). b < 256) c.args.body.now 0 (λ i h. omega (arith, c.type_inv.body i))) (returns-clause-whole c)
