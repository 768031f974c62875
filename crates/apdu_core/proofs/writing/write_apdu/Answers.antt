use Rattle.std.proofs.Common.{◌≡◌, ℕ, ◌+◌, ◌-◌, ◌≤◌, ◌++◌, length, take, drop, refl, sym, ap, ◌∙◌, arith, rules, length-append}
use Rattle.std.proofs.lemmas.List.{length-drop, length-take-le}
use Rattle.apdu_core.specs.Apdu.{apdu_header}
use Rattle.apdu_core.specs.Views.{apdu_view}
use Rattle.apdu_core.proofs.ApduLemmas.{header_most}
use Rattle.apdu_core.proofs.WritingLemmas.{header_size, header_written, placed}
use Rattle.apdu_core.proofs.writing.write_apdu.Goals as goal

pub slice_bounds-copy_from_slice-end : goal.slice_bounds-copy_from_slice-end
slice_bounds-copy_from_slice-end c =
    let a = apdu_view c.args.apdu.now in
    let segmented = c.is_some-is_segmented.ensures in
    let size = header_size a c.is_some-is_segmented.result c.header_length-length.result segmented c.header_length-length.ensures in
    let all = length-append (apdu_header a) a.payload in
    let holds : length (apdu_header a ++ a.payload) ≤ length c.args.room.now = c.requires.holds in
    rw size (omega (arith, all, holds))

pub copy_from_slice-requires : goal.copy_from_slice-requires
copy_from_slice-requires c =
    let a = apdu_view c.args.apdu.now in
    let segmented = c.is_some-is_segmented.ensures in
    let n = c.header_length-length.result in
    let size = header_size a c.is_some-is_segmented.result n segmented c.header_length-length.ensures in
    let all = length-append (apdu_header a) a.payload in
    let holds : length (apdu_header a ++ a.payload) ≤ length c.args.room.now = c.requires.holds in
    let there : n ≤ length c.args.room.now = rw size (omega (arith, all, holds)) in
    let front : length (take n c.args.room.now) ≡ n = search (rules, there) in
    let most : n ≤ 9 = rw c.header_length-length.ensures (header_most a.form c.is_some-is_segmented.result) in
    let bytes = c.to_be_bytes-bytes.result in
    let sixteen : length bytes ≡ 16 = ap length c.to_be_bytes-bytes.ensures in
    front ∙ sym (length-take-le (16 - (16 - n)) (drop (16 - n) bytes) (omega (arith, most, sixteen, length-drop (16 - n) bytes)) ∙ omega (arith, most))

pub returns-clause-written : goal.returns-clause-written
returns-clause-written c =
    let a = apdu_view c.args.apdu.now in
    let segmented = c.is_some-is_segmented.ensures in
    let n = c.header_length-length.result in
    let size = header_size a c.is_some-is_segmented.result n segmented c.header_length-length.ensures in
    let header : c.copy_from_slice.new.self ≡ apdu_header a = c.copy_from_slice.ensures.after
    ∙ header_written a c.is_some-is_segmented.result c.header_number.result n c.header_width.result c.to_be_bytes-bytes.result segmented
    c.header_length-length.ensures c.header_width.ensures c.header_number.ensures.value c.header_number.ensures.bound c.to_be_bytes-bytes.ensures in
    rw (header, c.copy_from_slice-2.ensures.after) (placed (apdu_header a) a.payload c.args.room.now n (length a.payload) (sym size) refl)

pub returns-clause-number : goal.returns-clause-number
returns-clause-number c =
    let a = apdu_view c.args.apdu.now in
    let segmented = c.is_some-is_segmented.ensures in
    let size = header_size a c.is_some-is_segmented.result c.header_length-length.result segmented c.header_length-length.ensures in
    ap (λ (n : ℕ). n + length a.payload) size ∙ sym (length-append (apdu_header a) a.payload)
