use Rattle.std.proofs.Common.{◌≡◌, ℕ, ◌+◌, ◌≤◌, length, is_some, sym, ap, subst, ◌∙◌, arith}
use Rattle.apdu_core.specs.Apdu.{Apdu, header_length, apdu_bytes}
use Rattle.segment_core.specs.File.{File, part_of, is_segmented}
use Rattle.ground_core.specs.Views.{file_at}
use Rattle.ground_core.specs.declared.item.SentItem.{SentItem}
use Rattle.ground_core.proofs.Segments.{is_some_segmentation}
use Rattle.ground_core.proofs.place.Place.write_body.Goals as goal

pub write_apdu-requires-clause-holds : goal.write_apdu-requires-clause-holds
write_apdu-requires-clause-holds c =
    let item : SentItem = c.args.self.now.item.value in
    let lent : SentItem = c.deref-item.result.now in
    let file : File = file_at item in
    let number : ℕ = c.args.self.now.number in
    let apdu : Apdu = record { product = lent.product; form = lent.form; time = c.fields_of.result; segmentation = c.seg.result; payload = c.part.result.now } in
    let size : length (apdu_bytes apdu) ≡ header_length lent.form (is_some apdu.segmentation) + length c.part.result.now = c.apdu_reads_back.ensures.size apdu in
    let seg : is_some apdu.segmentation ≡ is_segmented file.form file.payload = ap is_some c.seg.ensures ∙ is_some_segmentation file number in
    let part : length c.part.result.now ≡ length (part_of file number)
    = ap length c.part.ensures ∙ ap (λ (i : SentItem). length (part_of (file_at i) number)) c.deref-item.ensures in
    let whole : length (apdu_bytes apdu) ≡ header_length file.form (is_segmented file.form file.payload) + length (part_of file number)
    = size ∙ ap (λ (i : SentItem). header_length i.form (is_some apdu.segmentation) + length c.part.result.now) c.deref-item.ensures
    ∙ ap (λ b. header_length file.form b + length c.part.result.now) seg
    ∙ ap (λ n. header_length file.form (is_segmented file.form file.payload) + n) part in
    let fits = c.parts_fit_frames.ensures file number c.args.self.now.in_range.0 (omega (arith, item.counted, c.args.self.now.in_range.1)) in
    let room : length c.args.room.now ≡ 422 = c.told-room in
    subst (λ n. n ≤ length c.args.room.now) (sym whole) (subst (λ n. header_length file.form (is_segmented file.form file.payload) + length (part_of file number) ≤ n) (sym room) fits.fits)
