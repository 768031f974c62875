use Rattle.std.proofs.Common.{◌≡◌, ◌+◌, if◌then◌else◌, [], ◌∷◌, refl, sym, ap, subst, ◌∙◌, length, arith}
use Rattle.std.proofs.lemmas.Result.{err_from_is_err_and}
use Rattle.dlac_text.specs.Payload.{text_payload}
use Rattle.life_table.specs.LifeTable.{TextRow, row, text_row}
use Rattle.text_reports.specs.Views.{key_view}
use Rattle.text_reports.specs.declared.key.TextKey.{TextKey as GivenKey}
use Rattle.picture_core.specs.Key.{text_report}
use Rattle.segment_core.specs.File.{is_segmented}
use Rattle.ground_core.specs.Item.{Weather}
use Rattle.ground_core.specs.Refusal.{age_refusal}
use Rattle.ground_core.specs.Told.{IsTold, count_refusal, latest_version, latest_versions}
use Rattle.ground_core.specs.Views.{latest_at, count_at}
use Rattle.ground_core.proofs.Given.{text_weather, weather-key}
use Rattle.ground_core.proofs.ItemOfText.{told_behind, judged_by, few_bytes, count_below, one_item}
use Rattle.ground_core.proofs.ground.Ground.item_of_text.Goals as goal

pub returns-in_err-payload-clause-fault : goal.returns-in_err-payload-clause-fault
returns-in_err-payload-clause-fault c = let p = err_from_is_err_and c.from_residual.result c.from_residual.ensures.1 in
    rw (p.1, p.2) (c.in_err-payload.ensures.fault _)

pub returns-in_err-key-clause-fault : goal.returns-in_err-key-clause-fault
returns-in_err-key-clause-fault c = let p = err_from_is_err_and c.from_residual-in_err-key.result c.from_residual-in_err-key.ensures.1 in
    rw (p.1, p.2) (told_behind _ _ _ c.in_ok-payload.ensures.none
    (c.in_err-key.ensures.fault (latest_at c.args.self.now.newest) (count_at c.args.self.now.files) c.args.moment c.args.version))

pub timing_fault-requires : goal.timing_fault-requires
timing_fault-requires c = c.in-Some.ensures.bounded

pub overflow_add-result : goal.overflow_add-result
overflow_add-result c =
    omega (arith, c.in-Some.ensures.bounded, c.seconds.ensures.in_range.1)

pub part_count-requires : goal.part_count-requires
part_count-requires c = few_bytes _ (length c.args.text.now)
    (c.len-size.ensures ∙ ap length c.in_ok-payload.ensures.payload ∙ c.payload_size.ensures.size c.args.text.now) c.in_ok-payload.ensures.sendable.1

pub returns-in-Some-timing_fault-clause-fault : goal.returns-in-Some-timing_fault-clause-fault
returns-in-Some-timing_fault-clause-fault c =
    let r : TextRow = row c.all.result.now c.in-Some.row.kind.now c.in-Some.row.words c.in-Some.row.life c.in-Some.row.form in
    let table = c.args.self.now.table in
    let key = key_view c.in_ok-key.key in
    let whole = judged_by table (latest_at c.args.self.now.newest) (count_at c.args.self.now.files) c.args.moment c.args.version c.args.text.now key r
    c.in_ok-payload.ensures.none c.in_ok-key.ensures.key (ap (text_row table) (sym c.all.ensures) ∙ sym c.in-Some.ensures.row) in
    subst (λ f. IsTold f c.in-Some-timing_fault.fault) (sym whole) (c.in-Some-timing_fault.ensures.tells (latest_versions (latest_at c.args.self.now.newest) (text_report key ∷ [])) (count_refusal (text_weather key c.args.version r c.args.text.now) (count_at c.args.self.now.files c.args.version 413)))

pub returns-in-Some-age_fault-clause-fault : goal.returns-in-Some-age_fault-clause-fault
returns-in-Some-age_fault-clause-fault c =
    let r : TextRow = row c.all.result.now c.in-Some.row.kind.now c.in-Some.row.words c.in-Some.row.life c.in-Some.row.form in
    let table = c.args.self.now.table in
    let key = key_view c.in_ok-key.key in
    let w : Weather = text_weather key c.args.version r c.args.text.now in
    let whole = judged_by table (latest_at c.args.self.now.newest) (count_at c.args.self.now.files) c.args.moment c.args.version c.args.text.now key r
    c.in_ok-payload.ensures.none c.in_ok-key.ensures.key (ap (text_row table) (sym c.all.ensures) ∙ sym c.in-Some.ensures.row) in
    let later = count_refusal w (count_at c.args.self.now.files c.args.version 413) in
    let kept : c.version_of.result ≡ latest_version (latest_at c.args.self.now.newest (text_report key))
    = c.version_of.ensures ∙ ap (λ (k : GivenKey). latest_version (latest_at c.args.self.now.newest (text_report (key_view k)))) c.in-Ok.ensures in
    subst (λ f. IsTold f c.in-Some-age_fault.fault)
    (ap (λ k. age_refusal c.args.version (k ∷ []) later) kept ∙ sym (whole ∙ c.in_default-timing_fault.ensures.passes (latest_versions (latest_at c.args.self.now.newest) (text_report key ∷ [])) later))
    (c.in-Some-age_fault.ensures.tells [] later)

pub returns-in_err-file-clause-fault : goal.returns-in_err-file-clause-fault
returns-in_err-file-clause-fault c =
    let r : TextRow = row c.all.result.now c.in-Some.row.kind.now c.in-Some.row.words c.in-Some.row.life c.in-Some.row.form in
    let table = c.args.self.now.table in
    let key = key_view c.in_ok-key.key in
    let w : Weather = text_weather key c.args.version r c.args.text.now in
    let whole = judged_by table (latest_at c.args.self.now.newest) (count_at c.args.self.now.files) c.args.moment c.args.version c.args.text.now key r
    c.in_ok-payload.ensures.none c.in_ok-key.ensures.key (ap (text_row table) (sym c.all.ensures) ∙ sym c.in-Some.ensures.row) in
    let later = count_refusal w (count_at c.args.self.now.files c.args.version 413) in
    let size : length (text_payload c.args.text.now) ≡ c.len-size.result = sym (c.len-size.ensures ∙ ap length c.in_ok-payload.ensures.payload) in
    let segmented = c.is_segmented-segmented.ensures (text_payload c.args.text.now) size in
    let p = err_from_is_err_and c.from_residual-in_err-file.result c.from_residual-in_err-file.ensures.1 in
    let kept : c.version_of.result ≡ latest_version (latest_at c.args.self.now.newest (text_report key))
    = c.version_of.ensures ∙ ap (λ (k : GivenKey). latest_version (latest_at c.args.self.now.newest (text_report (key_view k)))) c.in-Ok.ensures in
    rw (p.1, p.2) (subst (λ f. IsTold f c.in_err-file.field-0.0)
    (sym (c.in_default-age_fault.ensures.passes [] later) ∙ ap (λ k. age_refusal c.args.version (k ∷ []) later) kept ∙ sym (whole ∙ c.in_default-timing_fault.ensures.passes (latest_versions (latest_at c.args.self.now.newest) (text_report key ∷ [])) later))
    (c.in_err-file.ensures.fault w segmented))

pub invariant_of-result : goal.invariant_of-result
invariant_of-result c = record {
  shown = c.in_default-timing_fault.ensures.shown;
  known = omega arith;
  numbered = c.in_ok-file.ensures.few;
  counted = c.part_count.ensures.count c.in_ok-payload.payload (sym c.len-size.ensures);
  some = c.part_count.ensures.some;
  few = c.part_count.ensures.few;
}

pub returns-clause-item : goal.returns-clause-item
returns-clause-item c =
    let r : TextRow = row c.all.result.now c.in-Some.row.kind.now c.in-Some.row.words c.in-Some.row.life c.in-Some.row.form in
    let table = c.args.self.now.table in
    let key = key_view c.in_ok-key.key in
    let row_is = ap (text_row table) (sym c.all.ensures) ∙ sym c.in-Some.ensures.row in
    let segmented = c.is_segmented-segmented.ensures c.in_ok-payload.payload (sym c.len-size.ensures) in
    let same = ap (is_segmented c.in-Some.row.form) c.in_ok-payload.ensures.payload in
    let count = count_at c.args.self.now.files c.args.version 413 in
    let file : c.in_ok-file.file ≡ (if is_segmented c.in-Some.row.form (text_payload c.args.text.now) then count else 0)
    = c.in_ok-file.ensures.number ∙ ap (λ b. if b then count else 0) (segmented ∙ same) in
    one_item (count_at c.args.self.now.files) c.args.self.now.given _ (text_weather key c.args.version r c.args.text.now) _
    (weather-key table c.args.version c.args.text.now key r c.in_ok-key.ensures.key row_is)
    (record {
      serial_is = refl;
      keys = ap (λ (k : GivenKey). text_report (key_view k) ∷ []) c.in-Ok.ensures;
      version_is = refl;
      until = ap (λ n. n + c.in-Some.row.life) c.seconds.ensures.value;
      product = refl;
      form = refl;
      payload = c.in_ok-payload.ensures.payload;
      few = λ t. count_below _ count c.in_ok-file.file file c.in_ok-file.ensures.few t;
      file = file;
    })

pub returns-clause-few : goal.returns-clause-few
returns-clause-few c =
    let segmented = c.is_segmented-segmented.ensures c.in_ok-payload.payload (sym c.len-size.ensures) in
    let count = count_at c.args.self.now.files c.args.version 413 in
    let file : c.in_ok-file.file ≡ (if is_segmented c.in-Some.row.form c.in_ok-payload.payload then count else 0)
    = c.in_ok-file.ensures.number ∙ ap (λ b. if b then count else 0) segmented in
    λ t. count_below _ count c.in_ok-file.file file c.in_ok-file.ensures.few t

pub returns-clause-none : goal.returns-clause-none
returns-clause-none c =
    let r : TextRow = row c.all.result.now c.in-Some.row.kind.now c.in-Some.row.words c.in-Some.row.life c.in-Some.row.form in
    let table = c.args.self.now.table in
    let key = key_view c.in_ok-key.key in
    let w : Weather = text_weather key c.args.version r c.args.text.now in
    let whole = judged_by table (latest_at c.args.self.now.newest) (count_at c.args.self.now.files) c.args.moment c.args.version c.args.text.now key r
    c.in_ok-payload.ensures.none c.in_ok-key.ensures.key (ap (text_row table) (sym c.all.ensures) ∙ sym c.in-Some.ensures.row) in
    let later = count_refusal w (count_at c.args.self.now.files c.args.version 413) in
    let size : length (text_payload c.args.text.now) ≡ c.len-size.result = sym (c.len-size.ensures ∙ ap length c.in_ok-payload.ensures.payload) in
    let segmented = c.is_segmented-segmented.ensures (text_payload c.args.text.now) size in
    let kept : c.version_of.result ≡ latest_version (latest_at c.args.self.now.newest (text_report key))
    = c.version_of.ensures ∙ ap (λ (k : GivenKey). latest_version (latest_at c.args.self.now.newest (text_report (key_view k)))) c.in-Ok.ensures in
    whole ∙ c.in_default-timing_fault.ensures.passes (latest_versions (latest_at c.args.self.now.newest) (text_report key ∷ [])) later ∙ ap (λ k. age_refusal c.args.version (k ∷ []) later) (sym kept)
    ∙ c.in_default-age_fault.ensures.passes [] later ∙ c.in_ok-file.ensures.none w segmented
