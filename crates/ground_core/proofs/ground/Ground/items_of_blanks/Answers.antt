use Rattle.std.proofs.Common.{◌<◌, map, None, sym, ap, subst, ◌∙◌}
use Rattle.std.specs.List.{All}
use Rattle.std.proofs.lemmas.Result.{err_from_is_err_and}
use Rattle.list_members.specs.ListMembers.{All-members}
use Rattle.life_table.specs.LifeTable.{radar_row}
use Rattle.picture_core.specs.Key.{radar_block}
use Rattle.radar_core.specs.Laws.{IsOneRecord}
use Rattle.ground_core.specs.Refusal.{age_refusal, radar_refusal}
use Rattle.ground_core.specs.Told.{IsTold, latest_versions}
use Rattle.ground_core.specs.Update.{block_key}
use Rattle.ground_core.specs.Views.{latest_at}
use Rattle.ground_core.proofs.GivenRadar.{named_blanks}
use Rattle.ground_core.proofs.Rising.{increasing}
use Rattle.ground_core.proofs.Areas.{versions_of_area}
use Rattle.ground_core.proofs.ground.Ground.items_of_blanks.Goals as goal

pub returns-in_err-validity-clause-fault : goal.returns-in_err-validity-clause-fault
returns-in_err-validity-clause-fault c =
    let area = c.args.area in
    let p = err_from_is_err_and c.from_residual.result c.from_residual.ensures.1 in
    let kept = latest_versions (latest_at c.args.self.now.newest) (map (λ n. radar_block (block_key area.product area.scale area.south n)) c.args.numbers.now) in
    rw (p.1, p.2) (subst (λ b. IsTold (radar_refusal c.args.moment c.args.version b kept (radar_row c.args.self.now.table area.product)) c.in_err-validity.field-0.0) c.are_blanks-is_named.ensures
    (c.in_err-validity.ensures.fault kept))

pub returns-in-Some-clause-fault : goal.returns-in-Some-clause-fault
returns-in-Some-clause-fault c =
    let area = c.args.area in
    let kept = latest_versions (latest_at c.args.self.now.newest) (map (λ n. radar_block (block_key area.product area.scale area.south n)) c.args.numbers.now) in
    subst (λ r. IsTold r c.in-Some.fault)
    (ap (λ k. age_refusal c.args.version k None) (versions_of_area c.args.self.now.newest area c.args.numbers.now)
    ∙ sym (c.in_ok-validity.ensures.passes kept)
    ∙ ap (λ b. radar_refusal c.args.moment c.args.version b kept (radar_row c.args.self.now.table area.product)) c.are_blanks-is_named.ensures)
    (c.in-Some.ensures.tells None)

pub returns-clause-none : goal.returns-clause-none
returns-clause-none c =
    let area = c.args.area in
    let kept = latest_versions (latest_at c.args.self.now.newest) (map (λ n. radar_block (block_key area.product area.scale area.south n)) c.args.numbers.now) in
    sym (ap (λ b. radar_refusal c.args.moment c.args.version b kept (radar_row c.args.self.now.table area.product)) c.are_blanks-is_named.ensures)
    ∙ c.in_ok-validity.ensures.passes kept
    ∙ sym (ap (λ k. age_refusal c.args.version k None) (versions_of_area c.args.self.now.newest area c.args.numbers.now))
    ∙ c.in_default.ensures.passes None

pub group_blanks-requires-clause-rises : goal.group_blanks-requires-clause-rises
group_blanks-requires-clause-rises c =
    let named = named_blanks c.args.area.scale c.args.numbers.now (sym c.are_blanks-is_named.ensures ∙ c.in_ok-validity.ensures.named) in
    increasing c.args.numbers.now named.rises

pub group_items-requires-clause-groups : goal.group_items-requires-clause-groups
group_items-requires-clause-groups c =
    let numbers = c.args.numbers.now in
    let named = named_blanks c.args.area.scale numbers (sym c.are_blanks-is_named.ensures ∙ c.in_ok-validity.ensures.named) in
    subst (All IsOneRecord) (sym c.in-Ok.ensures)
    (c.groups_are_records.ensures numbers (increasing numbers named.rises) (All-members (λ n. n < 405000) numbers named.low)).records
