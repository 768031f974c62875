use Rattle.std.proofs.Common.{[], ◌∷◌, None, sym, ap, subst, ◌∙◌}
use Rattle.std.proofs.lemmas.Result.{err_from_is_err_and}
use Rattle.life_table.specs.LifeTable.{RadarRow, radar, radar_row}
use Rattle.picture_core.specs.Key.{radar_block}
use Rattle.radar_core.specs.Runs.{run_record}
use Rattle.ground_core.specs.Refusal.{age_refusal, radar_refusal}
use Rattle.ground_core.specs.Told.{IsTold, latest_versions}
use Rattle.ground_core.specs.Update.{block_weather, radar_weather}
use Rattle.ground_core.specs.Putting.{AreItemsFrom, IsItemOf}
use Rattle.ground_core.specs.Views.{latest_at}
use Rattle.ground_core.proofs.GivenRadar.{named_block}
use Rattle.ground_core.proofs.ground.Ground.item_of_cells.Goals as goal

pub block_item-requires : goal.block_item-requires
block_item-requires c = record { key = named_block c.args.key.now (sym c.is_block.ensures ∙ c.in_ok-validity.ensures.named); product = c.in_ok-validity.ensures.known }

pub returns-in_err-validity-clause-fault : goal.returns-in_err-validity-clause-fault
returns-in_err-validity-clause-fault c =
    let p = err_from_is_err_and c.from_residual.result c.from_residual.ensures.1 in
    let kept = latest_versions (latest_at c.args.self.now.newest) (radar_block c.args.key.now ∷ []) in
    rw (p.1, p.2) (subst (λ b. IsTold (radar_refusal c.args.moment c.args.version b kept (radar_row c.args.self.now.table c.args.key.now.product)) c.in_err-validity.field-0.0) c.is_block.ensures
    (c.in_err-validity.ensures.fault kept))

pub returns-in-Some-clause-fault : goal.returns-in-Some-clause-fault
returns-in-Some-clause-fault c =
    let kept = latest_versions (latest_at c.args.self.now.newest) (radar_block c.args.key.now ∷ []) in
    subst (λ r. IsTold r c.in-Some.fault)
    (ap (λ k. age_refusal c.args.version (k ∷ []) None) c.version_of.ensures
    ∙ sym (c.in_ok-validity.ensures.passes kept)
    ∙ ap (λ b. radar_refusal c.args.moment c.args.version b kept (radar_row c.args.self.now.table c.args.key.now.product)) c.is_block.ensures)
    (c.in-Some.ensures.tells [] None)

pub returns-clause-none : goal.returns-clause-none
returns-clause-none c =
    let kept = latest_versions (latest_at c.args.self.now.newest) (radar_block c.args.key.now ∷ []) in
    sym (ap (λ b. radar_refusal c.args.moment c.args.version b kept (radar_row c.args.self.now.table c.args.key.now.product)) c.is_block.ensures)
    ∙ c.in_ok-validity.ensures.passes kept
    ∙ sym (ap (λ k. age_refusal c.args.version (k ∷ []) None) c.version_of.ensures)
    ∙ c.in_default.ensures.passes [] None

pub returns-clause-item : goal.returns-clause-item
returns-clause-item c =
    let v = c.in_ok-validity.validity in
    let key = c.args.key.now in
    let row : RadarRow = radar key.product v.life v.form in
    subst (λ found. AreItemsFrom c.args.self.now.given (block_weather c.args.version key c.args.cells.now found) (c.in-Ok.item ∷ [])) (sym c.in_ok-validity.ensures.row) (
      subst (λ n. IsItemOf (radar_weather key.product n row ((key, c.args.cells.now) ∷ []) (run_record key c.args.cells.now)) c.args.self.now.given 0 c.in-Ok.item)
          c.in_ok-validity.ensures.version c.in-Ok.ensures.item,
      tt,
    )
