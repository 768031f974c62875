use Rattle.std.proofs.Common.{◌≡◌, ◌+◌, ◌<◌, ◌∷◌, length, map, drop, get_or, sym, ap, subst, ◌∙◌, arith}
use Rattle.radar_core.specs.declared.key.BlockKey.{BlockKey}
use Rattle.ground_core.specs.Refusal.{age_refusal}
use Rattle.ground_core.specs.Told.{IsTold, latest_version}
use Rattle.ground_core.specs.Views.{latest_block, area_keys}
use Rattle.ground_core.proofs.Areas.{key_in_area, behind_place}
use Rattle.ground_core.proofs.newest_blocks.NewestBlocks.age_fault.Goals as goal

pub returns-in-Some-clause-tells : goal.returns-in-Some-clause-tells
returns-in-Some-clause-tells c later =
    let area = c.args.area.now in
    let items = c.args.numbers.now in
    let k = c.loop-number.number-index in
    let below : k < length items = omega (arith, c.loop-number-test.true) in
    let version = λ (x : BlockKey). latest_version (latest_block c.args.self.now x) in
    let more = map version (area_keys area (drop (k + 1) items)) in
    let kept : c.version_of-kept.result ≡ version (key_in_area area (get_or items k 0)) = c.version_of-kept.ensures ∙ ap version c.key_of.ensures in
    subst (λ r. IsTold r c.in-Some.fault)
    (ap (λ v. age_refusal c.args.version (v ∷ more) later) kept
    ∙ sym (c.loop-number.invariant.passes later ∙ ap (λ keys. age_refusal c.args.version (map version keys) later) (behind_place area items k below)))
    (c.in-Some.ensures.tells more later)

pub loop-number-preserved : goal.loop-number-preserved
loop-number-preserved c =
    let area = c.args.area.now in
    let items = c.args.numbers.now in
    let k = c.loop-number.number-index in
    let below : k < length items = omega (arith, c.loop-number-test.true) in
    let version = λ (x : BlockKey). latest_version (latest_block c.args.self.now x) in
    let more = map version (area_keys area (drop (k + 1) items)) in
    let kept : c.version_of-kept.result ≡ version (key_in_area area (get_or items k 0)) = c.version_of-kept.ensures ∙ ap version c.key_of.ensures in
    record {
      passes = λ later.
          c.loop-number.invariant.passes later ∙ ap (λ keys. age_refusal c.args.version (map version keys) later) (behind_place area items k below)
          ∙ ap (λ v. age_refusal c.args.version (v ∷ more) later) (sym kept) ∙ c.in_default.ensures.passes more later;
    }
