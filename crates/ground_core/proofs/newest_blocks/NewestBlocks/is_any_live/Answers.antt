use Rattle.std.proofs.Common.{◌≡◌, ◌<◌, false, length, take, get_or, sym, ap, subst, ◌∙◌, arith}
use Rattle.std.specs.List.{list_any}
use Rattle.std.proofs.lemmas.Bool.{or_from}
use Rattle.std.proofs.lemmas.List.{take_more}
use Rattle.list_members.specs.ListMembers.{in_any}
use Rattle.radar_core.specs.declared.key.BlockKey.{BlockKey}
use Rattle.ground_core.specs.Piece.{lives_as}
use Rattle.ground_core.specs.Views.{latest_block, area_keys}
use Rattle.ground_core.proofs.Areas.{key_in_area, key_at_place, any_more}
use Rattle.ground_core.proofs.newest_blocks.NewestBlocks.is_any_live.Goals as goal

pub returns-then-is_live : goal.returns-then-is_live
returns-then-is_live c =
    let area = c.args.blocks.now.area in
    let items = c.args.blocks.now.numbers.items in
    let k = c.loop-number.number-index in
    let below : k < length items = omega (arith, c.loop-number-test.true, ap length c.deref-number-items.ensures.value) in
    let e : c.key_of.result ≡ key_in_area area (get_or items k 0) = c.key_of.ensures ∙ ap (λ xs. key_in_area area (get_or xs k 0)) c.deref-number-items.ensures.value in
    sym (in_any (λ (key : BlockKey). lives_as c.args.moment c.args.serial (latest_block c.args.self.now key)) (key_in_area area (get_or items k 0)) (area_keys area items) (key_at_place area items k below)
    (ap (λ (x : BlockKey). lives_as c.args.moment c.args.serial (latest_block c.args.self.now x)) (sym e) ∙ sym c.is_live.ensures ∙ c.if-is_live.true))

pub loop-number-preserved : goal.loop-number-preserved
loop-number-preserved c =
    let area = c.args.blocks.now.area in
    let items = c.args.blocks.now.numbers.items in
    let k = c.loop-number.number-index in
    let below : k < length items = omega (arith, c.loop-number-test.true, ap length c.deref-number-items.ensures.value) in
    let e : c.key_of.result ≡ key_in_area area (get_or items k 0) = c.key_of.ensures ∙ ap (λ xs. key_in_area area (get_or xs k 0)) c.deref-number-items.ensures.value in
    let p = λ (key : BlockKey). lives_as c.args.moment c.args.serial (latest_block c.args.self.now key) in
    record {
      none = subst (λ xs. list_any p (area_keys area xs) ≡ false) (sym (take_more items k 0 below))
          (any_more p area (take k items) (get_or items k 0)
          ∙ or_from (list_any p (area_keys area (take k items))) (p (key_in_area area (get_or items k 0))) c.loop-number.invariant.none
          (ap p (sym e) ∙ sym c.is_live.ensures ∙ c.if-is_live.false));
    }
