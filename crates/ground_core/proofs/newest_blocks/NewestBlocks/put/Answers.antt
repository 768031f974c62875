use Rattle.std.proofs.Common.{◌≡◌, ◌<◌, if◌then◌else◌, length, take, get_or, Some, sym, ap, subst, ◌∙◌, arith}
use Rattle.std.proofs.lemmas.List.{take_more}
use Rattle.std.specs.Ordering.{is_eq}
use Rattle.radar_core.specs.declared.key.BlockKey.{BlockKey}
use Rattle.radar_core.specs.Keys.{block_key_cmp}
use Rattle.ground_core.specs.Views.{latest_block, given_view}
use Rattle.ground_core.specs.Rooms.{HasRoom, are_among}
use Rattle.ground_core.proofs.Areas.{key_in_area, key_at_place, put_more}
use Rattle.ground_core.proofs.newest_blocks.NewestBlocks.put.Goals as goal

pub put_one-requires : goal.put_one-requires
put_one-requires c =
    let area = c.args.blocks.now.area in
    let items = c.args.blocks.now.numbers.items in
    let k = c.loop-number.number-index in
    let below : k < length items = omega (arith, c.loop-number-test.true, ap length c.deref-number-items.ensures.value) in
    let e : c.key_of.result ≡ key_in_area area (get_or items k 0) = c.key_of.ensures ∙ ap (λ xs. key_in_area area (get_or xs k 0)) c.deref-number-items.ensures.value in
    subst (HasRoom c.loop-number.self) (sym e) (c.loop-number.invariant.stays (key_in_area area (get_or items k 0)) (c.requires _ (key_at_place area items k below)))

pub loop-number-preserved : goal.loop-number-preserved
loop-number-preserved c =
    let area = c.args.blocks.now.area in
    let items = c.args.blocks.now.numbers.items in
    let k = c.loop-number.number-index in
    let below : k < length items = omega (arith, c.loop-number-test.true, ap length c.deref-number-items.ensures.value) in
    let e : c.key_of.result ≡ key_in_area area (get_or items k 0) = c.key_of.ensures ∙ ap (λ xs. key_in_area area (get_or xs k 0)) c.deref-number-items.ensures.value in
    record {
      put = λ other.
          subst (λ xs. latest_block c.put_one.new.self other ≡ (if are_among area xs other then Some (given_view c.args.given.now) else latest_block c.args.self.now other)) (sym (take_more items k 0 below))
          (put_more area (take k items) (get_or items k 0) other (Some (given_view c.args.given.now)) (latest_block c.args.self.now other) (latest_block c.loop-number.self other) (latest_block c.put_one.new.self other)
          (c.loop-number.invariant.put other)
          (c.put_one.ensures.put other ∙ ap (λ (x : BlockKey). if is_eq (block_key_cmp x other) then Some (given_view c.args.given.now) else latest_block c.loop-number.self other) e));
      stays = λ other h. c.put_one.ensures.stays other (c.loop-number.invariant.stays other h);
    }
