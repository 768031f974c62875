use Rattle.std.proofs.Common.{◌≡◌, ◌<◌, if◌then◌else◌, length, take, get_or, sym, ap, subst, ◌∙◌, arith}
use Rattle.std.proofs.lemmas.List.{take_more}
use Rattle.std.specs.Ordering.{is_eq}
use Rattle.radar_core.specs.declared.key.BlockKey.{BlockKey}
use Rattle.radar_core.specs.Keys.{block_key_cmp}
use Rattle.ground_core.specs.Piece.{while_living}
use Rattle.ground_core.specs.Views.{latest_block}
use Rattle.ground_core.specs.Rooms.{are_among}
use Rattle.ground_core.proofs.Areas.{key_in_area, forget_more}
use Rattle.ground_core.proofs.newest_blocks.NewestBlocks.forget.Goals as goal

pub loop-number-preserved : goal.loop-number-preserved
loop-number-preserved c =
    let area = c.args.blocks.now.area in
    let items = c.args.blocks.now.numbers.items in
    let k = c.loop-number.number-index in
    let below : k < length items = omega (arith, c.loop-number-test.true, ap length c.deref-number-items.ensures.value) in
    let e : c.key_of.result ≡ key_in_area area (get_or items k 0) = c.key_of.ensures ∙ ap (λ xs. key_in_area area (get_or xs k 0)) c.deref-number-items.ensures.value in
    record {
      forgotten = λ other.
          subst (λ xs. latest_block c.forget_one.new.self other ≡ (if are_among area xs other then while_living c.args.moment (latest_block c.args.self.now other) else latest_block c.args.self.now other)) (sym (take_more items k 0 below))
          (forget_more c.args.moment area (take k items) (get_or items k 0) other (latest_block c.args.self.now other) (latest_block c.loop-number.self other) (latest_block c.forget_one.new.self other)
          (c.loop-number.invariant.forgotten other)
          (c.forget_one.ensures other ∙ ap (λ (x : BlockKey). if is_eq (block_key_cmp x other) then while_living c.args.moment (latest_block c.loop-number.self other) else latest_block c.loop-number.self other) e));
    }
