use Rattle.std.proofs.Common.{◌≡◌, ◌+◌, drop, map, arith, ap, sym, ◌∙◌}
use Rattle.std.proofs.lemmas.List.{drop_all}
use Rattle.radar_core.specs.Radar.{Block}
use Rattle.picture_core.specs.Contents.{block_entry}
use Rattle.picture_core.specs.Entry.{cells}
use Rattle.picture_core.specs.Key.{radar_block}
use Rattle.picture_core.specs.Kept.{put, put_all}
use Rattle.receiver_core.proofs.Puts.{drop_got}
use Rattle.receiver_core.proofs.radar.put_blocks.Goals as goal

pub overflow_add-until : goal.overflow_add-until
overflow_add-until c =
    let short = c.requires in
    let range = c.seconds.ensures.in_range in
    omega (arith, short, range)

pub loop-place-preserved : goal.loop-place-preserved
loop-place-preserved c =
    let block : Block = c.block-cells.result in
    let before = c.loop-place.picture.entries in
    let later = drop (c.loop-place.place + 1) c.args.blocks.now in
    let left = drop_got c.args.blocks.now c.loop-place.place block c.block-cells.ensures in
    let put_is : c.put.new.self.entries ≡ put (block_entry c.args.version c.args.life block) before
    = c.in_ok-put.ensures.ok
    ∙ ap (λ now. put (record {
      key = radar_block block.0;
      version = c.args.version;
      until = now + c.args.life;
      value = cells block.1;
    }) before) c.seconds.ensures.value in
    record {
      entries = c.loop-place.invariant.entries
          ∙ ap (λ bs. put_all (map (block_entry c.args.version c.args.life) bs) before) left
          ∙ ap (put_all (map (block_entry c.args.version c.args.life) later)) (sym put_is);
      mark = c.in_ok-put.ensures.mark ∙ c.loop-place.invariant.mark;
    }

pub returns-clause-entries : goal.returns-clause-entries
returns-clause-entries c =
    let none = drop_all c.loop-place.place c.args.blocks.now (omega arith) in
    sym (c.loop-place.invariant.entries
    ∙ ap (λ bs. put_all (map (block_entry c.args.version c.args.life) bs) c.loop-place.picture.entries) none)
