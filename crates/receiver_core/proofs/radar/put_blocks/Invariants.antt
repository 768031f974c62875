use Rattle.std.proofs.Common.{◌≡◌, drop, map}
use Rattle.picture_core.specs.Contents.{block_entry}
use Rattle.picture_core.specs.Kept.{put_all}
use Rattle.receiver_core.proofs.radar.put_blocks.Given as goal

-- what is put so far, with the blocks that are left, is what all blocks are
abbrev pub invariant-loop-place : goal.invariant-loop-place
invariant-loop-place l = record {
  entries : put_all (map (block_entry l.version l.life) l.blocks) l.fn.picture.entries
      ≡ put_all (map (block_entry l.version l.life) (drop l.place l.blocks)) l.picture.entries;
  mark : l.picture.mark ≡ l.fn.picture.mark;
}
