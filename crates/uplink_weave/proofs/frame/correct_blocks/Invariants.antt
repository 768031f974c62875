use Rattle.std.proofs.Common.{◌≡◌, ◌<◌, ℕ, [], length, get_or}
use Rattle.rs_code.specs.CodeWord.{IsNear, differences}
use Rattle.uplink_weave.specs.Woven.{block}
use Rattle.uplink_weave.proofs.frame.correct_blocks.Given as goal

-- the blocks so far are corrected and their counts are kept
abbrev pub invariant-loop-number : goal.invariant-loop-number
invariant-loop-number l = record {
  all : length l.words ≡ 6;
  six : length l.counts ≡ 6;
  near : (r : ℕ) → r < l.number → IsNear 92 20 120 (block r l.air) (get_or l.words r []);
  each : (r : ℕ) → r < l.number → get_or l.counts r 0 ≡ differences (block r l.air) (get_or l.words r []);
}
