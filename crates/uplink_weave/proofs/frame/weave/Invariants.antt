use Rattle.std.proofs.Common.{◌≡◌, ◌<◌, ℕ, List, length}
use Rattle.rs_code.specs.CodeWord.{IsCodeWord}
use Rattle.uplink_weave.specs.Woven.{block, BeginsWithPart}
use Rattle.uplink_weave.proofs.frame.weave.Given as goal

-- the blocks so far are written
abbrev pub invariant-loop-number : goal.invariant-loop-number
invariant-loop-number l = record {
  long : length l.air ≡ 552;
  code : (r : ℕ) → r < l.number → IsCodeWord 92 20 120 (block r l.air);
  parts : (r : ℕ) → r < l.number → BeginsWithPart r l.payload (block r l.air);
  only : (r : ℕ) → r < l.number → (other : List ℕ) → IsCodeWord 92 20 120 other → BeginsWithPart r l.payload other
      → other ≡ block r l.air;
}
