use Rattle.std.proofs.Common.{◌≡◌, ◌<◌, ℕ, [], length, get_or}
use Rattle.uplink_weave.specs.Woven.{BeginsWithPart}
use Rattle.uplink_weave.proofs.frame.unweave.Given as goal

-- the parts of the words so far are written
abbrev pub invariant-loop-number : goal.invariant-loop-number
invariant-loop-number l = record {
  full : length l.payload ≡ 432;
  parts : (r : ℕ) → r < l.number → BeginsWithPart r l.payload (get_or l.words r []);
}
