use Rattle.std.proofs.Common.{◌≡◌, ◌+◌, ◌≤◌, drop}
use Rattle.rs_code.specs.CodeWord.{differences}
use Rattle.rs_code.proofs.mend.count_differences.Given as goal

-- the places counted and those that are left
abbrev pub invariant-loop-i : goal.invariant-loop-i
invariant-loop-i l = record {
  few : l.count ≤ l.i;
  whole : l.count + differences (drop l.i l.word) (drop l.i l.other) ≡ differences l.word l.other;
}
