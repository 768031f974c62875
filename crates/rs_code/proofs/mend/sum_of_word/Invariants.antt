use Rattle.std.proofs.Common.{◌≡◌, ◌<◌, take}
use Rattle.rs_code.specs.CodeWord.{power_sum}
use Rattle.rs_code.proofs.mend.sum_of_word.Given as goal

abbrev pub invariant-loop-byte : goal.invariant-loop-byte
invariant-loop-byte l = record {
  fits : l.sum < 256;
  sum_so_far : l.sum ≡ power_sum (take l.byte-index l.word) l.power;
}
