use Rattle.std.proofs.Common.{◌≡◌, ◌<◌, ◌+◌, get_or, drop, bit_xor}
use Rattle.rs_code.specs.Mending.{paired_sum}
use Rattle.rs_code.proofs.locator.discrepancy.Given as goal

-- what is added and what is left are the whole
abbrev pub invariant-loop-power : goal.invariant-loop-power
invariant-loop-power l = record {
  fits : l.total < 256;
  whole : bit_xor l.total (paired_sum (drop l.power l.coefficients) (λ k. get_or l.sums (l.from + (l.power + k)) 0))
      ≡ paired_sum l.coefficients (λ k. get_or l.sums (l.from + k) 0);
}
