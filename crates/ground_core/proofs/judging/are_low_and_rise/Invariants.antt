use Rattle.std.proofs.Common.{◌≡◌, ◌≤◌, ◌&&◌, nat_lt, drop}
use Rattle.std.specs.List.{list_all}
use Rattle.ground_core.specs.Refusal.{rise}
use Rattle.ground_core.proofs.Rising.{rise_from}
use Rattle.ground_core.proofs.judging.are_low_and_rise.Given as goal

abbrev pub invariant-loop-number : goal.invariant-loop-number
invariant-loop-number l = record {
  same : (rise l.numbers && list_all (λ n. nat_lt n 405000) l.numbers)
      ≡ (rise_from l.least (drop l.number-index l.numbers) && list_all (λ n. nat_lt n 405000) (drop l.number-index l.numbers));
  low : l.least ≤ 405000;
}
