use Rattle.std.proofs.Common.{arith, sym, ◌∙◌}
use Rattle.rs_code.proofs.PowerSums.{power_sum-zeros}
use Rattle.rs_code.proofs.Distance.{zero_from_sums, weight-length}
use Rattle.rs_code.proofs.remainder.remainder.Goals as goal

pub returns-clause-code : goal.returns-clause-code
returns-clause-code g c = (
  λ zeros. record {
    long = c.told-word;
    bytes = c.byte_law.ensures;
    sums = λ j low high. sym (c.rest_of_division-rest.ensures.sums j low high) ∙ power_sum-zeros c.field_laws.ensures c.rest_of_division-rest.result zeros j;
  },
  λ code.
      zero_from_sums c.field_laws.ensures g.row.ROOTS c.rest_of_division-rest.result g.row.ROOTS g.row.FIRST c.rest_of_division-rest.ensures.long
      (let b = c.requires.below in let s = c.requires.short in omega arith) c.byte_law-2.ensures
      (let w = weight-length c.rest_of_division-rest.result in let l = c.rest_of_division-rest.ensures.long in omega arith)
      (λ j low high. c.rest_of_division-rest.ensures.sums j low high ∙ code.sums j low high),
)
