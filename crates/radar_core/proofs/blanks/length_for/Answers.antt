use Rattle.std.proofs.Common.{◌-◌, ◌+◌, ◌/◌, ap, arith}
use Rattle.radar_core.proofs.MarkLemmas.{last-of_group}
use Rattle.radar_core.proofs.blanks.length_for.Goals as goal

pub overflow_sub-result : goal.overflow_sub-result
overflow_sub-result c =
    let last = last-of_group c.args.base c.args.further.now c.requires.group in omega (arith, c.last_number-last.ensures, last.least)

pub overflow_add-result : goal.overflow_add-result
overflow_add-result c =
    let last = last-of_group c.args.base c.args.further.now c.requires.group in omega (arith, c.last_number-last.ensures, last.most, c.requires.base)

pub returns-clause-value : goal.returns-clause-value
returns-clause-value c = ap (λ n. (n - c.args.base + 3) / 8 + 1) c.last_number-last.ensures

pub returns-clause-most : goal.returns-clause-most
returns-clause-most c =
    let last = last-of_group c.args.base c.args.further.now c.requires.group in omega (arith, c.last_number-last.ensures, last.most)
