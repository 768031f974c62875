use Rattle.std.proofs.Common.{◌+◌, ◌++◌, drop, ap, ◌∙◌}
use Rattle.std.specs.Option.{option_map}
use Rattle.run_core.specs.Reading.{newline_in}
use Rattle.run_core.proofs.Newlines.{parts-dropped}
use Rattle.run_core.proofs.input.Input.next_end.Goals as goal

pub returns-in-Some-clause-end : goal.returns-in-Some-clause-end
returns-in-Some-clause-end c =
    let front = c.as_slices.result.0.now in
    let back = c.as_slices.result.1.now in
    let rest = parts-dropped c.args.from c.min-skipped.result front back c.min-skipped.ensures in
    let parts = ap (λ xs. xs ++ c.split_at-2.result.1.now) c.split_at.ensures.back
    ∙ ap (λ ys. drop c.min-skipped.result front ++ ys) c.split_at-2.ensures.back in
    let all = ap (drop c.args.from) c.as_slices.ensures in
    ap (option_map (λ end. c.args.from + end)) (c.in-Some.ensures
    ∙ ap newline_in (parts ∙ rest ∙ all))

pub returns-in-None-clause-end : goal.returns-in-None-clause-end
returns-in-None-clause-end c =
    let front = c.as_slices.result.0.now in
    let back = c.as_slices.result.1.now in
    let rest = parts-dropped c.args.from c.min-skipped.result front back c.min-skipped.ensures in
    let parts = ap (λ xs. xs ++ c.split_at-2.result.1.now) c.split_at.ensures.back
    ∙ ap (λ ys. drop c.min-skipped.result front ++ ys) c.split_at-2.ensures.back in
    let all = ap (drop c.args.from) c.as_slices.ensures in
    ap (option_map (λ end. c.args.from + end)) (c.in-None.ensures
    ∙ ap newline_in (parts ∙ rest ∙ all))
