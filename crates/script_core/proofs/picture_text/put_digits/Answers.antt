use Rattle.std.proofs.Common.{◌≡◌, ◌+◌, ◌<◌, ◌∷◌, ◌++◌, [], length, take, get_or, arith, sym, ap, ◌∙◌}
use Rattle.std.proofs.Math.ListN.{length-set}
use Rattle.std.proofs.lemmas.Grind.{common_steps}
use Rattle.std.proofs.lemmas.List.{map_more, take_more_set}
use Rattle.script_core.specs.Printed.{cell_digits}
use Rattle.script_core.proofs.picture_text.put_digits.Goals as goal

pub loop-place-preserved : goal.loop-place-preserved
loop-place-preserved c =
    let cells = c.args.cells.now in
    let digits = c.loop-place.digits in
    let place = c.loop-place.place in
    let value = 48 + c.at.result in
    let count : length cells ≡ 128 = c.at.ensures.cells.count in
    let within : place < length cells = omega (arith, count, c.loop-place-test.true) in
    let inside : place < length digits = omega (arith, c.loop-place.invariant.room, c.loop-place-test.true) in
    let digit : value ≡ 48 + get_or cells place 0 = ap (λ cell. 48 + cell) c.at.ensures.value in
    record {
      room = omega (arith, c.loop-place.invariant.room, length-set digits place value);
      written = take_more_set digits place value inside ∙ ap (λ front. front ++ value ∷ []) c.loop-place.invariant.written
          ∙ ap (λ d. cell_digits (take place cells) ++ d ∷ []) digit ∙ sym (map_more (λ cell. 48 + cell) cells place 0 within);
      are = λ some. c.at.ensures.cells;
    }

pub returns-clause-digits : goal.returns-clause-digits
returns-clause-digits c =
    let cells = c.args.cells.now in
    let digits = c.loop-place.digits in
    let place = c.loop-place.place in
    let count = (c.loop-place.invariant.are (omega (arith, c.loop-place-test.false))).count in
    let whole : take place cells ≡ cells = grind (arith, common_steps, count, c.loop-place-test.false) in
    let filled : take place digits ≡ digits = grind (arith, common_steps, c.loop-place.invariant.room, c.loop-place-test.false) in
    sym filled ∙ c.loop-place.invariant.written ∙ ap cell_digits whole

pub returns-clause-cells : goal.returns-clause-cells
returns-clause-cells c = c.loop-place.invariant.are (omega (arith, c.loop-place-test.false))
