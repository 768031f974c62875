use Rattle.std.proofs.Common.{◌≡◌, true, length, sym, ◌∙◌, arith}
use Rattle.std.proofs.lemmas.Bool.Decides.{nat_tests}
use Rattle.script_core.specs.Fields.{is_cells}
use Rattle.script_core.proofs.CellDigits.{values_of_digits, cells_made}
use Rattle.script_core.proofs.fields.read_cells.Goals as goal

pub returns : goal.returns
returns c =
    let field = c.args.field.now in
    let cells = c.loop-place.cells in
    let are : is_cells field ≡ true = sym c.is_cells.ensures ∙ c.if-not-is_cells.false in
    let long : length field ≡ 128 = grind (arith, nat_tests) in
    let same : length field ≡ length cells = long ∙ sym c.loop-place.invariant.long in
    cells_made field cells c.new.result are
    (values_of_digits field cells same (λ k within. c.loop-place.invariant.made k (omega arith)))
    (c.new.ensures.exactly.1) c.new.ensures.value
