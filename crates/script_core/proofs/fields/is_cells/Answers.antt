use Rattle.std.proofs.Common.{◌≡◌, ◌==◌, rules, true, length, eq-eqb}
use Rattle.std.proofs.lemmas.Iterator.{YieldsList-from_slice}
use Rattle.std.proofs.lemmas.Iterator.Search.{all_from_yields_List}
use Rattle.std.specs.Int.{is_in_range}
use Rattle.std.specs.List.{list_all}
use borrow.Author.Tests.{tests}
use Rattle.script_core.proofs.fields.is_cells.Goals as goal

pub returns-then-field-eq-CELLS : goal.returns-then-field-eq-CELLS
returns-then-field-eq-CELLS c =
    let all : c.all.result ≡ list_all (is_in_range 48 55) c.args.field.now = all_from_yields_List (is_in_range 48 55) _ _ c.all.result c.all.ensures.ran (YieldsList-from_slice c.args.field.now cc) (λ x b q k. search (rules, tests)) in
    let sized : (length c.args.field.now == 128) ≡ true = eq-eqb (length c.args.field.now) 128 c.if-field-eq-CELLS.true in
    rw (all, sized)
