use Rattle.std.proofs.Common.{◌≡◌, Result, Ok, Err, IfOk, IfErr, ◌≢◌, ap, sym, subst, ◌∙◌}
use Rattle.std.proofs.lemmas.Bool.{false≢true}
use Rattle.toml.specs.View.{view, table_view}
use Rattle.toml.specs.declared.value.Value.{Table}
use Rattle.toml.proofs.Views.{view-Table}
use Rattle.life_table.specs.TableIn.{table_of_tree, table_in}
use Rattle.life_table.specs.declared.fault.TableFault.TheVariants.{NoMemory}
use Rattle.life_table.specs.declared.fault.TableFault.{TableFault}
use Rattle.life_table.specs.Fault.{Fault}
use Rattle.life_table.specs.Views.{IsFault}
use Rattle.life_table.proofs.Written.{any_fault, text_is_document, no_document}
use Rattle.life_table.proofs.table.LifeTable.read.Goals as goal

told : {T A : Type 0} (r : Result T TableFault) (answer : Result A Fault) → IfErr r (λ e. e ≢ NoMemory → IsFault e answer) → IfErr r (λ e. IsFault e answer)
told (Ok x) answer is = is
told (Err e) answer is = any_fault e answer is

pub returns-in-Ok-clause-table : goal.returns-in-Ok-clause-table
returns-in-Ok-clause-table c =
    let read : table_in c.args.text.now ≡ table_of_tree (view (Table c.in-Ok.tree)) =
    text_is_document c.args.text.now (table_view c.in-Ok.tree) c.in-Ok.ensures.ok.0 c.in-Ok.ensures.ok.1 ∙ ap table_of_tree (sym (view-Table c.in-Ok.tree)) in
    subst (λ answer. IfOk c.table_of_tree.result (λ t. answer ≡ Ok t)) (sym read) c.table_of_tree.ensures.table

pub returns-in-Ok-clause-fault : goal.returns-in-Ok-clause-fault
returns-in-Ok-clause-fault c =
    let read : table_in c.args.text.now ≡ table_of_tree (view (Table c.in-Ok.tree)) =
    text_is_document c.args.text.now (table_view c.in-Ok.tree) c.in-Ok.ensures.ok.0 c.in-Ok.ensures.ok.1 ∙ ap table_of_tree (sym (view-Table c.in-Ok.tree)) in
    subst (λ answer. IfErr c.table_of_tree.result (λ e. IsFault e answer)) (sym read) (told c.table_of_tree.result (table_of_tree (view (Table c.in-Ok.tree))) c.table_of_tree.ensures.fault)

pub returns-else-is_memory-clause-fault : goal.returns-else-is_memory-clause-fault
returns-else-is_memory-clause-fault c =
    no_document c.args.text.now (λ utf8. c.in-Err.ensures.refused (λ memory. false≢true (sym c.if-is_memory.false ∙ c.is_memory.ensures.1 memory)) utf8)
