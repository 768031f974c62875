use Rattle.std.proofs.Common.{◌∙◌, sym}
use Rattle.life_table.proofs.Trees.{table_members}
use Rattle.life_table.proofs.entries.member_count.Goals as goal

pub returns-in-Table : goal.returns-in-Table
returns-in-Table c = rw c.in-Table.is (c.len.ensures.len ∙ sym (table_members c.in-Table.table))
