use Rattle.std.proofs.Common.{◌≡◌, length, option_copied}
use Rattle.script_core.specs.Fields.{numbers_in, parts_left, block_numbers}
use Rattle.script_core.proofs.ReadLists.{read_before}
use Rattle.script_core.proofs.fields.read_numbers.Given as goal

-- all parts spell what was read and what those that are left spell
abbrev pub invariant-loop-part : goal.invariant-loop-part
invariant-loop-part l = numbers_in l.field ≡ read_before l.items.items (block_numbers (parts_left 44 (option_copied l.rest)))

abbrev pub decreases-loop-part : goal.decreases-loop-part
decreases-loop-part l = length (parts_left 44 (option_copied l.rest))
