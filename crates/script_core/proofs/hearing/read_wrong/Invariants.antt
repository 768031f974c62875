use Rattle.std.proofs.Common.{◌≡◌, ◌≤◌, ◌+◌, length, option_copied}
use Rattle.script_core.specs.Fields.{fields_left, wrong_from}
use Rattle.script_core.proofs.ReadLists.{read_before}
use Rattle.script_core.proofs.hearing.read_wrong.Given as goal

-- all fields spell what was read and what those that are left spell
abbrev pub invariant-loop-field : goal.invariant-loop-field
invariant-loop-field l = record {
  spelled : wrong_from 0 (fields_left (option_copied l.initial.rest)) ≡ read_before l.items.items (wrong_from l.least (fields_left (option_copied l.rest)));
  count : length (fields_left (option_copied l.initial.rest)) ≡ length l.items.items + length (fields_left (option_copied l.rest));
  least : l.least ≤ 552;
}

abbrev pub decreases-loop-field : goal.decreases-loop-field
decreases-loop-field l = length (fields_left (option_copied l.rest))
