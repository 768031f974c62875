use Rattle.std.proofs.Common.{◌≡◌, ◌++◌, string_bytes, flat_map, map, take}
use Rattle.picture_core.specs.Views.{entry_view}
use Rattle.script_core.specs.Printed.{shown_entry}
use Rattle.script_core.proofs.picture_text.push_entries.Given as goal

-- the entries so far are shown
abbrev pub invariant-loop-entry : goal.invariant-loop-entry
invariant-loop-entry l = string_bytes l.text ≡ string_bytes l.initial.text ++ flat_map shown_entry (map entry_view (take l.entry-index l.entries))
