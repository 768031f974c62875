use Rattle.std.proofs.Common.{ap, refl, string_bytes}
use Rattle.picture_core.specs.Views.{entry_view}
use Rattle.script_core.specs.Printed.{shown_entry}
use Rattle.script_core.proofs.PrintLists.{pieces_more}
use Rattle.script_core.proofs.picture_text.push_entries.Goals as goal

pub loop-entry-preserved : goal.loop-entry-preserved
loop-entry-preserved c =
    pieces_more (string_bytes c.args.text.now) shown_entry entry_view c.args.entries.now c.loop-entry.entry-index c.entry-item.result
    c.loop-entry-test.true c.loop-entry.invariant c.in_ok-push_entry.ensures refl
    (ap (λ e. shown_entry (entry_view e)) c.entry-item.is)
