use Rattle.std.proofs.Common.{◌≡◌, ◌++◌, map}
use Rattle.picture_core.specs.Kept.{live_entries}
use Rattle.picture_core.specs.Views.{entry_view, pair_entry, shown_value}
use Rattle.picture_core.proofs.kept.live_pairs.Given as goal

abbrev pub invariant-loop-key : goal.invariant-loop-key
invariant-loop-key l =
    map entry_view l.shown.items ++ map shown_value (live_entries l.now (map pair_entry l.key-iterator))
    ≡ map shown_value (live_entries l.now (map pair_entry l.kept.entries))
