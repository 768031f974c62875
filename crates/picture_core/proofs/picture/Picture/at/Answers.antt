-- What is shown is kept, and so is of the kind of its key.
use Rattle.picture_core.specs.Views.{marked_entries}
use Rattle.picture_core.proofs.KindsKept.{shown_kinds}
use Rattle.picture_core.proofs.picture.Picture.at.Goals as goal

pub of-requires : goal.of-requires
of-requires c =
    shown_kinds c.in_ok-live_pairs.field-0.items c.args.moment (marked_entries c.self.inside.kept).entries
    c.in_ok-live_pairs.ensures c.self.invariant.0
