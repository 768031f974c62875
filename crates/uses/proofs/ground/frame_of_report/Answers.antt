use Rattle.std.proofs.Common.{◌∷◌}
use Rattle.ground_core.specs.History.{accepted}
use Rattle.ground_core.specs.Update.{text}
use Rattle.uses.proofs.ground.frame_of_report.Goals as goal

-- the ground stands for one update more, and the frame is that of a fill after it
pub returns-in-Ok-fill : goal.returns-in-Ok-fill
returns-in-Ok-fill c = λ table station history stands.
    c.in-Ok-fill.ensures.frame table station
    (accepted c.args.moment (text c.args.moment c.args.report.now) ∷ history)
    (c.in-Ok.ensures.accepted table station history stands)
