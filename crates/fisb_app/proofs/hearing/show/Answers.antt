use Rattle.receiver_core.specs.Hearing.{clock_of}
use Rattle.segment_core.specs.Store.{last_above}
use Rattle.fisb_app.proofs.Acting.{shown-text}
use Rattle.fisb_app.proofs.hearing.show.Goals as goal

pub returns-in-Ok : goal.returns-in-Ok
returns-in-Ok g c = λ table past s.
    shown-text table past c.args.moment c.in-Ok.entries c.of.result (c.in-Ok.ensures table past s) c.of.ensures

pub returns-in-Err : goal.returns-in-Err
returns-in-Err g c = λ table past s. c.stop_of_show.ensures (last_above (clock_of past) c.args.moment) (c.in-Err.ensures table past s).refused
