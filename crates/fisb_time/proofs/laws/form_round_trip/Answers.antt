use Rattle.fisb_time.specs.TimeFields.{shown_fields}
use Rattle.fisb_time.proofs.NamingLemmas.{named_moment-of}
use Rattle.fisb_time.proofs.RoundTripLemmas.{Names-shown_fields}
use Rattle.fisb_time.proofs.laws.form_round_trip.Goals as goal

pub returns-clause-names : goal.returns-clause-names
returns-clause-names c form moment received range _ showable late early =
    Names-shown_fields form moment received range showable late early

pub returns-clause-named : goal.returns-clause-named
returns-clause-named c form moment received range _ showable late early =
    named_moment-of form (shown_fields form moment) received moment
    (Names-shown_fields form moment received range showable late early)
