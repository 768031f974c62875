-- The words of a METAR are counted and drawn.
use Rattle.workload.proofs.draws.Draws.metar.Goals as goal
use Rattle.workload.proofs.PartLemmas.{metar-is}

pub returns : goal.returns
returns c =
    metar-is c.args.moment c.args.station c.args.self.now.state c.next_number.result c.next_number.new.self.state c.report.new.self.state
    c.in_ok-text.text c.next_number.ensures.number c.next_number.ensures.state c.in_ok-text.ensures.text c.in_ok-text.ensures.state
