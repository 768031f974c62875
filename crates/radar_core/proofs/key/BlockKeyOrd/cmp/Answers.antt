use Rattle.radar_core.proofs.KeyNumbers.{number-order}
use Rattle.radar_core.proofs.key.BlockKeyOrd.cmp.Goals as goal

pub returns : goal.returns
returns c = number-order c.args.self.now c.args.other.now c.as_number.result c.as_number-2.result c.cmp.result
    c.as_number.ensures.number c.as_number-2.ensures.number c.as_number.ensures.scale c.as_number-2.ensures.scale
    c.as_number.ensures.fits c.as_number-2.ensures.fits c.cmp.ensures
