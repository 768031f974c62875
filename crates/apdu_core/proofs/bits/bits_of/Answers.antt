use Rattle.std.proofs.Common.{arith}
use Rattle.apdu_core.proofs.ByteLemmas.{number_of-more, fits_more}
use Rattle.apdu_core.proofs.bits.bits_of.Goals as goal

pub loop-byte-preserved : goal.loop-byte-preserved
loop-byte-preserved c = record {
  is = number_of-more c.args.header.now c.loop-byte.byte-index c.loop-byte.number c.from.result (omega arith) c.loop-byte.invariant.is c.from.ensures;
  fits = fits_more c.loop-byte.byte-index c.loop-byte.number c.from.result c.loop-byte.invariant.fits (omega (arith, c.type_inv.header c.loop-byte.byte-index));
}
