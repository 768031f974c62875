use Rattle.std.proofs.Common.{◌≡◌, false, Option, Some, None, refl, sym, arith, ◌∙◌}
use Rattle.std.proofs.lemmas.Bool.Decides.{nat_tests}
use Rattle.apdu_core.specs.declared.apdu.Seg.{Seg}
use Rattle.apdu_core.specs.Spelling.{FitsSegmentation}
use Rattle.apdu_core.specs.Views.{apdu_view}
use Rattle.segment_core.specs.Store.{FitsFile}
use Rattle.receiver_core.specs.Reception.{is_large}
use Rattle.receiver_core.proofs.arrival.read_arrival.Goals as goal

fits_file : (s : Option Seg) → FitsSegmentation s → is_large s ≡ false → FitsFile s
fits_file None fits small = tt
fits_file (Some s) fits small = (fits.first, fits.last, grind (arith, nat_tests))

pub returns-clause-segment : goal.returns-clause-segment
returns-clause-segment c =
    let spelled = c.in-Ok.ensures.spelled (apdu_view c.in-Ok.apdu) in
    fits_file c.in-Ok.apdu.seg (spelled.0 refl).1.fits.segmentation (sym c.is_large.ensures ∙ c.if-is_large.false)
