use Rattle.std.proofs.Common.{◌≡◌, true, refl, sym, ◌∙◌, arith}
use Rattle.segment_core.specs.File.{is_segmented}
use Rattle.segment_core.proofs.Parts.{part-at, part-starts}
use Rattle.segment_core.proofs.cutting.part_at.Goals as goal

pub part_from-requires : goal.part_from-requires
part_from-requires c =
    let cut : is_segmented c.args.form c.args.payload.now ≡ true = sym (c.is_segmented.ensures c.args.payload.now refl)
    ∙ c.if-not-is_segmented.false in
    let starts = part-starts c.args.form c.args.payload.now c.args.number cut (omega arith) in
    rw (c.from.ensures, c.segment_limit-limit.ensures) (omega (arith, starts))

pub returns : goal.returns
returns c =
    let cut : is_segmented c.args.form c.args.payload.now ≡ true = sym (c.is_segmented.ensures c.args.payload.now refl)
    ∙ c.if-not-is_segmented.false in
    let at = part-at c.args.form c.args.payload.now c.args.number cut (omega arith) in
    rw (c.part_from.ensures, c.from.ensures, c.segment_limit-limit.ensures) (sym at)
