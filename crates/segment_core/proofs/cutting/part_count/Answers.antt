use Rattle.std.proofs.Common.{◌≡◌, ℕ, List, true, replicate, sym, ◌∙◌, arith}
use Rattle.std.proofs.lemmas.List.{length-replicate}
use Rattle.segment_core.specs.File.{is_segmented}
use Rattle.segment_core.proofs.Parts.{are_parts, parts-count}
use Rattle.segment_core.proofs.cutting.part_count.Goals as goal

pub returns-clause-count : goal.returns-clause-count
returns-clause-count c = λ payload size.
    let cut : is_segmented c.args.form payload ≡ true = sym (c.is_segmented.ensures payload size) ∙ c.if-not-is_segmented.false in
    rw (c.segment_limit-limit.ensures, ← size) (sym (parts-count c.args.form payload cut))

-- as many zeroes have a part at least
pub returns-clause-some : goal.returns-clause-some
returns-clause-some c =
    let zeroes : List ℕ = replicate c.args.size 0 in
    let count = returns-clause-count c zeroes (length-replicate c.args.size 0) in
    let some = (are_parts c.args.form zeroes).some in
    omega (arith, count, some)
