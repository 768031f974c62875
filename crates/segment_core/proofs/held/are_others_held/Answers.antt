use Rattle.std.proofs.Common.{◌+◌, is_some, sym, ap, ◌∙◌, arith}
use Rattle.segment_core.specs.Arrival.{other_numbers}
use Rattle.segment_core.specs.Kept.{seg_of_name, kept_under}
use Rattle.segment_core.specs.declared.piece_name.PieceName.{PieceName}
use Rattle.segment_core.specs.HeldPieces.{is_held}
use Rattle.list_members.specs.Ranges.{in_all, not_all}
use Rattle.segment_core.proofs.Completed.{in-others, others-in}
use Rattle.segment_core.proofs.held.are_others_held.Goals as goal

pub returns-then-not-is_held : goal.returns-then-not-is_held
returns-then-not-is_held c =
    sym (not_all (is_held c.args.pieces.now.entries c.args.name.now) (c.loop-index.index + 1)
    (other_numbers (seg_of_name c.args.name.now))
    (others-in (seg_of_name c.args.name.now) (c.loop-index.index + 1) (omega arith) (omega arith) c.if-number-name.true)
    (ap (λ (name : PieceName). is_some (kept_under c.args.pieces.now.entries name)) (sym c.with_number.ensures)
    ∙ sym c.is_held.ensures ∙ c.if-not-is_held.true))

pub returns : goal.returns
returns c =
    sym (in_all (is_held c.args.pieces.now.entries c.args.name.now) (other_numbers (seg_of_name c.args.name.now)) (λ number there.
    let other = in-others (seg_of_name c.args.name.now) number there in
    c.loop-index.invariant number other.0 (omega arith) other.2))
