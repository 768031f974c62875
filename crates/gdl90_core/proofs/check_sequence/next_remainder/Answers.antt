use Rattle.std.proofs.Common.{ℕ, ◌+◌, ◌*◌, ◌%◌, ◌∙◌, ap}
use Rattle.std.proofs.Math.Path.{ap₂}
use Rattle.std.proofs.Math.Facts.{Fits-lt-pow}
use Rattle.std.specs.Int.Bits.{bit_xor}
use Rattle.gdl90_core.proofs.RemainderRows.{row_step}
use Rattle.gdl90_core.proofs.check_sequence.next_remainder.Goals as goal

pub returns : goal.returns
returns c =
    ap₂ bit_xor c.remainder_at.ensures (ap (λ (n : ℕ). c.args.rest % 256 * 256 + n) c.from.ensures)
    ∙ row_step c.args.rest c.args.byte (Fits-lt-pow c.ranges.rest) (Fits-lt-pow c.ranges.byte)
