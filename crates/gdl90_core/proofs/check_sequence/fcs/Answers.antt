use Rattle.std.specs.Prelude.{fold}
use Rattle.std.proofs.Common.{◌≤◌, ℕ, List, length, ◌∙◌, ap, arith}
use Rattle.std.proofs.lemmas.List.{take_all}
use Rattle.gdl90_core.specs.CheckSequence.{with_byte, remainder}
use Rattle.gdl90_core.proofs.check_sequence.fcs.Goals as goal

pub returns : goal.returns
unfolding remainder
returns c =
    let all : length c.args.message.now ≤ c.loop-byte.byte-index = omega arith in
    c.loop-byte.invariant ∙ ap (λ (bytes : List ℕ). fold with_byte 0 bytes) (take_all _ _ all)
