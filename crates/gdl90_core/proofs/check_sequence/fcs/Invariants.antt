use Rattle.std.specs.Prelude.{fold}
use Rattle.std.proofs.Common.{◌≡◌, take}
use Rattle.gdl90_core.specs.CheckSequence.{with_byte}
use Rattle.gdl90_core.proofs.check_sequence.fcs.Given as goal

-- the remainder of the bytes so far
abbrev pub invariant-loop-byte : goal.invariant-loop-byte
invariant-loop-byte l = l.rest ≡ fold with_byte 0 (take l.byte-index l.message)
