use Rattle.std.specs.Prelude.{◌≡◌, ◌∷◌, take}
use Rattle.gdl90_core.specs.Framing.{escaped_bytes}
use Rattle.gdl90_core.proofs.framing.frame_message.Given as goal

-- the flag and the bytes so far are written
abbrev pub invariant-loop-byte : goal.invariant-loop-byte
invariant-loop-byte l = l.out.items ≡ 0x7E ∷ escaped_bytes (take l.byte-index l.message)
