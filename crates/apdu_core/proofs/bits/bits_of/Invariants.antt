use Rattle.std.proofs.Common.{◌≡◌, ◌*◌, ◌^◌, ◌<◌, take}
use Rattle.bit_fields.specs.Bits.{number_of}
use Rattle.apdu_core.proofs.bits.bits_of.Given as goal

-- the number of the bytes so far, which fits as many bits
abbrev pub invariant-loop-byte : goal.invariant-loop-byte
invariant-loop-byte l = record { is : l.number ≡ number_of (take l.byte-index l.header); fits : l.number < 2 ^ (8 * l.byte-index) }
