use Rattle.std.proofs.Common.{◌≡◌, drop, bit_xor}
use Rattle.rs_code.specs.Mending.{total_of}
use Rattle.rs_code.proofs.values.total.Given as goal

-- what is added and what is left are the whole
abbrev pub invariant-loop-byte : goal.invariant-loop-byte
invariant-loop-byte l = bit_xor l.total (total_of (drop l.byte-index l.bytes)) ≡ total_of l.bytes
