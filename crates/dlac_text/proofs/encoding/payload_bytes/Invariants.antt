use Rattle.std.proofs.Common.{◌≡◌, length, map, [], ◌∷◌, ◌++◌}
use Rattle.dlac_text.specs.Alphabet.{IsDlac, code_of}
use Rattle.dlac_text.specs.SixBits.{packed_bytes}
use Rattle.dlac_text.proofs.encoding.payload_bytes.Given as goal

-- the bytes so far and those of the rest are the bytes of all
abbrev pub invariant-loop-rest : goal.invariant-loop-rest
invariant-loop-rest l = record {
  joined : packed_bytes (map code_of l.characters ++ 0 ∷ []) ≡ l.bytes.items ++ packed_bytes (map code_of l.rest ++ 0 ∷ []);
  alphabet : IsDlac l.rest;
}

abbrev pub decreases-loop-rest : goal.decreases-loop-rest
decreases-loop-rest l = length l.rest
