use Rattle.std.proofs.Common.{◌≡◌, ◌≤◌, length, take}
use Rattle.poly256.specs.Polynomial.{trimmed_coefficients}
use Rattle.poly256.proofs.room.trimmed_len.Given as goal

abbrev pub invariant-loop-len : goal.invariant-loop-len
invariant-loop-len l = (l.len ≤ length l.list) × (trimmed_coefficients (take l.len l.list) ≡ trimmed_coefficients l.list)

abbrev pub decreases-loop-len : goal.decreases-loop-len
decreases-loop-len l = l.len
