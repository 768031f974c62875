use Rattle.std.proofs.Common.{◌≡◌, ◌<◌, ◌+◌, ◌-◌, ℕ, length, get_or}
use Rattle.poly256.specs.Polynomial.{element_power, value_at}
use Rattle.rs_code.specs.Mending.{HasLead}
use Rattle.rs_code.proofs.marks.add_roots.Given as goal

-- a polynomial that is 0 where the first was and at the points so far
abbrev pub invariant-loop-mark : goal.invariant-loop-mark
invariant-loop-mark g l = record {
  long : length l.polynomial ≡ g.row.N;
  lead : HasLead l.polynomial (l.degree + l.mark-index);
  kept : (x : ℕ) → value_at l.initial.polynomial x ≡ 0 → value_at l.polynomial x ≡ 0;
  roots : (i : ℕ) → i < l.mark-index → value_at l.polynomial (element_power 2 (g.row.N - 1 - get_or l.marks i 0)) ≡ 0;
}
