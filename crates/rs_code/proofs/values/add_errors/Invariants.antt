use Rattle.std.proofs.Common.{◌≡◌, ◌<◌, ◌*◌, ℕ, List, length, get_or, drop}
use Rattle.poly256.specs.Polynomial.{element_product, element_power}
use Rattle.rs_code.specs.Mending.{with_errors}
use Rattle.rs_code.proofs.values.add_errors.Given as goal

-- the errors that are left make of the word what all make of it at first
abbrev pub invariant-loop-i : goal.invariant-loop-i
invariant-loop-i g l = record {
  long : length l.word ≡ g.row.N;
  left : (errors : List ℕ) → length errors ≡ length l.places → ((i : ℕ) → get_or errors i 0 < 256)
      → ((i : ℕ) → i < length errors → element_product (get_or errors i 0) (element_power 2 (l.first * get_or l.places i 0)) ≡ get_or l.values i 0)
      → with_errors l.word (drop l.i l.places) (drop l.i errors) ≡ with_errors l.initial.word l.places errors;
}
