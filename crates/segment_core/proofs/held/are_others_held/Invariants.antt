use Rattle.std.proofs.Common.{◌≡◌, ℕ, ◌≤◌, true}
use Rattle.segment_core.specs.HeldPieces.{is_held}
use Rattle.segment_core.proofs.held.are_others_held.Given as goal

-- the other numbers so far are held
abbrev pub invariant-loop-index : goal.invariant-loop-index
invariant-loop-index l = (number : ℕ) → 1 ≤ number → number ≤ l.index → (number ≡ l.name.number → ⊥)
    → is_held l.pieces.entries l.name number ≡ true
