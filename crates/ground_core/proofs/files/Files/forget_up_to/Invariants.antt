use Rattle.std.proofs.Common.{◌≡◌, ℕ, ◌+◌, false, nat_le, length}
use Rattle.ground_core.specs.Views.{count_at}
use Rattle.ground_core.proofs.files.Files.forget_up_to.Given as goal

abbrev pub invariant-loop-turn : goal.invariant-loop-turn
invariant-loop-turn l = record {
  above : (v p : ℕ) → nat_le v l.over ≡ false → count_at l.self v p ≡ count_at l.fn.self v p;
  size : l._turn + length l.self.counts.entries ≡ length l.fn.self.counts.entries;
}
