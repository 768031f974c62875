use Rattle.std.proofs.Common.{◌≡◌, ◌-◌, ◌<◌, ℕ, length, get_or}
use Rattle.script_core.proofs.fields.read_cells.Given as goal

abbrev pub invariant-loop-place : goal.invariant-loop-place
invariant-loop-place l = record {
  long : length l.cells ≡ 128;
  made : (k : ℕ) → k < l.place → get_or l.cells k 0 ≡ get_or l.field k 0 - 48;
}
