use Rattle.std.proofs.Common.{◌≡◌, ℕ, ◌<◌, slice_index}
use Rattle.text_reports.specs.TextKey.{is_blank}
use Rattle.text_reports.proofs.cut.front_len.Given as goal

abbrev pub invariant-loop-place : goal.invariant-loop-place
invariant-loop-place l = (k : ℕ) → k < l.place → is_blank (slice_index l.text k) ≡ l.blank
