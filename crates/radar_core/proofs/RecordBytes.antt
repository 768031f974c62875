-- What is written of a record are bytes.
use Rattle.std.proofs.Common.{ℕ, ◌+◌, ◌-◌, ◌*◌, ◌<◌, List, [], ◌∷◌, map, true, false, arith}
use Rattle.std.specs.List.{All, range_with_len}
use Rattle.std.proofs.lemmas.List.Elements.{All-nil, All-cons, All-head, All-tail, All-append}
use Rattle.bit_fields.specs.Bits.{AreBytes}
use Rattle.bit_fields.specs.BytesAsNumbers.{IsByte, bytes_high_first-bytes}
use Rattle.bit_fields.specs.BitsBack.{bit_below}
use Rattle.radar_core.specs.declared.key.BlockKey.{BlockKey}
use Rattle.radar_core.specs.declared.run.Run.{Run}
use Rattle.radar_core.specs.Keys.{front_bytes}
use Rattle.radar_core.specs.Cells.{IsCells}
use Rattle.radar_core.specs.Runs.{FitsRun, run_byte, longest_runs, run_record}
use Rattle.radar_core.specs.Blanks.{IsGroup, mark, length_for, first_bitmap_byte, bitmap_byte, bitmap_of, blank_record}
use Rattle.radar_core.proofs.ReadBack.{longest_runs-cells}
use Rattle.radar_core.proofs.MarkLemmas.{last-of_group}

run-byte : (run : Run) → FitsRun run → run_byte run < 256
run-byte run fits = omega (arith, fits.some, fits.length, fits.intensity)

runs-bytes : (runs : List Run) → All FitsRun runs → AreBytes (map run_byte runs)
runs-bytes [] fits = All-nil IsByte
runs-bytes (run ∷ runs) fits =
    All-cons IsByte (run_byte run) (map run_byte runs) (run-byte run (All-head FitsRun run runs fits))
    (runs-bytes runs (All-tail FitsRun run runs fits))

pub run_record-bytes : (key : BlockKey) (cells : List ℕ) → IsCells cells → AreBytes (run_record key cells)
unfolding run_record
run_record-bytes key cells are =
    All-append IsByte (front_bytes true key) (map run_byte (longest_runs cells)) (bytes_high_first-bytes 3 _)
    (runs-bytes (longest_runs cells) (longest_runs-cells cells are.intensities).fit)

-- eight bits, and four bits before a number of four
eight_below : (a b c d e f g h : ℕ) → a < 2 → b < 2 → c < 2 → d < 2 → e < 2 → f < 2 → g < 2 → h < 2
    → (((((((0 * 2 + a) * 2 + b) * 2 + c) * 2 + d) * 2 + e) * 2 + f) * 2 + g) * 2 + h < 256
eight_below a b c d e f g h p q r s t u v w = omega arith

four_below : (a b c d n : ℕ) → a < 2 → b < 2 → c < 2 → d < 2 → n < 16 → ((((0 * 2 + a) * 2 + b) * 2 + c) * 2 + d) * 16 + n < 256
four_below a b c d n p q r s t = omega arith

mark_below : (base : ℕ) (further : List ℕ) (offset : ℕ) → (mark base further offset).number < 2
mark_below base further offset = bit_below _

bitmap-byte : (base : ℕ) (further : List ℕ) (place : ℕ) → bitmap_byte base further place < 256
bitmap-byte base further place =
    let low : ℕ = 8 * place - 3 in
    let m : (offset : ℕ) → (mark base further offset).number < 2 = mark_below base further in
    eight_below _ _ _ _ _ _ _ _ (m (low + 7)) (m (low + 6)) (m (low + 5)) (m (low + 4)) (m (low + 3)) (m (low + 2)) (m (low + 1)) (m low)

first-byte : (base : ℕ) (further : List ℕ) → length_for base further < 16 → first_bitmap_byte base further < 256
first-byte base further fits =
    let m : (offset : ℕ) → (mark base further offset).number < 2 = mark_below base further in
    four_below _ _ _ _ (length_for base further) (m 4) (m 3) (m 2) (m 1) fits

places-bytes : (base : ℕ) (further places : List ℕ) → AreBytes (map (bitmap_byte base further) places)
places-bytes base further [] = All-nil IsByte
places-bytes base further (place ∷ places) =
    All-cons IsByte (bitmap_byte base further place) (map (bitmap_byte base further) places) (bitmap-byte base further place)
    (places-bytes base further places)

pub blank_record-bytes : (base : BlockKey) (further : List ℕ) → IsGroup base.number further → AreBytes (blank_record base further)
unfolding blank_record
blank_record-bytes base further group =
    let last = last-of_group base.number further group in
    let fits : length_for base.number further < 16 = omega (arith, last.most) in
    All-append IsByte (front_bytes false base) (bitmap_of base.number further) (bytes_high_first-bytes 3 _)
    (All-cons IsByte (first_bitmap_byte base.number further) _ (first-byte base.number further fits)
    (places-bytes base.number further (range_with_len 1 (length_for base.number further - 1))))
