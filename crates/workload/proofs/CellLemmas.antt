-- Cells that are written one after another.
use Rattle.std.proofs.Common.{◌≡◌, ℕ, ◌+◌, ◌/◌, ◌<◌, List, ◌∷◌, [], ◌++◌, length, take, map, get_or, set, sym, ap, ◌∙◌, arith}
use Rattle.std.proofs.Math.Seq.{take-length}
use Rattle.std.proofs.lemmas.List.{take_more_set}
use Rattle.std.proofs.lemmas.List.FromFn.{get_or-map-range_with_len, map-range_with_len_more}
use Rattle.std.specs.List.{All, range_with_len}
use Rattle.workload.specs.Blocks.{cells_of}

-- one cell more
pub cells-more : (f : ℕ → ℕ) (cells : List ℕ) (place value : ℕ) → place < length cells → value ≡ f place → take place cells ≡ map f (range_with_len 0 place) → take (place + 1) (set cells place value) ≡ map f (range_with_len 0 (place + 1))
cells-more f cells place value inside is done =
    take_more_set cells place value inside
    ∙ ap (λ front. front ++ value ∷ []) done
    ∙ ap (λ v. map f (range_with_len 0 place) ++ v ∷ []) is
    ∙ sym (map-range_with_len_more f 0 place place (omega arith))

-- all cells
pub cells-whole : (f : ℕ → ℕ) (cells : List ℕ) (place count : ℕ) → length cells ≡ count → place ≡ count → take place cells ≡ map f (range_with_len 0 place) → cells ≡ map f (range_with_len 0 count)
cells-whole f cells place count long at done =
    let whole : take place cells ≡ cells = ap (λ n. take n cells) (at ∙ sym long) ∙ take-length cells in
    sym whole ∙ done ∙ ap (λ n. map f (range_with_len 0 n)) at

pub cells_of-whole : (intensities cells : List ℕ) (place : ℕ) → length cells ≡ 128 → place ≡ 128 → take place cells ≡ map (λ cell. get_or intensities (cell / 8) 0) (range_with_len 0 place) → cells ≡ cells_of intensities
unfolding cells_of
cells_of-whole intensities cells place long at done = cells-whole (λ cell. get_or intensities (cell / 8) 0) cells place 128 long at done

-- each cell is an intensity
pub cells_of-small : (intensities : List ℕ) → length intensities ≡ 16 → All (λ n. n < 8) intensities → All (λ n. n < 8) (cells_of intensities)
unfolding cells_of
cells_of-small intensities long small k d h =
    let inside : k < 128 = h in
    let at : k / 8 < length intensities = omega arith in
    let is : get_or (map (λ cell. get_or intensities (cell / 8) 0) (range_with_len 0 128)) k d ≡ get_or intensities (k / 8) 0 =
    get_or-map-range_with_len (λ cell. get_or intensities (cell / 8) 0) 0 128 k k d inside (omega arith) in
    rw is (small (k / 8) 0 at)
