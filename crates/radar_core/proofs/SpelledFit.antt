-- Each block that a payload spells has a key that fits, and 128 intensities.
use Rattle.std.proofs.Common.{◌≡◌, ℕ, ◌<◌, List, [], ◌∷◌, map, sym, subst, arith}
use Rattle.std.specs.List.{All, flat_map}
use Rattle.std.proofs.lemmas.List.{length-replicate}
use Rattle.std.proofs.lemmas.List.Elements.{All-nil, All-cons, All-head, All-tail, All-append, All-replicate}
use Rattle.radar_core.specs.declared.key.BlockKey.{BlockKey}
use Rattle.radar_core.specs.declared.run.Run.{Run}
use Rattle.radar_core.specs.Keys.{FitsKey}
use Rattle.radar_core.specs.Cells.{IsCells, blank_cells}
use Rattle.radar_core.specs.Runs.{FitsRun, run_cells}
use Rattle.radar_core.specs.Blanks.{block_in_ring}
use Rattle.radar_core.specs.Radar.{Block, blank_block}
use Rattle.radar_core.specs.Spelling.{SpellsBlocks, of_runs, of_bitmap, IsBlockOf}

small_cells : (runs : List Run) → All FitsRun runs → All (λ cell. cell < 8) (flat_map run_cells runs)
small_cells [] fit = All-nil (λ cell. cell < 8)
small_cells (run ∷ runs) fit =
    All-append (λ cell. cell < 8) (run_cells run) (flat_map run_cells runs)
    (All-replicate (λ cell. cell < 8) run.length run.intensity (All-head FitsRun run runs fit).intensity)
    (small_cells runs (All-tail FitsRun run runs fit))

blank_are : IsCells blank_cells
unfolding blank_cells
blank_are = record { count = length-replicate {A = ℕ} 128 0; intensities = All-replicate (λ cell. cell < 8) 128 0 (omega arith) }

ring_below : (base offset : ℕ) → base < 405000 → block_in_ring base offset < 405000
ring_below base offset low = omega arith

blank_fits : (product : ℕ) (base : BlockKey) (offset : ℕ) → FitsKey base → base.product ≡ product → base.number < 405000
    → IsBlockOf product (blank_block base offset)
blank_fits product base offset fits product_is low =
    let below = ring_below base.number offset low in
    record { product_is = product_is; fits = record { scale = fits.scale; number = omega (arith, below) }; cells = blank_are }

blanks_fit : (product : ℕ) (base : BlockKey) (offsets : List ℕ) → FitsKey base → base.product ≡ product → base.number < 405000
    → All (IsBlockOf product) (map (blank_block base) offsets)
blanks_fit product base [] fits product_is low = All-nil (IsBlockOf product)
blanks_fit product base (offset ∷ offsets) fits product_is low =
    All-cons (IsBlockOf product) (blank_block base offset) (map (blank_block base) offsets) (blank_fits product base offset fits product_is low)
    (blanks_fit product base offsets fits product_is low)

pub spelled_blocks_fit : (product : ℕ) (payload : List ℕ) (blocks : List Block) → SpellsBlocks product payload blocks → All (IsBlockOf product) blocks
spelled_blocks_fit product payload blocks (of_runs key fits product_is how) =
    subst (All (IsBlockOf product)) (sym how.blocks_are)
    (All-cons (IsBlockOf product) (key, flat_map run_cells how.runs) []
    (record { product_is = product_is; fits = fits; cells = record { count = how.count; intensities = small_cells how.runs how.fit } })
    (All-nil (IsBlockOf product)))
spelled_blocks_fit product payload blocks (of_bitmap base fits product_is how) =
    subst (All (IsBlockOf product)) (sym how.blocks_are) (blanks_fit product base how.offsets fits product_is how.ring)
