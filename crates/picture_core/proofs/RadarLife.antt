-- The life of the blocks that a payload says is that of their product.
use Rattle.std.proofs.Common.{◌≡◌, ℕ, ◌+◌, ◌==◌, nat_lt, nat_le, Bool, true, false, if◌then◌else◌, List, length, take}
use Rattle.std.proofs.Common.{drop, Option, Some, None, Result, Ok, Err, refl, sym, ap, ◌∙◌}
use Rattle.list_members.specs.Membership.{IsIn}
use Rattle.list_members.specs.ListMembers.{in_map, in_one}
use Rattle.life_table.specs.LifeTable.{LifeTable, RadarRow, radar_row}
use Rattle.radar_core.specs.declared.key.BlockKey.{BlockKey}
use Rattle.radar_core.specs.declared.fault.RadarFault.{RadarFault}
use Rattle.radar_core.specs.Blanks.{bitmap_length, named_offsets}
use Rattle.radar_core.specs.Keys.{is_run_in, key_in, scale_in}
use Rattle.radar_core.specs.Radar.{Block, blank_block, named_blocks, radar_blocks, read_bitmap, read_runs, run_blocks}
use Rattle.radar_core.specs.Runs.{cells_in}
use Rattle.picture_core.specs.Contents.{block_entries, block_entry, entries_by_blocks, life_of, life_of_radar, radar_entries}
use Rattle.picture_core.specs.Entry.{Entry}
use Rattle.picture_core.specs.Key.{radar_block}
use Rattle.picture_core.specs.Kept.{HaveLife}

-- blocks of this product, where there are blocks
abbrev AreOfProduct : ℕ → Result (List Block) RadarFault → Type 0
AreOfProduct product (Ok blocks) = (block : Block) → IsIn block blocks → block.0.product ≡ product
AreOfProduct product (Err fault) = Unit {0}

of_tests : (product : ℕ) (one other : Result (List Block) RadarFault) (first : Bool) → AreOfProduct product one
    → AreOfProduct product other
    → AreOfProduct product (if first then one else other)
of_tests product one other true p q = p
of_tests product one other false p q = q

of_runs : (key : BlockKey) (runs : List ℕ) → AreOfProduct key.product (read_runs key runs)
of_runs key runs =
    of_tests key.product (Ok (run_blocks key runs)) _ (length (cells_in runs) == 128)
    (λ block here. ap (λ (b : Block). b.0.product) (in_one block (key, cells_in runs) here)) tt

of_bitmap : (base : BlockKey) (bytes : List ℕ) → AreOfProduct base.product (read_bitmap base bytes)
of_bitmap base bytes =
    let bitmap = take (bitmap_length bytes) bytes in
    of_tests base.product _ _ (nat_le 405000 base.number) tt
    (of_tests base.product _ (Ok (named_blocks base bitmap)) (nat_lt (length bytes) (bitmap_length bytes)) tt
    (λ block here.
    let offset = in_map (blank_block base) block (named_offsets bitmap) here in
    ap (λ (b : Block). b.0.product) offset.2))

of_payload : (product : ℕ) (payload : List ℕ) → AreOfProduct product (radar_blocks product payload)
unfolding radar_blocks
of_payload product payload =
    of_tests product _ _ (nat_lt (length payload) 4) tt
    (of_tests product _ _ (scale_in payload == 3) tt
    (of_tests product (read_runs (key_in product payload) (drop 3 payload))
    (read_bitmap (key_in product payload) (drop 3 payload)) (is_run_in payload)
    (of_runs (key_in product payload) (drop 3 payload)) (of_bitmap (key_in product payload) (drop 3 payload))))

-- blocks of this product under its row
pub blocks-HaveLife : (table : LifeTable) (product version : ℕ) (blocks : List Block)
    → ((block : Block) → IsIn block blocks → block.0.product ≡ product)
    → HaveLife (life_of table) (block_entries version (radar_row table product) blocks)
blocks-HaveLife table product version blocks own = by_row (radar_row table product) refl where
  by_row : (row : Option RadarRow) → radar_row table product ≡ row
      → HaveLife (life_of table) (block_entries version row blocks)
  by_row None is entry here = absurd here
  by_row (Some row) is entry here =
      let from = in_map (block_entry version row.life) entry blocks here in
      let same : entry ≡ block_entry version row.life from.0 = from.2 in
      let life : life_of table (radar_block from.0.0) ≡ row.life
      = ap (λ p. life_of_radar (radar_row table p)) (own from.0 from.1) ∙ ap life_of_radar is in
      ap (λ (e : Entry). e.until) same
      ∙ ap (λ n. version + n) (sym life)
      ∙ sym (ap (λ (e : Entry). e.version + life_of table e.key) same)

by_blocks : (table : LifeTable) (product version : ℕ) (blocks : Result (List Block) RadarFault)
    → AreOfProduct product blocks
    → HaveLife (life_of table) (entries_by_blocks version (radar_row table product) blocks)
by_blocks table product version (Err fault) own entry here = absurd here
by_blocks table product version (Ok blocks) own entry here =
    blocks-HaveLife table product version blocks own entry here

pub radar-HaveLife : (table : LifeTable) (product version : ℕ) (payload : List ℕ)
    → HaveLife (life_of table) (radar_entries table product version payload)
radar-HaveLife table product version payload =
    by_blocks table product version (radar_blocks product payload) (of_payload product payload)
