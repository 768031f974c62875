-- What a whole payload says (RTCA DO-358): product 413 is text, of which each report that has a key
-- is an entry; products 63 and 64 are radar, of which each block is one.
use Rattle.std.specs.Prelude.{ℕ, ◌+◌, ◌==◌, if◌then◌else◌, List, [], ◌∷◌, map, flat_map, Option}
use Rattle.std.specs.Prelude.{Some, None, Result, Ok, Err}
use Rattle.dlac_text.specs.Reports.{reports_of}
use Rattle.life_table.specs.Products.{text_product}
use Rattle.life_table.specs.LifeTable.{LifeTable, RadarRow, TextRow, radar_row, text_row}
use Rattle.radar_core.specs.Radar.{Block, radar_blocks}
use Rattle.radar_core.specs.declared.fault.RadarFault.{RadarFault}
use Rattle.text_reports.specs.TextKey.{TextKey, KeyFault, text_key}
use Rattle.picture_core.specs.Key.{Key, radar_block, text_report}
use Rattle.picture_core.specs.Entry.{Entry, cells, report}

-- the entry of a report that has a key: it lives as long as its type's row says
abbrev pub entry_by_row : TextKey → ℕ → List ℕ → Option TextRow → List Entry
entry_by_row key version text None = []
entry_by_row key version text (Some row) =
    record {
      key = text_report key;
      version = version;
      until = version + row.life;
      value = report text;
    } ∷ []

abbrev pub entry_by_key : LifeTable → ℕ → List ℕ → Result TextKey KeyFault → List Entry
entry_by_key table version text (Err fault) = []
entry_by_key table version text (Ok key) = entry_by_row key version text (text_row table key.kind)

abbrev pub report_entries : LifeTable → ℕ → List ℕ → List Entry
report_entries table version text = entry_by_key table version text (text_key table text)

-- the entry of a block that lives so long
abbrev pub block_entry : ℕ → ℕ → Block → Entry
block_entry version life block =
    record {
      key = radar_block block.0;
      version = version;
      until = version + life;
      value = cells block.1;
    }

-- the entries of blocks: each lives as long as the row of their product says
abbrev pub block_entries : ℕ → Option RadarRow → List Block → List Entry
block_entries version None blocks = []
block_entries version (Some row) blocks = map (block_entry version row.life) blocks

abbrev pub entries_by_blocks : ℕ → Option RadarRow → Result (List Block) RadarFault → List Entry
entries_by_blocks version row (Err fault) = []
entries_by_blocks version row (Ok blocks) = block_entries version row blocks

abbrev pub radar_entries : LifeTable → ℕ → ℕ → List ℕ → List Entry
radar_entries table product version payload =
    entries_by_blocks version (radar_row table product) (radar_blocks product payload)

-- the entries of a payload of this product and version
abbrev pub payload_entries : LifeTable → ℕ → ℕ → List ℕ → List Entry
payload_entries table product version payload =
    if product == text_product then flat_map (report_entries table version) (reports_of payload)
    else radar_entries table product version payload

-- the life that a table gives a key
abbrev pub life_of_row : Option TextRow → ℕ
life_of_row None = 0
life_of_row (Some row) = row.life

abbrev pub life_of_radar : Option RadarRow → ℕ
life_of_radar None = 0
life_of_radar (Some row) = row.life

abbrev pub life_of : LifeTable → Key → ℕ
life_of table (radar_block key) = life_of_radar (radar_row table key.product)
life_of table (text_report key) = life_of_row (text_row table key.kind)
