-- What a ground is told: updates of the weather, and what each gives as items.
use Rattle.std.specs.Prelude.{ℕ, Bool, List, [], ◌∷◌, map, flat_map, Option, Some, None, Result}
use Rattle.std.specs.Prelude.{Ok, Err}
use Rattle.fisb_time.specs.Moment.{IsMoment}
use Rattle.std.specs.Str.{IsUtf8}
use Rattle.dlac_text.specs.Payload.{text_payload}
use Rattle.life_table.specs.LifeTable.{LifeTable, RadarRow, TextRow, radar_row, text_row}
use Rattle.radar_core.specs.declared.key.BlockKey.{BlockKey}
use Rattle.radar_core.specs.Cells.{IsCells}
use Rattle.radar_core.specs.Runs.{run_record}
use Rattle.radar_core.specs.Blanks.{blank_record}
use Rattle.radar_core.specs.Groups.{blank_groups}
use Rattle.radar_core.specs.Radar.{Block, blank_blocks}
use Rattle.text_reports.specs.TextKey.{TextKey, KeyFault, text_key}
use Rattle.life_table.specs.Products.{text_product}
use Rattle.picture_core.specs.Contents.{report_entries, block_entry}
use Rattle.picture_core.specs.Entry.{Entry}
use Rattle.ground_core.specs.Item.{Weather}

-- of a version: a text, the cells of a block, or the numbers of blocks of which each cell is 0
pub data Update : Type 0 where
  text : (version : ℕ) (chars : List ℕ) → Update
  block : (version : ℕ) (key : BlockKey) (intensities : List ℕ) → Update
  blanks : (version product scale : ℕ) (south : Bool) (numbers : List ℕ) → Update

abbrev pub version_of : Update → ℕ
version_of (text version chars) = version
version_of (block version key intensities) = version
version_of (blanks version product scale south numbers) = version

-- what the arguments of a call are by their types
abbrev pub IsUpdate : Update → Type 0
IsUpdate (text version chars) = IsMoment version × IsUtf8 chars
IsUpdate (block version key intensities) = IsMoment version × IsCells intensities
IsUpdate (blanks version product scale south numbers) = IsMoment version

-- what a text says under its type's row: one item, whose one key is that of the report
abbrev pub weather_by_row : ℕ → List ℕ → List Entry → Option TextRow → List Weather
weather_by_row version chars entries None = []
weather_by_row version chars entries (Some row) = record {
  product = text_product;
  form = row.form;
  version = version;
  life = row.life;
  entries = entries;
  payload = text_payload chars;
} ∷ []

abbrev pub weather_by_key : LifeTable → ℕ → List ℕ → Result TextKey KeyFault → List Weather
weather_by_key table version chars (Err fault) = []
weather_by_key table version chars (Ok key) =
    weather_by_row version chars (report_entries table version chars) (text_row table key.kind)

-- what a radar payload of these blocks says under the row of its product: an entry a block
abbrev pub radar_weather : ℕ → ℕ → RadarRow → List Block → List ℕ → Weather
radar_weather product version row blocks payload = record {
  product = product;
  form = row.form;
  version = version;
  life = row.life;
  entries = map (block_entry version row.life) blocks;
  payload = payload;
}

-- the cells of a block are one item, with the fewest runs
abbrev pub block_weather : ℕ → BlockKey → List ℕ → Option RadarRow → List Weather
block_weather version key intensities None = []
block_weather version key intensities (Some row) =
    radar_weather key.product version row ((key, intensities) ∷ []) (run_record key intensities)
    ∷ []

-- the key of a block, by its number; and what a group of such numbers says as one item
abbrev pub block_key : ℕ → ℕ → Bool → ℕ → BlockKey
block_key product scale south number =
    record { product = product; scale = scale; south = south; number = number }

abbrev pub group_weather : ℕ → RadarRow → (ℕ → BlockKey) → List ℕ → List Weather
group_weather version row key [] = []
group_weather version row key (number ∷ further) =
    radar_weather (key number).product version row (blank_blocks (key number) (number ∷ further))
    (blank_record (key number) further)
    ∷ []

abbrev pub groups_weather : ℕ → Option RadarRow → (ℕ → BlockKey) → List (List ℕ) → List Weather
groups_weather version None key groups = []
groups_weather version (Some row) key groups = flat_map (group_weather version row key) groups

-- the weather of an update, of which each member becomes an item
abbrev pub weather_of : LifeTable → Update → List Weather
weather_of table (text version chars) = weather_by_key table version chars (text_key table chars)
weather_of table (block version key intensities) =
    block_weather version key intensities (radar_row table key.product)
weather_of table (blanks version product scale south numbers) =
    groups_weather version (radar_row table product) (block_key product scale south)
    (blank_groups numbers)
