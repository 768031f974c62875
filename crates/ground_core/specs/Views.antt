-- What the values of the code stand for.
use Rattle.std.specs.Prelude.{ℕ, List, [], ◌∷◌, map, Option, Some, None, option_map}
use Rattle.std.specs.Prelude.{unwrap_or}
use Rattle.std.specs.BTreeMap.{get, get_by}
use Rattle.std.specs.Ordering.{nat_cmp, ordering_then}
use Rattle.segment_core.specs.File.{File}
use Rattle.picture_core.specs.Key.{Key, radar_block, text_report}
use Rattle.ground_core.specs.Piece.{Piece, Latest}
use Rattle.radar_core.specs.declared.key.BlockKey.{BlockKey}
use Rattle.radar_core.specs.Keys.{block_key_cmp}
use Rattle.ground_core.specs.Update.{block_key}
use Rattle.ground_core.specs.NumberedKeys.{order_among, report_key}
use Rattle.ground_core.specs.declared.area.Area.{Area}
use Rattle.ground_core.specs.declared.item_keys.BlockNumbers.{BlockNumbers}
use Rattle.ground_core.specs.declared.item_keys.ItemKeys.{ItemKeys}
use Rattle.ground_core.specs.declared.item_keys.ItemKeys.TheVariants.{OfReport, OfBlocks}
use Rattle.ground_core.specs.declared.item.SentItem.{SentItem}
use Rattle.ground_core.specs.declared.place.Place.{Place}
use Rattle.ground_core.specs.declared.line.Line.{Line}
use Rattle.ground_core.specs.declared.newest.Given.{Given}
use Rattle.ground_core.specs.declared.newest.Newest.{Newest}
use Rattle.ground_core.specs.declared.newest_blocks.NewestBlocks.{NewestBlocks}
use Rattle.ground_core.specs.declared.files.Files.{Files}

abbrev pub file_at : SentItem → File
file_at item = record {
  product = item.product;
  form = item.form;
  version = item.version;
  number = item.file;
  payload = item.payload;
}

-- the keys of the blocks of some numbers in an area, and those of an item
abbrev pub area_keys : Area → List ℕ → List BlockKey
area_keys area numbers = map (block_key area.product area.scale area.south) numbers

abbrev pub block_keys : BlockNumbers → List Key
block_keys blocks = map radar_block (area_keys blocks.area blocks.numbers.items)

abbrev pub keys_in : ItemKeys → List Key
keys_in (OfReport key) = text_report (report_key key) ∷ []
keys_in (OfBlocks blocks) = block_keys blocks

-- a piece of an item that is sent
abbrev pub piece_at : SentItem → ℕ → Piece
piece_at item number = record {
  serial = item.serial;
  keys = keys_in item.keys;
  file = file_at item;
  number = number;
}

abbrev pub place_view : Place → Piece
place_view place = piece_at place.item.value place.number

abbrev pub pieces_in : Line → List Piece
pieces_in line = map place_view line.places.items

abbrev pub given_view : Given → Latest
given_view g = record { version = g.version; serial = g.serial; until = g.until }

-- what is kept of a key
abbrev pub where_given : Option (Option Given) → Option Given
where_given None = None
where_given (Some given) = given

abbrev pub latest_block : NewestBlocks → BlockKey → Option Latest
latest_block newest key =
    option_map given_view (where_given (get block_key_cmp newest.given key))

abbrev pub latest_at : Newest → Key → Option Latest
latest_at newest (radar_block key) = latest_block newest.blocks key
latest_at newest (text_report key) =
    option_map given_view (get_by (order_among key) newest.reports)

-- how many items in segments are counted of a version and a product
abbrev pub count_at : Files → ℕ → ℕ → ℕ
count_at files version product =
    unwrap_or (get (λ x y. ordering_then (nat_cmp x.0 y.0) (nat_cmp x.1 y.1)) files.counts
    (version, product)) 0
