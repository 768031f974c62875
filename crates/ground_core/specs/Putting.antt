-- What items that are put change of what is kept.
use Rattle.std.specs.Prelude.{◌≡◌, ℕ, ◌+◌, ◌<◌, Bool, true, false, ◌&&◌, ◌==◌, nat_lt}
use Rattle.std.specs.Prelude.{if◌then◌else◌, List, [], ◌∷◌, ◌++◌, length, map, flat_map, Option}
use Rattle.std.specs.Prelude.{Some}
use Rattle.std.specs.List.{AllByRecursion, list_any, range_with_len}
use Rattle.std.specs.declared.rc.Rc.{Rc}
use Rattle.apdu_core.specs.Apdu.{file_numbers}
use Rattle.segment_core.specs.File as of_file
use Rattle.picture_core.specs.Key.{Key, same_key}
use Rattle.ground_core.specs.Item.{Weather, is_segmented, end_of}
use Rattle.ground_core.specs.Piece.{Piece, Latest}
use Rattle.ground_core.specs.Views.{keys_in, latest_at, count_at, pieces_in, piece_at}
use Rattle.ground_core.specs.Rooms.{IsOfBlocks}
use Rattle.ground_core.specs.declared.item.SentItem.{SentItem}
use Rattle.ground_core.specs.declared.ground.Ground.{Ground}

abbrev pub values_of : {Z : Type 0} → List (Rc SentItem Z) → List SentItem
values_of items = map (λ item. item.value) items

-- whether a key is one of these
abbrev pub is_among : List Key → Key → Bool
is_among keys other = list_any (λ key. same_key key other) keys

-- what is kept of a key once items were put, one after another
abbrev pub latest_of_sent : SentItem → Latest
latest_of_sent item = record { version = item.version; serial = item.serial; until = item.until }

abbrev pub latest_put : Key → List SentItem → Option Latest → Option Latest
latest_put key [] before = before
latest_put key (item ∷ more) before = latest_put key more
    (if is_among (keys_in item.keys) key then Some (latest_of_sent item) else before)

-- how many items in segments a version and a product have then
abbrev pub is_counted : ℕ → ℕ → SentItem → Bool
is_counted version product item = of_file.is_segmented item.form item.payload
    && (item.version == version) && (item.product == product)

abbrev pub count_put : ℕ → ℕ → List SentItem → ℕ → ℕ
count_put version product [] before = before
count_put version product (item ∷ more) before = count_put version product more
    (before + (if is_counted version product item then 1 else 0))

abbrev pub pieces_at : SentItem → List Piece
pieces_at item = map (piece_at item) (range_with_len 1 item.count)

-- station and table stay in any case
pub record IsPut (old : Ground) (moment : ℕ) (items : List SentItem) (new : Ground) : Type 0 where
  pub table : new.table ≡ old.table
  pub station : new.station ≡ old.station
  pub clock : new.clock ≡ Some moment
  pub given : new.given ≡ old.given + length items
  pub newest : (key : Key)
      → latest_at new.newest key ≡ latest_put key items (latest_at old.newest key)
  pub files : (version product : ℕ)
      → count_at new.files version product ≡ (if nat_lt moment (version + old.life)
      then count_put version product items (count_at old.files version product)
      else 0)
  pub line : pieces_in new.line ≡ pieces_in old.line ++ flat_map pieces_at items

-- what counts is as it was
pub record IsAsBefore (old new : Ground) : Type 0 where
  pub table : new.table ≡ old.table
  pub station : new.station ≡ old.station
  pub clock : new.clock ≡ old.clock
  pub given : new.given ≡ old.given
  pub newest : (key : Key) → latest_at new.newest key ≡ latest_at old.newest key
  pub files : (version product : ℕ)
      → count_at new.files version product ≡ count_at old.files version product
  pub line : pieces_in new.line ≡ pieces_in old.line

-- the item is that of some weather, with a serial, where so many items in segments of its product
-- and version were given before
pub record IsItemOf (w : Weather) (serial count : ℕ) (item : SentItem) : Type 0 where
  pub serial_is : item.serial ≡ serial
  pub keys : keys_in item.keys ≡ map (λ e. e.key) w.entries
  pub version_is : item.version ≡ w.version
  pub until : item.until ≡ end_of w
  pub product : item.product ≡ w.product
  pub form : item.form ≡ w.form
  pub payload : item.payload ≡ w.payload
  pub few : is_segmented w ≡ true → count < file_numbers
  pub file : item.file ≡ (if is_segmented w then count else 0)

-- the items are those of some weather, one after another, with serials from one on
abbrev pub counted_with : Weather → (ℕ → ℕ → ℕ) → ℕ → ℕ → ℕ
counted_with w count version product = count version product
    + (if is_segmented w && (w.version == version) && (w.product == product) then 1 else 0)

abbrev pub AreItemsOf : (ℕ → ℕ → ℕ) → ℕ → List Weather → List SentItem → Type 0
AreItemsOf count serial [] [] = Unit {0}
AreItemsOf count serial [] (item ∷ items) = ⊥
AreItemsOf count serial (w ∷ more) [] = ⊥
AreItemsOf count serial (w ∷ more) (item ∷ items) =
    IsItemOf w serial (count w.version w.product) item
    × AreItemsOf (counted_with w count) (serial + 1) more items

-- the same where all are sent whole
abbrev pub AreItemsFrom : ℕ → List Weather → List SentItem → Type 0
AreItemsFrom serial [] [] = Unit {0}
AreItemsFrom serial [] (item ∷ items) = ⊥
AreItemsFrom serial (w ∷ more) [] = ⊥
AreItemsFrom serial (w ∷ more) (item ∷ items) =
    IsItemOf w serial 0 item × AreItemsFrom (serial + 1) more items

-- an item of blocks, which is sent whole
pub record IsUncut (item : SentItem) : Type 0 where
  pub of_blocks : IsOfBlocks item.keys
  pub whole : of_file.is_segmented item.form item.payload ≡ false

abbrev pub AreWhole : List SentItem → Type 0
AreWhole items = AllByRecursion IsUncut items
