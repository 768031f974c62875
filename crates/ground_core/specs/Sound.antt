-- What is known of all weather that a ground accepts. The laws of what is sent and heard rest on
-- this alone: a new kind of update has to be shown to give such weather, and nothing else.
use Rattle.std.specs.Prelude.{◌≡◌, ℕ, ◌+◌, ◌<◌, ◌≤◌, true, IsTrue, List, [], ◌∷◌, ◌++◌, length}
use Rattle.std.specs.Prelude.{Some}
use Rattle.bit_fields.specs.Bits.{AreBytes}
use Rattle.list_members.specs.Membership.{IsIn}
use Rattle.fisb_time.specs.Moment.{IsMoment}
use Rattle.fisb_time.specs.TimeForm.{shows}
use Rattle.life_table.specs.LifeTable.{LifeTable, longest}
use Rattle.life_table.specs.Rules.{IsTable, IsWithinForm}
use Rattle.uplink_frame.specs.declared.station.StationId.{StationId}
use Rattle.segment_core.specs.File.{most_segments, parts}
use Rattle.life_table.specs.Products.{is_read_product}
use Rattle.picture_core.specs.Entry.{Entry}
use Rattle.picture_core.specs.Contents.{payload_entries}
use Rattle.apdu_core.specs.Apdu.{file_numbers}
use Rattle.ground_core.specs.Item.{Weather, Item, is_segmented, end_of}
use Rattle.ground_core.specs.Update.{Update, weather_of}
use Rattle.ground_core.specs.History.{Event, accepted, item_of, number_for, items}
use Rattle.ground_core.specs.Airing.{has_key}
use Rattle.ground_core.specs.Broadcast.{IsAccepted, IsHistory}

-- the product has a row, and the life is at most the longest of its rows
pub record IsListed (table : LifeTable) (w : Weather) : Type 0 where
  pub longest_life : ℕ
  pub has_row : longest table w.product ≡ Some longest_life
  pub not_longer : w.life ≤ longest_life

pub record IsSound (table : LifeTable) (w : Weather) : Type 0 where
  pub product : IsTrue (is_read_product w.product)
  pub version : IsMoment w.version
  pub shown : IsTrue (shows w.form w.version)
  pub listed : IsListed table w
  pub within : IsWithinForm table.late w.form w.life
  -- the payload says the entries, which have its version and end with its life; no two have one key
  pub bytes : AreBytes w.payload
  pub says : payload_entries table w.product w.version w.payload ≡ w.entries
  pub versions : (e : Entry) → IsIn e w.entries → e.version ≡ w.version
  pub ends : (e : Entry) → IsIn e w.entries → e.until ≡ end_of w
  pub apart : (e f : Entry) → IsIn e w.entries → IsIn f w.entries → e.key ≡ f.key → e ≡ f
  -- that each part fits a frame with its header is a law of all payloads, `PartsFitFrames` of
  -- `segment_core`
  pub few_segments : length (parts w.form w.payload) ≤ most_segments

-- sound weather that is given in time, has a file number where it needs one, and is newer than all
-- of its keys before
pub record IsGiven (table : LifeTable) (before : List Item) (moment : ℕ)
    (w : Weather) : Type 0 where
  pub sound : IsSound table w
  pub not_ahead : w.version ≤ moment + 60
  pub not_expired : moment < end_of w
  pub number : is_segmented w ≡ true → (n : ℕ) × (number_for table moment before w ≡ Some n)
  pub newer : (item : Item) (e : Entry) → IsIn item before → IsIn e w.entries
      → has_key e.key item ≡ true
      → item.weather.version < w.version

-- one after another
abbrev pub AreGiven : LifeTable → StationId → ℕ → List Item → List Weather → Type 0
AreGiven table station moment before [] = Unit {0}
AreGiven table station moment before (w ∷ more) =
    IsGiven table before moment w
    × AreGiven table station moment (before ++ item_of table station moment before w ∷ []) more

-- what an accepted update says is such weather
abbrev pub AcceptedIsGiven : Type 0
AcceptedIsGiven =
    (table : LifeTable) (station : StationId) (before : List Item) (moment : ℕ) (update : Update)
    → IsTable table → IsAccepted table before (accepted moment update)
    → AreGiven table station moment before (weather_of table update)

-- What is known of the items of a history. An item is told by its serial, by one of its keys and
-- its version, and where it is sent in segments by product, version and file number.
pub record AreItems (table : LifeTable) (station : StationId) (all : List Item) : Type 0 where
  pub of_station : (i : Item) → IsIn i all → i.station ≡ station
  pub sound : (i : Item) → IsIn i all → IsSound table i.weather
  pub serials : (i j : Item) → IsIn i all → IsIn j all → i.serial ≡ j.serial → i ≡ j
  pub keys : (i j : Item) (e : Entry) → IsIn i all → IsIn j all → IsIn e i.weather.entries
      → has_key e.key j ≡ true
      → i.weather.version ≡ j.weather.version → i ≡ j
  pub numbered : (i : Item) → IsIn i all → is_segmented i.weather ≡ true
      → (n : ℕ) × (i.number ≡ Some n) × (n < file_numbers)
  pub files : (i j : Item) → IsIn i all → IsIn j all → is_segmented i.weather ≡ true
      → is_segmented j.weather ≡ true
      → i.weather.product ≡ j.weather.product → i.weather.version ≡ j.weather.version
      → i.number ≡ j.number → i ≡ j

abbrev pub HistoriesHaveItems : Type 0
HistoriesHaveItems = (table : LifeTable) (station : StationId) (history : List Event)
    → IsTable table → IsHistory table station history
    → AreItems table station (items table station history)
