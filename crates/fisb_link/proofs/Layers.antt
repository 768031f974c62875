-- What the crates below promise, as the law of the two pictures needs it, and all that is known of
-- a link.
use Rattle.std.proofs.Common.{◌≡◌, ℕ, ◌+◌, ◌<◌, ◌≤◌, true, List, ◌++◌, Some, IsTrue}
use Rattle.std.specs.Bool.{Decides}
use Rattle.fisb_time.specs.declared.form.TimeForm.{TimeForm}
use Rattle.fisb_time.specs.Moment.{IsMoment}
use Rattle.fisb_time.specs.TimeForm.{shows}
use Rattle.fisb_time.specs.TimeFields.{shown_fields}
use Rattle.fisb_time.specs.Naming.{named_moment, window}
use Rattle.life_table.specs.LifeTable.{LifeTable}
use Rattle.life_table.specs.Rules.{IsTable}
use Rattle.apdu_core.specs.Laws.{ReadsBack, ShownFits}
use Rattle.uplink_frame.specs.Laws.{StationsAreTold}
use Rattle.list_members.specs.Membership.{IsIn}
use Rattle.picture_core.specs.Key.{Key, same_key}
use Rattle.picture_core.specs.Entry.{Entry}
use Rattle.picture_core.specs.Picture.{shown_at, picture}
use Rattle.picture_core.specs.Shown.{AddsSame, IsShown}
use Rattle.segment_core.specs.Cutting.{PartsFitFrames}
use Rattle.segment_core.specs.Joining.{OnlyFilesComplete, FilesComplete, WholeFilesComplete, CompletedGrows}
use Rattle.apdu_core.specs.Apdu.{file_numbers}
use Rattle.ground_core.specs.Item.{Item, is_segmented}
use Rattle.ground_core.specs.Airing.{Frame, has_key}
use Rattle.ground_core.specs.Sound.{IsSound, HistoriesHaveItems}
use Rattle.ground_core.specs.Sent.{IsFrame, ItemsAreOfStations, SegmentsAreOfItems, SegmentsAreSame, FramesReadBack}

-- the fields of a moment name it again, when they are received in time
abbrev pub TimeRoundTrip : Type 0
TimeRoundTrip = (form : TimeForm) (moment received : ℕ) → IsMoment moment → IsMoment received
    → IsTrue (shows form moment) → moment ≤ received + 60 → received + 60 < moment + window form
    → named_moment form (shown_fields form moment) received ≡ Some moment

-- of pictures
pub record PictureLayers : Type 0 where
  pub same_keys : (a b : Key) → Decides (same_key a b) (a ≡ b)
  pub is_newest : (entries : List Entry) (moment : ℕ) (key : Key) (entry : Entry)
      → shown_at entries moment key ≡ Some entry → IsShown entries moment key entry
  pub some : (entries : List Entry) (moment : ℕ) (key : Key) (entry : Entry)
      → IsIn entry entries → entry.key ≡ key → moment < entry.until
      → (e : Entry) × (shown_at entries moment key ≡ Some e)
  pub step : (one other added added' : List Entry) (moment : ℕ) (key : Key)
      → shown_at one moment key ≡ shown_at other moment key
      → AddsSame moment key (shown_at one moment key) added added'
      → shown_at (one ++ added) moment key ≡ shown_at (other ++ added') moment key
  pub pictures : (one other : List Entry) (moment : ℕ)
      → ((key : Key) → shown_at one moment key ≡ shown_at other moment key)
      → picture one moment ≡ picture other moment

-- of files that are cut and joined
pub record FileLayers : Type 0 where
  pub parts : PartsFitFrames
  pub only : OnlyFilesComplete
  pub cut : FilesComplete
  pub uncut : WholeFilesComplete
  pub grows : CompletedGrows

pub record Layers : Type 0 where
  pub time : TimeRoundTrip
  pub apdus : ReadsBack
  pub shown_fits : ShownFits
  pub stations : StationsAreTold
  pub histories : HistoriesHaveItems
  pub items : ItemsAreOfStations
  pub segments : SegmentsAreOfItems
  pub same_segments : SegmentsAreSame
  pub frames : FramesReadBack
  pub files : FileLayers
  pub pictures : PictureLayers

-- What is known of the items of several stations: of each two of one station what is known of the
-- items of one.
pub record AreAll (table : LifeTable) (all : List Item) : Type 0 where
  pub sound : (i : Item) → IsIn i all → IsSound table i.weather
  pub serials : (i j : Item) → IsIn i all → IsIn j all → i.station ≡ j.station
      → i.serial ≡ j.serial → i ≡ j
  pub keys : (i j : Item) (e : Entry) → IsIn i all → IsIn j all → i.station ≡ j.station
      → IsIn e i.weather.entries → has_key e.key j ≡ true
      → i.weather.version ≡ j.weather.version → i ≡ j
  pub numbered : (i : Item) → IsIn i all → is_segmented i.weather ≡ true
      → (n : ℕ) × (i.number ≡ Some n) × (n < file_numbers)
  pub files : (i j : Item) → IsIn i all → IsIn j all → i.station ≡ j.station
      → is_segmented i.weather ≡ true → is_segmented j.weather ≡ true
      → i.weather.product ≡ j.weather.product → i.weather.version ≡ j.weather.version
      → i.number ≡ j.number → i ≡ j

-- all that is known of a link: the layers below, the items and the frames that were sent
pub record Setting (table : LifeTable) (all : List Item) (sent : List Frame) : Type 0 where
  pub layers : Layers
  pub is_table : IsTable table
  pub items_are : AreAll table all
  pub frames_are : (frame : Frame) → IsIn frame sent → IsFrame all frame
