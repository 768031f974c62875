-- Joining undoes cutting: of segments that arrive, in whatever order and however often, exactly the
-- files become whole of which each segment has arrived, and their payloads are those that were cut.
use Rattle.std.specs.Prelude.{◌≡◌, ℕ, ◌≤◌, true, false, List, ◌++◌, length, map}
use Rattle.list_members.specs.Membership.{IsIn}
use Rattle.uplink_frame.specs.declared.station.StationId.{StationId}
use Rattle.segment_core.specs.File.{File, is_segmented, parts_of, part_of, segmentation_of}
use Rattle.segment_core.specs.Arrival.{Arrival, Whole, whole_payloads, completed_after}

-- a segment of a file, from a station
pub record FileSegment : Type 0 where
  pub station : StationId
  pub file : File
  pub number : ℕ

abbrev pub segment : StationId → File → ℕ → FileSegment
segment station file number = record { station = station; file = file; number = number }

-- its number is from 1 to the count
abbrev pub IsSegment : FileSegment → Type 0
IsSegment s = (1 ≤ s.number) × (s.number ≤ length (parts_of s.file))

-- as what it arrives
abbrev pub arrival_of : FileSegment → Arrival
arrival_of s = record {
  station = s.station;
  product = s.file.product;
  version = s.file.version;
  segmentation = segmentation_of s.file s.number;
  payload = part_of s.file s.number;
}

abbrev pub whole_of : File → Whole
whole_of f = record { product = f.product; version = f.version; payload = f.payload }

-- two files in segments of one station, product, version and number are one
abbrev pub AreApart : List FileSegment → Type 0
AreApart sent = (a b : FileSegment) → IsIn a sent → IsIn b sent
    → is_segmented a.file.form a.file.payload ≡ true
    → is_segmented b.file.form b.file.payload ≡ true
    → a.station ≡ b.station → a.file.product ≡ b.file.product → a.file.version ≡ b.file.version
    → a.file.number ≡ b.file.number
    → a.file ≡ b.file

pub record AreSent (sent : List FileSegment) : Type 0 where
  pub numbered : (s : FileSegment) → IsIn s sent → IsSegment s
  pub apart : AreApart sent

-- each segment of the file stands among these
abbrev pub HasAll : List FileSegment → StationId → File → Type 0
HasAll sent station file = (number : ℕ) → 1 ≤ number → number ≤ length (parts_of file)
    → IsIn (segment station file number) sent

-- a whole payload of what came now is that of a file of which each segment has arrived, and one of
-- them now
pub record IsOfFile (before now : List FileSegment) (whole : Whole) : Type 0 where
  pub station : StationId
  pub file : File
  pub whole_is : whole ≡ whole_of file
  pub has_all : HasAll (before ++ now) station file
  pub number : ℕ
  pub came_now : IsIn (segment station file number) now

abbrev pub OnlyFilesComplete : Type 0
OnlyFilesComplete = (before now : List FileSegment) (whole : Whole) → AreSent (before ++ now)
    → IsIn whole (completed_after (map arrival_of before) (map arrival_of now))
    → IsOfFile before now whole

-- a file in segments is whole with what came now, where each segment has arrived and not each had
-- before
abbrev pub FilesComplete : Type 0
FilesComplete =
    (before now : List FileSegment) (station : StationId) (file : File) → AreSent (before ++ now)
    → is_segmented file.form file.payload ≡ true → HasAll (before ++ now) station file
    → (HasAll before station file → ⊥)
    → IsIn (whole_of file) (completed_after (map arrival_of before) (map arrival_of now))

-- a file that is sent whole is whole whenever it comes
abbrev pub WholeFilesComplete : Type 0
WholeFilesComplete =
    (before now : List FileSegment) (station : StationId) (file : File) → AreSent (before ++ now)
    → is_segmented file.form file.payload ≡ false → IsIn (segment station file 1) now
    → IsIn (whole_of file) (completed_after (map arrival_of before) (map arrival_of now))

-- what further arrivals complete stands after what was complete before
abbrev pub CompletedGrows : Type 0
CompletedGrows = (before now : List Arrival)
    → whole_payloads (before ++ now) ≡ whole_payloads before ++ completed_after before now
