-- What of a segment counts for sending it: which item it is of, for which keys, and what is sent.
use Rattle.std.specs.Prelude.{◌≡◌, ℕ, ◌+◌, ◌-◌, ◌≤◌, ◌⊎◌, Bool, false, ◌&&◌, ◌==◌, nat_lt, nat_le}
use Rattle.std.specs.Prelude.{if◌then◌else◌, List, [], ◌∷◌, map, length, Option, Some, None}
use Rattle.std.specs.List.{list_any}
use Rattle.apdu_core.specs.Apdu.{apdu_bytes, header_length}
use Rattle.segment_core.specs.File.{File, part_of, apdu_of_segment}
use Rattle.segment_core.specs.File as files
use Rattle.list_members.specs.Membership.{IsIn}
use Rattle.picture_core.specs.Key.{Key}
use Rattle.ground_core.specs.Item.{Item, Segment, file_of}

pub record Piece : Type 0 where
  pub serial : ℕ
  pub keys : List Key
  pub file : File
  pub number : ℕ

abbrev pub item_keys : Item → List Key
item_keys item = map (λ entry. entry.key) item.weather.entries

abbrev pub piece_of : Segment → Piece
piece_of s = record {
  serial = s.item.serial;
  keys = item_keys s.item;
  file = file_of s.item;
  number = s.number;
}

-- the body in which it is sent, and how many bytes of a frame it takes
abbrev pub body_of_piece : Piece → List ℕ
body_of_piece p = apdu_bytes (apdu_of_segment p.file p.number)

abbrev pub room_of_piece : Piece → ℕ
room_of_piece p = header_length p.file.form (files.is_segmented p.file.form p.file.payload)
    + length (part_of p.file p.number) + 2

-- the longest prefix that fits the room, and what stands after it
abbrev pub fitting_pieces : ℕ → List Piece → List Piece
fitting_pieces room [] = []
fitting_pieces room (p ∷ more) = if nat_le (room_of_piece p) room
    then p ∷ fitting_pieces (room - room_of_piece p) more
    else []

abbrev pub left_pieces : ℕ → List Piece → List Piece
left_pieces room [] = []
left_pieces room (p ∷ more) = if nat_le (room_of_piece p) room
    then left_pieces (room - room_of_piece p) more
    else p ∷ more

-- the version and the serial of the last item that was given with a key, and the end of its life
pub record Latest : Type 0 where
  pub version : ℕ
  pub serial : ℕ
  pub until : ℕ

abbrev pub lives_as : ℕ → ℕ → Option Latest → Bool
lives_as moment serial None = false
lives_as moment serial (Some latest) = nat_lt moment latest.until && (latest.serial == serial)

-- a piece is live while its item is the last one of one of its keys, before the end of that one's
-- life
abbrev pub live_by : (Key → Option Latest) → ℕ → Piece → Bool
live_by latest moment p = list_any (λ key. lives_as moment p.serial (latest key)) p.keys

-- what is kept of a key is what was given last, or nothing once the life of that is over
abbrev pub HasPassed : ℕ → Option Latest → Type 0
HasPassed moment None = Unit {0}
HasPassed moment (Some latest) = latest.until ≤ moment

abbrev pub IsLastOrEnded : ℕ → Option Latest → Option Latest → Type 0
IsLastOrEnded moment last kept = (kept ≡ last) ⊎ ((kept ≡ None) × HasPassed moment last)

-- what is kept of a key is of an item that has a place in the queue
pub record HasPlace (line : List Piece) (key : Key) (kept : Latest) : Type 0 where
  pub piece : Piece
  pub waits : IsIn piece line
  pub serial : piece.serial ≡ kept.serial
  pub of_key : IsIn key piece.keys

abbrev pub ArePlaced : (Key → Option Latest) → List Piece → Type 0
ArePlaced latest line =
    (key : Key) (kept : Latest) → latest key ≡ Some kept → HasPlace line key kept

abbrev pub while_living : ℕ → Option Latest → Option Latest
while_living moment None = None
while_living moment (Some latest) = if nat_lt moment latest.until then Some latest else None
