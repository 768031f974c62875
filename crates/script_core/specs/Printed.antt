-- The texts that events write: each a line, or some lines, of words and numbers.
use Rattle.std.specs.Prelude.{ℕ, ◌+◌, Bool, true, false, if◌then◌else◌, List, [], ◌∷◌, ◌++◌, length}
use Rattle.std.specs.Prelude.{map, flat_map, Option, Some, None, codes, decimal}
use Rattle.hex.specs.Hex.{encode_lower}
use Rattle.dlac_text.specs.Plain.{plain_text}
use Rattle.uplink_frame.specs.declared.header.UplinkHeader.{UplinkHeader}
use Rattle.picture_core.specs.Key.{Key, radar_block, text_report}
use Rattle.picture_core.specs.Entry.{Value, cells, report}
use Rattle.picture_core.specs.Views.{ShownValue}
use Rattle.ground_core.specs.declared.air_frame.AirFrame.{AirFrame}
use Rattle.receiver_core.specs.UnreadParts.{UnreadPart}
use Rattle.receiver_core.specs.declared.unread.UnreadReason.{UnreadReason}
use Rattle.receiver_core.specs.declared.unread.UnreadReason.TheVariants.{Kind, Short, Flagged}
use Rattle.receiver_core.specs.declared.unread.UnreadReason.TheVariants.{Segment, Product, NoRow}
use Rattle.receiver_core.specs.declared.unread.UnreadReason.TheVariants.{Files, Time, Stale}
use Rattle.receiver_core.specs.declared.unread.UnreadReason.TheVariants.{RadarShort, Scale, Runs}
use Rattle.receiver_core.specs.declared.unread.UnreadReason.TheVariants.{High, Bitmap, Words}
use Rattle.receiver_core.specs.declared.unread.UnreadReason.TheVariants.{Unlisted}
use Rattle.refusal_core.specs.Refusal.{line_of_words}

-- a frame that was sent: its number, moment and slot, how many bodies it has, and what they take;
-- and its bytes on the air, where they are asked for
abbrev pub air_words : Bool → List ℕ → List (List ℕ)
air_words true air = encode_lower air ∷ []
air_words false air = []

abbrev pub sent_line : ℕ → AirFrame → Bool → List ℕ
sent_line index frame with_air = line_of_words (codes "sent" ∷ decimal index ∷ decimal frame.moment
    ∷ decimal frame.slot ∷ decimal frame.bodies ∷ decimal frame.used ∷ air_words with_air frame.air)

-- a part that is passed on unread
abbrev pub unread_word : UnreadReason → List ℕ
unread_word Kind = codes "kind"
unread_word Short = codes "short"
unread_word Flagged = codes "flagged"
unread_word Segment = codes "segment"
unread_word Product = codes "product"
unread_word NoRow = codes "norow"
unread_word Files = codes "files"
unread_word Time = codes "time"
unread_word Stale = codes "stale"
unread_word RadarShort = codes "radarshort"
unread_word Scale = codes "scale"
unread_word Runs = codes "runs"
unread_word High = codes "high"
unread_word Bitmap = codes "bitmap"
unread_word Words = codes "words"
unread_word Unlisted = codes "unlisted"

abbrev pub unread_text : UnreadPart → List ℕ
unread_text part =
    line_of_words (codes "unread" ∷ unread_word part.reason ∷ decimal part.kind
    ∷ decimal part.product
    ∷ decimal part.size ∷ [])

-- what a reception says: the slot, the site, how many bytes of each of its six blocks were
-- corrected, and the unread parts
abbrev pub heard_words : ℕ → UplinkHeader → List ℕ → List (List ℕ)
heard_words moment header counts =
    codes "heard" ∷ decimal moment ∷ decimal header.slot ∷ decimal header.site ∷ map decimal counts

abbrev pub heard_lines : ℕ → UplinkHeader → List ℕ → List UnreadPart → List ℕ
heard_lines moment header counts unread =
    line_of_words (heard_words moment header counts) ++ flat_map unread_text unread

-- a frame of which a block is lost, or that has no valid application data
abbrev pub lost_line : ℕ → ℕ → List ℕ
lost_line moment block = line_of_words (codes "lost" ∷ decimal moment ∷ decimal block ∷ [])

abbrev pub noapp_line : ℕ → List ℕ
noapp_line moment = line_of_words (codes "noapp" ∷ decimal moment ∷ [])

-- the third word of a text's key, where it has one
abbrev pub third_words : Option (List ℕ) → List (List ℕ)
third_words None = []
third_words (Some word) = word ∷ []

-- the hemisphere of a block, and the intensities of its cells, a digit each
abbrev pub hemisphere_word : Bool → List ℕ
hemisphere_word south = if south then codes "s" else codes "n"

abbrev pub cell_digits : List ℕ → List ℕ
cell_digits intensities = map (λ cell. 48 + cell) intensities

-- an entry of a picture: the words of its key, its version, and what is shown
abbrev pub entry_text : Key → ℕ → Value → List ℕ
entry_text (radar_block key) version (cells intensities) = line_of_words (codes "radar"
    ∷ decimal key.product ∷ decimal key.scale ∷ hemisphere_word key.south ∷ decimal key.number
    ∷ decimal version ∷ cell_digits intensities ∷ [])
entry_text (radar_block key) version (report chars) = []
entry_text (text_report key) version (cells intensities) = []
entry_text (text_report key) version (report chars) =
    line_of_words (codes "text" ∷ key.kind ∷ key.place
    ∷ (third_words key.third ++ decimal version ∷ plain_text chars ∷ []))

abbrev pub shown_entry : ShownValue → List ℕ
shown_entry shown = entry_text shown.0 shown.1 shown.2

abbrev pub picture_head : ℕ → ℕ → List ℕ
picture_head moment count = line_of_words (codes "picture" ∷ decimal moment ∷ decimal count ∷ [])

abbrev pub picture_text : ℕ → List ShownValue → List ℕ
picture_text moment shown = picture_head moment (length shown) ++ flat_map shown_entry shown
