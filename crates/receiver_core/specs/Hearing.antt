-- What a receiver answers to a frame, by what it heard before. A frame counts where each of its
-- blocks is near a code word (RTCA DO-282B) and its header says that the application data are
-- valid.
use Rattle.std.specs.Prelude.{◌≡◌, ⊤, ℕ, Bool, true, if◌then◌else◌, List, [], ◌∷◌, length, map}
use Rattle.std.specs.Prelude.{Option, Some, None}
use Rattle.std.specs.Option.{option_or, option_and_then, option_map}
use Rattle.bit_fields.specs.Bits.{AreBytes}
use Rattle.fisb_time.specs.Moment.{IsMoment}
use Rattle.uplink_frame.specs.UplinkFrame.{payload_length}
use Rattle.uplink_frame.specs.UplinkFrame.{header_in}
use Rattle.uplink_weave.specs.Functions.{payload_in, lost_block_in}
use Rattle.life_table.specs.LifeTable.{LifeTable}
use Rattle.segment_core.specs.Store.{last_above}
use Rattle.picture_core.specs.Views.{entry_view, shown_value}
use Rattle.picture_core.specs.declared.entry.Entry.{Entry as ShownEntry}
use Rattle.receiver_core.specs.Reception.{Reception, received_picture}
use Rattle.receiver_core.specs.UnreadParts.{UnreadPart, unread_parts}
use Rattle.receiver_core.specs.declared.unread.Unread.{Unread}
use Rattle.receiver_core.specs.declared.heard.Heard.{Heard}
use Rattle.receiver_core.specs.declared.heard.HearFault.{HearFault}
use Rattle.receiver_core.specs.declared.heard.HearFault.TheVariants.{Clock, Lost, NoApplication}
use Rattle.receiver_core.specs.declared.heard.HearFault.TheVariants.{NoMemory}
use Rattle.receiver_core.specs.declared.heard.ShowFault.{ShowFault}
use Rattle.receiver_core.specs.declared.heard.ShowFault.TheVariants.{Clock as ShowClock}
use Rattle.receiver_core.specs.declared.heard.ShowFault.TheVariants.{NoMemory as ShowNoMemory}

-- the moment of the last reception
abbrev pub clock_of : List Reception → Option ℕ
clock_of [] = None
clock_of (heard ∷ past) = Some heard.moment

abbrev pub is_valid : List ℕ → Bool
is_valid payload = (header_in payload).app_valid

-- a reception that can come after these: its payload has valid application data, and its moment is
-- not below the last one
pub record IsNextReception (past : List Reception) (heard : Reception) : Type 0 where
  pub moment_is : IsMoment heard.moment
  pub in_time : last_above (clock_of past) heard.moment ≡ None
  pub size : length heard.payload ≡ payload_length
  pub bytes : AreBytes heard.payload
  pub valid : is_valid heard.payload ≡ true

abbrev pub AreReceptions : List Reception → Type 0
AreReceptions [] = Unit {0}
AreReceptions (heard ∷ past) = IsNextReception past heard × AreReceptions past

-- why a frame is not heard
pub data HearRefusal : Type 0 where
  clock : (kept : ℕ) → HearRefusal
  lost : (block : ℕ) → HearRefusal
  no_application : HearRefusal

abbrev pub clock_refusal : List Reception → ℕ → Option HearRefusal
clock_refusal past moment = option_map clock (last_above (clock_of past) moment)

abbrev pub payload_refusal : List ℕ → Option HearRefusal
payload_refusal payload = if is_valid payload then None else Some no_application

-- of a payload, and of a frame of 552 bytes
abbrev pub refusal_of_payload : List Reception → ℕ → List ℕ → Option HearRefusal
refusal_of_payload past moment payload =
    option_or (clock_refusal past moment) (payload_refusal payload)

abbrev pub refusal_of_air : List Reception → ℕ → List ℕ → Option HearRefusal
refusal_of_air past moment air = option_or (clock_refusal past moment)
    (option_or (option_map lost (lost_block_in air))
    (option_and_then payload_refusal (payload_in air)))

-- the fault is the one of this refusal; out of memory may come at any
abbrev pub IsHearFault : Option HearRefusal → HearFault → Type 0
IsHearFault refusal (Clock kept) = refusal ≡ Some (clock kept)
IsHearFault refusal (Lost block) = refusal ≡ Some (lost block)
IsHearFault refusal NoApplication = refusal ≡ Some no_application
IsHearFault refusal NoMemory = ⊤

abbrev pub unread_view : Unread → UnreadPart
unread_view part =
    record { reason = part.reason; kind = part.kind; product = part.product; size = part.length }

-- what is answered to a payload with these counts of corrected bytes
pub record IsHeardOf (table : LifeTable) (past : List Reception) (heard : Reception)
    (counts : List ℕ) (answer : Heard) : Type 0 where
  pub header : answer.header ≡ header_in heard.payload
  pub corrected : answer.corrected ≡ counts
  pub unread : map unread_view answer.unread ≡ unread_parts table past heard

-- the picture that was asked for, or why there is none
abbrev pub IsPictureOf : LifeTable → List Reception → ℕ → List ShownEntry → Type 0
IsPictureOf table past moment shown =
    map entry_view shown ≡ map shown_value (received_picture table past moment)

abbrev pub IsShowFault : Option ℕ → ShowFault → Type 0
IsShowFault last (ShowClock kept) = last ≡ Some kept
IsShowFault last ShowNoMemory = ⊤
