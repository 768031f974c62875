-- Small scenes, computed by the definitions alone: the premises of the laws can be met, and
-- pictures are as they should be.
use Rattle.std.proofs.Common.{◌≡◌, ℕ, ◌+◌, ◌<◌, true, nat_lt, List, [], ◌∷◌, ◌++◌, map, flat_map, replicate, Some, None, refl, codes, arith}
use Rattle.std.specs.Str.{chars, IsUtf8}
use Rattle.std.specs.List.{list_all}
use Rattle.std.proofs.lemmas.Bool.{ltb-true}
use Rattle.std.proofs.lemmas.Str.{IsUtf8-from_ascii}
use Rattle.std.proofs.lemmas.Str.Ascii.{IsAscii-from_all}
use Rattle.fisb_time.specs.declared.form.TimeForm.TheVariants.{Minute}
use Rattle.dlac_text.specs.Payload.{text_payload}
use Rattle.dlac_text.specs.Refusal.{text_refusal}
use Rattle.dlac_text.specs.Reports.{reports_of}
use Rattle.life_table.specs.LifeTable.{default_table}
use Rattle.text_reports.specs.TextKey.{text_key}
use Rattle.uplink_frame.specs.declared.station.StationId.{StationId}
use Rattle.uplink_frame.specs.Station.{FitsStation, no_station}
use Rattle.list_members.specs.ListMembers.{All-members}
use Rattle.picture_core.specs.Key.{text_report}
use Rattle.picture_core.specs.Entry.{Entry, report}
use Rattle.picture_core.specs.Picture.{picture}
use Rattle.segment_core.specs.File.{File}
use Rattle.segment_core.specs.Arrival.{Arrival, whole_payloads}
use Rattle.segment_core.specs.Joining.{arrival_of, segment}
use Rattle.receiver_core.specs.Reception.{whole_entries}
use Rattle.ground_core.specs.Item.{Item, segment_of}
use Rattle.ground_core.specs.Update.{text}
use Rattle.ground_core.specs.History.{accepted, fill, free_number}
use Rattle.ground_core.specs.Airing.{Frame}
use Rattle.ground_core.specs.Refusal.{give_refusal}
use Rattle.ground_core.specs.Broadcast.{StationEvent, IsBroadcast, frames}
use Rattle.fisb_link.specs.LinkPicture.{link_entries, link_picture}
use Rattle.fisb_link.specs.Hearing.{Hearing, AreHeard}
use Rattle.list_members.specs.Ranges.{all_in}

abbrev other_station : StationId
other_station = record { lat = 7; lon = 9; position_valid = true; site = 3 }

abbrev calm : List ℕ
calm = codes "METAR KSEA CALM"

abbrev gale : List ℕ
gale = codes "SPECI KSEA GALE"

-- what a station is told of a version, and a frame that it sends
abbrev tell : StationId → ℕ → ℕ → List ℕ → StationEvent
tell station moment version chars =
    record { station = station; event = accepted moment (text version chars) }

abbrev send : StationId → ℕ → ℕ → StationEvent
send station moment slot = record { station = station; event = fill moment slot }

abbrev at : ℕ → ℕ → Hearing
at frame moment = record { frame = frame; moment = moment }

-- the METAR of a place, of a version
abbrev entry : ℕ → List ℕ → Entry
entry version chars = record {
  key = text_report (record { kind = codes "METAR"; place = codes "KSEA"; third = None });
  version = version;
  until = version + 7200;
  value = report chars;
}

-- two stations are told different texts of one key and one version; each sends a frame
abbrev two_stations : List StationEvent
two_stations = send other_station 1700000003 1 ∷ send no_station 1700000002 0
    ∷ tell other_station 1700000001 1699999980 gale
    ∷ tell no_station 1700000000 1699999980 calm ∷ []

-- the frame of the second station is heard first, and then that of the first
abbrev second_first : List Hearing
second_first = at 0 1700000005 ∷ at 1 1700000004 ∷ []

fits-none : FitsStation no_station
fits-none = record { lat = omega arith; lon = omega arith; site = omega arith }

fits-other : FitsStation other_station
fits-other = record { lat = omega arith; lon = omega arith; site = omega arith }

is-text : (bytes : List ℕ) → list_all (λ b. nat_lt b 128) bytes ≡ true → IsUtf8 bytes
is-text bytes ascii =
    IsUtf8-from_ascii bytes (IsAscii-from_all bytes
    (All-members (λ (b : ℕ). b < 128) bytes
    (λ b h. ltb-true b 128 (all_in (λ (c : ℕ). nat_lt c 128) b bytes ascii h))))

pub two_stations-is : IsBroadcast default_table two_stations
unfolding default_table text_payload text_key give_refusal text_refusal chars
two_stations-is = (
  fits-other,
  record {
    is_accepted = omega arith;
    moment_is = (omega arith, omega arith);
    not_before = omega arith;
  },
  (
    fits-none,
    record {
      is_accepted = omega arith;
      moment_is = (omega arith, omega arith);
      not_before = omega arith;
    },
    (
      fits-other,
      record {
        is_accepted = (((omega arith, omega arith), is-text gale refl), refl);
        moment_is = (omega arith, omega arith);
        not_before = tt;
      },
      (
        fits-none,
        record {
          is_accepted = (((omega arith, omega arith), is-text calm refl), refl);
          moment_is = (omega arith, omega arith);
          not_before = tt;
        },
        tt,
      ),
    ),
  ),
)

pub two_stations-are_heard : AreHeard default_table.late
    (frames default_table two_stations) second_first
unfolding default_table text_payload text_key
two_stations-are_heard = (
  (omega arith, omega arith),
  (omega arith, omega arith),
  omega arith,
  ((omega arith, omega arith), (omega arith, omega arith), tt, tt),
)

-- of equal versions the one that was whole first is shown, whichever station it is of
pub tie-second_first : link_picture default_table two_stations second_first 1700000006
    ≡ entry 1699999980 gale ∷ []
unfolding default_table text_payload text_key
tie-second_first = refl

pub tie-first_first : link_picture default_table two_stations
    (at 1 1700000005 ∷ at 0 1700000004 ∷ []) 1700000006
    ≡ entry 1699999980 calm ∷ []
unfolding default_table text_payload text_key
tie-first_first = refl

-- it stays the one, also where it is heard again
pub tie-heard_again : link_picture default_table two_stations
    (at 0 1700000006 ∷ second_first) 1700000006 ≡ entry 1699999980 gale ∷ []
unfolding default_table text_payload text_key
tie-heard_again = refl

-- a newer version of one station is shown over the older one of the other, also where it is heard
-- first
abbrev superseding_broadcast : List StationEvent
superseding_broadcast = send other_station 1700000123 1 ∷ tell other_station 1700000120 1700000100 gale
    ∷ send no_station 1700000002 0 ∷ tell no_station 1700000000 1699999980 calm ∷ []

pub superseded-first_first : link_picture default_table superseding_broadcast
    (at 1 1700000125 ∷ at 0 1700000124 ∷ []) 1700000126
    ≡ entry 1700000100 gale ∷ []
unfolding default_table text_payload text_key
superseded-first_first = refl

pub superseded-second_first : link_picture default_table superseding_broadcast
    (at 0 1700000125 ∷ at 1 1700000124 ∷ []) 1700000126
    ≡ entry 1700000100 gale ∷ []
unfolding default_table text_payload text_key
superseded-second_first = refl

-- until the newer one is heard, the older one is shown
pub superseded-unheard : link_picture default_table superseding_broadcast (at 0 1700000124 ∷ []) 1700000126
    ≡ entry 1699999980 calm ∷ []
unfolding default_table text_payload text_key
superseded-unheard = refl

-- each is shown for no longer than it lives
pub last_second : link_picture default_table superseding_broadcast (at 0 1700000124 ∷ []) 1700007179
    ≡ entry 1699999980 calm ∷ []
unfolding default_table text_payload text_key
last_second = refl

pub older_ended : link_picture default_table superseding_broadcast (at 0 1700000124 ∷ []) 1700007180 ≡ []
unfolding default_table text_payload text_key
older_ended = refl

-- where the older one has ended the newer one goes on
pub newer_lasts : link_picture default_table superseding_broadcast
    (at 1 1700000125 ∷ at 0 1700000124 ∷ []) 1700007180 ≡ entry 1700000100 gale ∷ []
unfolding default_table text_payload text_key
newer_lasts = refl

-- a text in two segments, and a newer version of it
abbrev in_two : ℕ → ℕ → List ℕ → Item
in_two serial version chars = record {
  station = no_station;
  serial = serial;
  number = Some 0;
  weather = record {
    product = 413;
    form = Minute;
    version = version;
    life = 7200;
    entries = entry version chars ∷ [];
    payload = replicate 500 7;
  };
}

abbrev old : Item
old = in_two 0 1699999980 calm

abbrev newer : Item
newer = in_two 1 1700000100 gale

abbrev frame_with : Item → ℕ → Frame
frame_with item number = record {
  station = no_station;
  moment = 1700000120;
  slot = 0;
  segments = segment_of item number ∷ [];
}

-- frames with both segments of the old version, and with those of the newer one
abbrev of_segments : List Frame
of_segments = frame_with old 1 ∷ frame_with old 2 ∷ frame_with newer 1 ∷ frame_with newer 2 ∷ []

abbrev shown_by : List Hearing → List Entry
shown_by heard = picture (link_entries (old ∷ newer ∷ []) of_segments heard) 1700000130

-- the second segment alone shows nothing, nor do both halves of two versions
pub second_segment : shown_by (at 1 1700000121 ∷ []) ≡ []
second_segment = refl

pub two_halves : shown_by (at 3 1700000122 ∷ at 0 1700000121 ∷ []) ≡ []
two_halves = refl

-- the second segment first, the first one twice, and half of the newer version
pub first_twice : shown_by
    (at 2 1700000124 ∷ at 0 1700000123 ∷ at 0 1700000122 ∷ at 1 1700000121 ∷ [])
    ≡ entry 1699999980 calm ∷ []
first_twice = refl

-- and the newer version once both of its segments were heard
pub newer_whole : shown_by
    (at 3 1700000125 ∷ at 0 1700000123 ∷ at 2 1700000122 ∷ at 1 1700000121 ∷ [])
    ≡ entry 1700000100 gale ∷ []
newer_whole = refl

-- a long text is accepted, cut in two, and each of its segments fills a frame alone
abbrev long : List ℕ
long = codes "METAR KSEA " ++ replicate 600 65

abbrev long_sent : List StationEvent
long_sent = send no_station 1700000003 1 ∷ send no_station 1700000002 0
    ∷ tell no_station 1700000000 1699999980 long ∷ []

pub long-is : IsBroadcast default_table long_sent
unfolding default_table text_payload text_key give_refusal text_refusal chars free_number
long-is = (
  fits-none,
  record {
    is_accepted = omega arith;
    moment_is = (omega arith, omega arith);
    not_before = omega arith;
  },
  (
    fits-none,
    record {
      is_accepted = omega arith;
      moment_is = (omega arith, omega arith);
      not_before = omega arith;
    },
    (
      fits-none,
      record {
        is_accepted = (((omega arith, omega arith), is-text long refl), refl);
        moment_is = (omega arith, omega arith);
        not_before = tt;
      },
      tt,
    ),
  ),
)

pub long-aired : map (λ f. map (λ s. s.number) f.segments)
    (frames default_table long_sent) ≡ (1 ∷ []) ∷ (2 ∷ []) ∷ []
unfolding default_table text_payload text_key free_number
long-aired = refl

pub long-second_first : link_picture default_table long_sent
    (at 0 1700000005 ∷ at 1 1700000004 ∷ []) 1700000006 ≡ entry 1699999980 long ∷ []
unfolding default_table text_payload text_key free_number
long-second_first = refl

-- the same by what arrives: the second segment first, the first one twice, and half of a newer
-- version
abbrev long_file : ℕ → List ℕ → File
long_file version chars = record {
  product = 413;
  form = Minute;
  version = version;
  number = 0;
  payload = text_payload chars;
}

abbrev long_arrivals : List Arrival
long_arrivals = arrival_of (segment no_station (long_file 1699999980 long) 2)
    ∷ arrival_of (segment no_station (long_file 1699999980 long) 1)
    ∷ arrival_of (segment no_station (long_file 1699999980 long) 1)
    ∷ arrival_of (segment no_station (long_file 1700000100 long) 1) ∷ []

pub long-received : flat_map (whole_entries default_table) (whole_payloads long_arrivals)
    ≡ entry 1699999980 long ∷ []
unfolding default_table text_payload text_key reports_of
long-received = refl
