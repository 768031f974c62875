-- The ground station that a header names (RTCA DO-282B): its position and its TIS-B site.
use Rattle.std.specs.Prelude.{ℕ, ◌^◌, ◌<◌, ◌==◌, Bool, true, false, not, ◌&&◌, if◌then◌else◌}
use Rattle.uplink_frame.specs.declared.header.UplinkHeader.{UplinkHeader}
use Rattle.uplink_frame.specs.declared.station.StationId.{StationId}

-- the station that sent a message with this header
abbrev pub station_of : UplinkHeader → StationId
station_of h = record {
  lat = h.lat;
  lon = h.lon;
  position_valid = h.position_valid;
  site = h.site;
}

-- the header of a station's message in this slot: UTC coupled, with valid application data
abbrev pub header_of : StationId → ℕ → UplinkHeader
header_of station slot = record {
  lat = station.lat;
  lon = station.lon;
  position_valid = station.position_valid;
  utc = true;
  app_valid = true;
  slot = slot;
  site = station.site;
}

abbrev pub same_flag : Bool → Bool → Bool
same_flag a b = if a then b else not b

-- whether two stations are the same in each field
abbrev pub same_station : StationId → StationId → Bool
same_station a b =
    a.lat == b.lat && a.lon == b.lon && same_flag a.position_valid b.position_valid
    && a.site == b.site

-- each number fits its field of a header
pub record FitsStation (station : StationId) : Type 0 where
  pub lat : station.lat < 2 ^ 23
  pub lon : station.lon < 2 ^ 24
  pub site : station.site < 16

-- a station without a position, of site 0
abbrev pub no_station : StationId
no_station = record { lat = 0; lon = 0; position_valid = false; site = 0 }
