-- FIS-B frames of bodies: what they take, and that they read back from the payload of a station.
use Rattle.std.proofs.Common.{◌≡◌, ℕ, ◌+◌, ◌<◌, ◌≤◌, List, [], ◌∷◌, length, map, refl, ap, ◌∙◌, arith}
use Rattle.std.specs.List.{All}
use Rattle.std.proofs.lemmas.List.{length-append}
use Rattle.std.proofs.lemmas.List.Elements.{All-nil, All-cons, All-head, All-tail}
use Rattle.std.proofs.lemmas.List.Sums.{sum_by-cons}
use Rattle.bit_fields.specs.Bits.{AreBytes}
use Rattle.uplink_frame.specs.declared.header.UplinkHeader.{UplinkHeader}
use Rattle.uplink_frame.specs.declared.station.StationId.{StationId}
use Rattle.uplink_frame.specs.UplinkFrame.{InformationFrame, FitsFrame, fisb_frame, information_frame, spelled_frames}
use Rattle.uplink_frame.specs.Station.{FitsStation, header_of, station_of}
use Rattle.uplink_frame.specs.Laws.{IsBody, BodiesReadBack, frames_size}
use Rattle.uplink_frame.proofs.ReadBack.{reads_back}

pub frames_have_size :
    (bodies : List (List ℕ)) → length (spelled_frames (map fisb_frame bodies)) ≡ frames_size bodies
frames_have_size [] = refl
frames_have_size (body ∷ more) =
    length-append (information_frame (fisb_frame body)) (spelled_frames (map fisb_frame more))
    ∙ omega (arith, frames_have_size more, sum_by-cons (λ (x : List ℕ). 2 + length x) body more)

fit_frames : (bodies : List (List ℕ)) → All IsBody bodies → All FitsFrame (map fisb_frame bodies)
fit_frames [] are = All-nil FitsFrame
fit_frames (body ∷ more) are =
    let here = All-head IsBody body more are in
    All-cons FitsFrame (fisb_frame body) (map fisb_frame more)
    (record { kind = omega arith; body = here.most; goes_on = λ e. here.some })
    (fit_frames more (All-tail IsBody body more are))

are_bytes :
    (bodies : List (List ℕ)) → All IsBody bodies → All (λ frame. AreBytes frame.body) (map fisb_frame bodies)
are_bytes [] are = All-nil (λ (frame : InformationFrame). AreBytes frame.body)
are_bytes (body ∷ more) are =
    All-cons (λ (frame : InformationFrame). AreBytes frame.body) (fisb_frame body) (map fisb_frame more)
    (All-head IsBody body more are).bytes (are_bytes more (All-tail IsBody body more are))

pub bodies_read_back :
    (station : StationId) (slot : ℕ) (bodies : List (List ℕ)) → FitsStation station → slot < 32 →
    All IsBody bodies → frames_size bodies ≤ 424 → BodiesReadBack station slot bodies
bodies_read_back station slot bodies fits low are room =
    let within : length (spelled_frames (map fisb_frame bodies)) ≤ 424 = rw (frames_have_size bodies) room in
    let back = reads_back (header_of station slot) (map fisb_frame bodies)
    (record { lat = fits.lat; lon = fits.lon; slot = low; site = fits.site })
    (fit_frames bodies are) (are_bytes bodies are) within in
    record {
      payload = back;
      station_back = ap station_of back.header_back;
      slot_back = ap (λ (h : UplinkHeader). h.slot) back.header_back;
      valid = ap (λ (h : UplinkHeader). h.app_valid) back.header_back;
    }
