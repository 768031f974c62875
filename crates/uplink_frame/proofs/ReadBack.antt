-- The payload of a header and of information frames that fit reads back.
use Rattle.std.proofs.Common.{◌≡◌, ℕ, ◌+◌, ◌-◌, ◌<◌, ◌≤◌, List, [], ◌∷◌, ◌++◌, length, take, drop, replicate, refl, ap, ◌∙◌, arith, lit<}
use Rattle.std.specs.List.{All}
use Rattle.std.proofs.lemmas.List.{length-append, length-replicate}
use Rattle.std.proofs.lemmas.List.Elements.{All-nil, All-head, All-tail, All-append, All-replicate}
use Rattle.uplink_frame.specs.declared.header.UplinkHeader.{UplinkHeader}
use Rattle.uplink_frame.specs.UplinkFrame.{FitsHeader, InformationFrame, FitsFrame, header_bytes, frame_front, information_frame, frames_in, spelled_frames, application_data, payload_of}
use Rattle.bit_fields.specs.Bits.{AreBytes}
use Rattle.bit_fields.specs.BytesAsNumbers.{bytes_high_first-bytes}
use Rattle.uplink_frame.specs.Laws.{ReadsBack}
use Rattle.uplink_frame.proofs.FrameList.{information_frames-frames_in}
use Rattle.uplink_frame.proofs.Spelled.{frames_in-written}
use Rattle.uplink_frame.proofs.HeaderBits.{header_in-written, length-header_bytes}

length-payload_of :
    (h : UplinkHeader) (frames : List InformationFrame) → length (spelled_frames frames) ≤ 424 → length (payload_of h frames) ≡ 432
unfolding payload_of
length-payload_of h frames room =
    let spelled = spelled_frames frames in
    let at : (all : ℕ) → 424 ≡ all → length spelled ≤ all →
    length (header_bytes h ++ (spelled ++ replicate (all - length spelled) 0)) ≡ 8 + all =
    λ all e enough.
    length-append (header_bytes h) (spelled ++ replicate (all - length spelled) 0)
    ∙ omega
    (arith, length-header_bytes h, length-append spelled (replicate (all - length spelled) 0), length-replicate {A = ℕ} (all - length spelled) 0)
    in
    at 424 refl room

front-payload_of :
    (h : UplinkHeader) (frames : List InformationFrame) → take 8 (payload_of h frames) ≡ header_bytes h
unfolding payload_of
front-payload_of h frames = refl

rest-payload_of :
    (h : UplinkHeader) (frames : List InformationFrame) → drop 8 (payload_of h frames) ≡ application_data frames
unfolding payload_of
rest-payload_of h frames = refl

-- each byte of frames whose bodies are bytes is a byte
All-spelled_frames :
    (frames : List InformationFrame) → All (λ frame. AreBytes frame.body) frames → AreBytes (spelled_frames frames)
All-spelled_frames [] bodies = All-nil (λ byte. byte < 256)
All-spelled_frames (frame ∷ frames) bodies =
    let P : ℕ → Type 0 = λ byte. byte < 256 in
    let Q : InformationFrame → Type 0 = λ frame. AreBytes frame.body in
    All-append P (information_frame frame) (spelled_frames frames)
    (All-append P (frame_front (length frame.body) 0 frame.kind) frame.body (bytes_high_first-bytes 2 _) (All-head Q frame frames bodies))
    (All-spelled_frames frames (All-tail Q frame frames bodies))

All-payload_of :
    (h : UplinkHeader) (frames : List InformationFrame) → All (λ frame. AreBytes frame.body) frames → AreBytes (payload_of h frames)
unfolding payload_of
All-payload_of h frames bodies =
    let P : ℕ → Type 0 = λ byte. byte < 256 in
    let spelled = spelled_frames frames in
    All-append P (header_bytes h) (application_data frames) (bytes_high_first-bytes 8 _)
    (All-append P spelled (replicate (424 - length spelled) 0) (All-spelled_frames frames bodies) (All-replicate P (424 - length spelled) 0 (lit< tt)))

pub reads_back :
    (h : UplinkHeader) (frames : List InformationFrame) → FitsHeader h → All FitsFrame frames →
    All (λ frame. AreBytes frame.body) frames → length (spelled_frames frames) ≤ 424 → ReadsBack h frames
reads_back h frames header_fits frames_fit bodies room =
    let size = length-payload_of h frames room in
    record {
      header_back = header_in-written h (payload_of h frames) header_fits (front-payload_of h frames);
      frames_back =
          information_frames-frames_in (payload_of h frames) size ∙ ap frames_in (rest-payload_of h frames)
          ∙ frames_in-written frames (424 - length (spelled_frames frames)) frames_fit;
      size = size;
      bytes = All-payload_of h frames bodies;
    }
