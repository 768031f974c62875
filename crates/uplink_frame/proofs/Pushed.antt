-- Application data: none, one information frame more, and what a payload has of them.
use Rattle.std.proofs.Common.{◌≡◌, ℕ, ◌+◌, ◌-◌, ◌*◌, ◌/◌, ◌%◌, ◌<◌, ◌≤◌, List, [], ◌∷◌, ◌++◌, length, take, drop, replicate, refl, sym, ap, ap₂, subst, ◌∙◌, arith, append_assoc}
use Rattle.std.specs.List.{All}
use Rattle.std.proofs.lemmas.List.{append-nil, length-append, length-take-le, take_at, drop_at, drop_all, drop-drop, drop-replicate}
use Rattle.std.proofs.lemmas.List.Elements.{All-push}
use Rattle.std.proofs.lemmas.Grind.{flat_map-append}
use Rattle.std.proofs.Math.Seq.{drop-append-add}
use Rattle.uplink_frame.specs.declared.header.UplinkHeader.{UplinkHeader}
use Rattle.uplink_frame.specs.UplinkFrame.{InformationFrame, header_bytes, frame_front, information_frame, frames_in, information_frames, spelled_frames, application_data, payload_of, FitsFrame}
use Rattle.uplink_frame.specs.AppDataBytes.{IsFilled}
use Rattle.uplink_frame.proofs.FrameList.{All-frames_in, information_frames-frames_in}
use Rattle.uplink_frame.proofs.Spelled.{frames_in-zeros, frames_in-written}

-- zeros are the application data of no frame
pub filled-zeros : (bytes : List ℕ) → bytes ≡ replicate 424 0 → IsFilled bytes 0
filled-zeros bytes zeros =
    let none : frames_in bytes ≡ [] = ap frames_in zeros ∙ frames_in-zeros 424 in
    record { bytes_are = ap application_data none ∙ sym zeros; used_are = ap (λ fs. length (spelled_frames fs)) none }

-- what two writes behind a front make of zeros that follow it
written_behind :
    (start front body bytes once twice : List ℕ) (room used : ℕ) → bytes ≡ start ++ replicate room 0 →
    length start ≡ used → length front ≡ 2 →
    once ≡ take used bytes ++ (front ++ drop (used + 2) bytes) →
    twice ≡ take (used + 2) once ++ (body ++ drop (used + 2 + length body) once) →
    twice ≡ (start ++ (front ++ body)) ++ replicate (room - (2 + length body)) 0
written_behind start front body bytes once twice room used bytes_are long two first second =
    let zeros : List ℕ = replicate room 0 in
    let whole : length (start ++ front) ≡ used + 2 = length-append start front ∙ omega arith in
    let kept : take used bytes ≡ start = ap (take used) bytes_are ∙ take_at start zeros used long in
    let left : drop (used + 2) bytes ≡ drop 2 zeros =
    ap₂ (λ (n : ℕ) (b : List ℕ). drop n b) (ap (λ n. n + 2) (sym long)) bytes_are ∙ drop-append-add start zeros 2
    in
    let once_is : once ≡ (start ++ front) ++ drop 2 zeros =
    first ∙ ap₂ (λ (b more : List ℕ). b ++ (front ++ more)) kept left ∙ sym (append_assoc start front (drop 2 zeros))
    in
    let kept_again : take (used + 2) once ≡ start ++ front =
    ap (take (used + 2)) once_is ∙ take_at (start ++ front) (drop 2 zeros) (used + 2) whole
    in
    let left_again : drop (used + 2 + length body) once ≡ replicate (room - (2 + length body)) 0 =
    ap₂ (λ (n : ℕ) (b : List ℕ). drop n b) (ap (λ n. n + length body) (sym whole)) once_is
    ∙ drop-append-add (start ++ front) (drop 2 zeros) (length body) ∙ drop-drop (length body) 2 zeros
    ∙ drop-replicate (2 + length body) room 0
    in
    second ∙ ap₂ (λ (b more : List ℕ). b ++ (body ++ more)) kept_again left_again
    ∙ sym (append_assoc (start ++ front) body (replicate (room - (2 + length body)) 0))
    ∙ ap (λ (b : List ℕ). b ++ replicate (room - (2 + length body)) 0) (append_assoc start front body)

-- the two bytes before a body: nine bits of length, three of zero, and four of type
pub front_is :
    (size kind : ℕ) → size < 512 → kind < 16 →
    size / 2 ∷ (size % 2 * 128 + kind) ∷ [] ≡ frame_front size 0 kind
front_is size kind short small = ap₂ (λ (a b : ℕ). a ∷ b ∷ []) (omega arith) (omega arith)

-- the bytes of some frames and of one more
spelled_frames-push :
    (frames : List InformationFrame) (frame : InformationFrame) →
    spelled_frames (frames ++ frame ∷ []) ≡ spelled_frames frames ++ information_frame frame
spelled_frames-push frames frame =
    flat_map-append information_frame frames (frame ∷ [])
    ∙ ap (λ (b : List ℕ). spelled_frames frames ++ b) (append-nil (information_frame frame))

-- a frame that is written behind the others
pub record IsPushed (bytes twice : List ℕ) (used : ℕ) (frame : InformationFrame) : Type 0 where
  pub frames_are : frames_in twice ≡ frames_in bytes ++ frame ∷ []
  pub filled : IsFilled twice (used + (2 + length frame.body))

pub pushed :
    (bytes once twice front : List ℕ) (used : ℕ) (frame : InformationFrame) → IsFilled bytes used →
    length bytes ≡ 424 → FitsFrame frame → used + (2 + length frame.body) ≤ 424 →
    front ++ frame.body ≡ information_frame frame → length front ≡ 2 →
    once ≡ take used bytes ++ (front ++ drop (used + 2) bytes) →
    twice ≡ take (used + 2) once ++ (frame.body ++ drop (used + 2 + length frame.body) once) →
    IsPushed bytes twice used frame
pushed bytes once twice front used frame filled whole fits room front_is two first second =
    let frames = frames_in bytes in
    let more = frames ++ frame ∷ [] in
    let start = spelled_frames frames in
    let spelled : spelled_frames more ≡ start ++ (front ++ frame.body) =
    spelled_frames-push frames frame ∙ ap (λ (b : List ℕ). start ++ b) (sym front_is)
    in
    let size : length (spelled_frames more) ≡ used + (2 + length frame.body) =
    ap length spelled ∙ length-append start (front ++ frame.body)
    ∙ omega (arith, length-append front frame.body, filled.used_are)
    in
    let at : (all : ℕ) → 424 ≡ all → twice ≡ spelled_frames more ++ replicate (all - length (spelled_frames more)) 0 =
    λ all e.
    written_behind start front frame.body bytes once twice (all - length start) used
    (subst (λ (n : ℕ). bytes ≡ start ++ replicate (n - length start) 0) e (sym filled.bytes_are)) filled.used_are two first second
    ∙ ap₂ (λ (b : List ℕ) (n : ℕ). b ++ replicate n 0) (sym spelled) (omega (arith, size, filled.used_are))
    in
    let twice_is : twice ≡ application_data more = at 424 refl in
    let read : frames_in twice ≡ more =
    ap frames_in twice_is
    ∙ frames_in-written more (424 - length (spelled_frames more))
    (All-push FitsFrame frames frame (All-frames_in bytes (omega arith)) fits)
    in
    record {
      frames_are = read;
      filled = record {
        bytes_are = ap application_data read ∙ sym twice_is;
        used_are = ap (λ fs. length (spelled_frames fs)) read ∙ size;
      };
    }

-- how many of the bytes are used
pub used-le : (bytes : List ℕ) (used : ℕ) → IsFilled bytes used → length bytes ≡ 424 → used ≤ 424
used-le bytes used filled whole =
    let frames = frames_in bytes in
    omega
    (arith, filled.used_are, ap length filled.bytes_are, length-append (spelled_frames frames) (replicate (424 - length (spelled_frames frames)) 0))

-- a payload with these bytes behind its header
pub record IsFinished (old new : List ℕ) (frames : List InformationFrame) : Type 0 where
  pub bytes : new ≡ take 8 old ++ application_data frames
  pub reads_back : information_frames new ≡ frames
  pub fit : All FitsFrame frames

pub finished :
    (bytes old new : List ℕ) (used : ℕ) → IsFilled bytes used → length bytes ≡ 424 → length old ≡ 432 →
    new ≡ take 8 old ++ (bytes ++ drop (8 + length bytes) old) → IsFinished old new (frames_in bytes)
finished bytes old new used filled whole long written =
    let start : length (take 8 old) ≡ 8 = length-take-le 8 old (omega arith) in
    let behind : bytes ++ drop (8 + length bytes) old ≡ bytes =
    ap (λ (b : List ℕ). bytes ++ b) (drop_all (8 + length bytes) old (omega arith)) ∙ append-nil bytes
    in
    let new_is : new ≡ take 8 old ++ bytes = written ∙ ap (λ (b : List ℕ). take 8 old ++ b) behind in
    let size : length new ≡ 432 = ap length new_is ∙ length-append (take 8 old) bytes ∙ omega arith in
    record {
      bytes = new_is ∙ ap (λ (b : List ℕ). take 8 old ++ b) (sym filled.bytes_are);
      reads_back =
          information_frames-frames_in new size
          ∙ ap frames_in (ap (drop 8) new_is ∙ drop_at (take 8 old) bytes 8 start);
      fit = All-frames_in bytes (omega arith);
    }

-- with the bytes of a header before it, it is the payload of the header and the frames
pub payload_of-parts :
    (h : UplinkHeader) (frames : List InformationFrame) (start new : List ℕ) → new ≡ start ++ application_data frames →
    start ≡ header_bytes h → new ≡ payload_of h frames
unfolding payload_of
payload_of-parts h frames start new new_is start_is =
    new_is ∙ ap (λ (b : List ℕ). b ++ application_data frames) start_is
