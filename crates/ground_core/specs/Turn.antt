-- What a look at the front of the queue does.
use Rattle.std.specs.Prelude.{◌≡◌, ◌+◌, ◌-◌, Bool, true, false, nat_le, List, [], ◌∷◌, ◌++◌, length}
use Rattle.std.specs.Prelude.{◌⊎◌}
use Rattle.uplink_frame.specs.UplinkFrame.{InformationFrame, frame_room, fisb_frame, spelled_frames}
use Rattle.ground_core.specs.Piece.{Piece, room_of_piece, body_of_piece}
use Rattle.ground_core.specs.declared.line.Turn.{Turn}
use Rattle.ground_core.specs.declared.line.Turn.TheVariants.{Dropped, Aired, Stopped}

abbrev pub fits_in : List InformationFrame → Piece → Bool
fits_in frames p = nat_le (room_of_piece p) (frame_room - length (spelled_frames frames))

-- the front of the queue, and what stands after it
pub record HasFront (line : List Piece) : Type 0 where
  pub front : Piece
  pub behind : List Piece
  pub line_is : line ≡ front ∷ behind

pub record IsDropped (live : Piece → Bool) (old : List Piece) (frames : List InformationFrame)
    (new : List Piece) (sent : List InformationFrame) : Type 0 where
  pub has : HasFront old
  pub dead : live has.front ≡ false
  pub line : new ≡ has.behind
  pub frames_stay : sent ≡ frames

pub record IsFrontAired (live : Piece → Bool) (old : List Piece) (frames : List InformationFrame)
    (new : List Piece) (sent : List InformationFrame) : Type 0 where
  pub has : HasFront old
  pub lives : live has.front ≡ true
  pub fits : fits_in frames has.front ≡ true
  pub line : new ≡ has.behind ++ has.front ∷ []
  pub frames_are : sent ≡ frames ++ fisb_frame (body_of_piece has.front) ∷ []
  pub used : length (spelled_frames sent) ≡ length (spelled_frames frames) + room_of_piece has.front

pub record IsTooLong (live : Piece → Bool) (old : List Piece)
    (frames : List InformationFrame) : Type 0 where
  pub has : HasFront old
  pub lives : live has.front ≡ true
  pub too_long : fits_in frames has.front ≡ false

pub record IsStopped (live : Piece → Bool) (old : List Piece) (frames : List InformationFrame)
    (new : List Piece) (sent : List InformationFrame) : Type 0 where
  pub cause : (old ≡ []) ⊎ IsTooLong live old frames
  pub line : new ≡ old
  pub frames_stay : sent ≡ frames

abbrev pub IsTurn : (Piece → Bool) → List Piece → List InformationFrame → List Piece
    → List InformationFrame → Turn → Type 0
IsTurn live old frames new sent Dropped = IsDropped live old frames new sent
IsTurn live old frames new sent Aired = IsFrontAired live old frames new sent
IsTurn live old frames new sent Stopped = IsStopped live old frames new sent
