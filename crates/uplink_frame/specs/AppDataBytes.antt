-- What the bytes of application data hold while frames are pushed.
use Rattle.std.specs.Prelude.{◌≡◌, ℕ, List, length}
use Rattle.uplink_frame.specs.UplinkFrame.{frames_in, spelled_frames, application_data}

-- the bytes are the application data of their own information frames, which take so many of them
pub record IsFilled (bytes : List ℕ) (used : ℕ) : Type 0 where
  pub bytes_are : application_data (frames_in bytes) ≡ bytes
  pub used_are : length (spelled_frames (frames_in bytes)) ≡ used
