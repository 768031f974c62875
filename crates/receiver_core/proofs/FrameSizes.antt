-- The information frames of a payload take no more bytes than it has behind its header.
use Rattle.std.proofs.Common.{◌≡◌, ℕ, zero, suc, ◌+◌, ◌≤◌, List, [], ◌∷◌, length, drop, ap, inl, inr, arith}
use Rattle.std.specs.Prelude.{nat_lt}
use Rattle.std.specs.List.{sum_by}
use Rattle.std.proofs.lemmas.Bool.{cases_Bool, cond-true, cond-false, ltb-false, or_parts}
use Rattle.std.proofs.lemmas.List.{length-drop, length-take}
use Rattle.std.proofs.lemmas.List.Sums.{sum_by-cons}
use Rattle.uplink_frame.specs.UplinkFrame.{InformationFrame, behind_frame, ends_here, frame_at_front, frames_at_front, information_frames, length_at_front}

-- the bytes of a frame: its front and its body
abbrev pub frame_size : InformationFrame → ℕ
frame_size frame = 2 + length frame.body

front_size : (count : ℕ) (bytes : List ℕ) → sum_by frame_size (frames_at_front count bytes) ≤ length bytes
front_size zero bytes = omega arith
front_size (suc count) bytes = elim (cases_Bool (ends_here bytes)) [
  | inl ends ↦
      let none : frames_at_front (suc count) bytes ≡ [] = cond-true (ends_here bytes) [] _ ends in
      omega (arith, ap (sum_by frame_size) none)
  | inr goes_on ↦
      let frame = frame_at_front bytes in
      let rest = frames_at_front count (behind_frame bytes) in
      let some : frames_at_front (suc count) bytes ≡ frame ∷ rest = cond-false (ends_here bytes) [] _ goes_on in
      let parts = or_parts _ (nat_lt (length bytes) (2 + length_at_front bytes)) goes_on in
      let fits = ltb-false (length bytes) (2 + length_at_front bytes) parts.1 in
      let more = front_size count (behind_frame bytes) in
      let body = length-take (length_at_front bytes) (drop 2 bytes) in
      let left = length-drop (length_at_front bytes) (drop 2 bytes) in
      omega (arith, ap (sum_by frame_size) some, sum_by-cons frame_size frame rest, fits, more, body, left, length-drop 2 bytes)
]

pub frames_size : (payload : List ℕ) → length payload ≡ 432 → sum_by frame_size (information_frames payload) ≤ 424
unfolding information_frames
frames_size payload size =
    let front = front_size 212 (drop 8 payload) in
    omega (arith, front, length-drop 8 payload, size)
