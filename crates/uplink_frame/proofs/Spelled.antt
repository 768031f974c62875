-- The bytes that spell information frames: the list of frames at the front of some bytes is what they spell, and nothing else.
use Rattle.std.proofs.Common.{◌≡◌, ℕ, zero, suc, ◌+◌, ◌*◌, ◌/◌, ◌%◌, ◌<◌, ◌≤◌, ◌↔◌, Bool, true, false, ◌&&◌, ◌||◌, nat_lt, ◌==◌, List, [], ◌∷◌, ◌++◌, length, take, drop, replicate, refl, sym, ap, ap₂, subst, ◌∙◌, inl, inr, arith, append_assoc}
use Rattle.std.specs.List.{All}
use Rattle.std.proofs.lemmas.Bool.{cases_Bool, ltb-true, ltb-false, eqb-true, and_parts, or_from, true≢false}
use Rattle.std.proofs.lemmas.List.{length-append, length-drop, take_at, drop_at, take-append-drop}
use Rattle.std.proofs.lemmas.List.Elements.{All-head, All-tail, All-drop}
use Rattle.bit_fields.specs.Bits.{AreBytes}
use Rattle.bit_fields.specs.BytesAsNumbers.{IsByte}
use Rattle.uplink_frame.specs.UplinkFrame.{InformationFrame, frame_front, length_at_front, kind_at_front, ends_here, frame_at_front, behind_frame, frames_at_front, frames_in, information_frames, spelled_frames, FitsFrame}
use Rattle.uplink_frame.specs.Spelling.{BeginsWith, IsEnd, few_left, zeros, too_long, SpellsFrame, SpellsFrames}
use Rattle.uplink_frame.proofs.FrameList.{ends-few, ends-zeros, ends-cut, goes_on, goes_on-parts, length-body, at_end, one_more, length-behind_frame, frames_in-end, frames_in-more, information_frames-frames_in}

-- two bytes as a length, reserved bits and a type
as_front :
    (high low size kind : ℕ) (behind : List ℕ) → high < 256 → low < 256 → size ≡ high * 2 + low / 128 → kind ≡ low % 16 →
    high ∷ low ∷ behind ≡ frame_front size (low / 16 % 8) kind ++ behind
as_front high low size kind behind high_is low_is size_is kind_is =
    ap₂ (λ (a b : ℕ). a ∷ b ∷ behind) (omega arith) (omega arith)

-- the bytes begin with the length and the type that are read at their front
begins :
    (bytes : List ℕ) → AreBytes bytes → 2 ≤ length bytes →
    BeginsWith (length_at_front bytes) (kind_at_front bytes) bytes (drop 2 bytes)
begins [] are_bytes enough = absurd (omega arith)
begins (high ∷ []) are_bytes enough = absurd (omega arith)
begins (high ∷ low ∷ behind) are_bytes enough =
    let high_is = All-head IsByte high (low ∷ behind) are_bytes in
    let low_is = All-head IsByte low behind (All-tail IsByte high (low ∷ behind) are_bytes) in
    let size = length_at_front (high ∷ low ∷ behind) in
    let kind = kind_at_front (high ∷ low ∷ behind) in
    record {
      size_fits = omega arith;
      kind_fits = omega arith;
      reserved = low / 16 % 8;
      reserved_fits = omega arith;
      bits = as_front high low size kind behind high_is low_is (omega arith) (omega arith);
    }

-- what is read at the front of bytes that begin with a length and a type
record HasFront (size kind : ℕ) (bytes behind : List ℕ) : Type 0 where
  size_is : length_at_front bytes ≡ size
  kind_is : kind_at_front bytes ≡ kind
  rest_is : drop 2 bytes ≡ behind
  all : length bytes ≡ 2 + length behind

has_front-bits :
    (size reserved kind : ℕ) (behind : List ℕ) → size < 512 → reserved < 8 → kind < 16 →
    HasFront size kind (frame_front size reserved kind ++ behind) behind
has_front-bits size reserved kind behind size_fits reserved_fits kind_fits =
    record { size_is = omega arith; kind_is = omega arith; rest_is = refl; all = omega arith }

has_front :
    (size kind : ℕ) (bytes behind : List ℕ) → BeginsWith size kind bytes behind → HasFront size kind bytes behind
has_front size kind bytes behind h =
    subst (λ (b : List ℕ). HasFront size kind b behind) (sym h.bits)
    (has_front-bits size h.reserved kind behind h.size_fits h.reserved_fits h.kind_fits)

-- the walk ends where the list does
ends-walk : (bytes : List ℕ) → IsEnd bytes → ends_here bytes ≡ true
ends-walk bytes (few_left few) = ends-few bytes few
ends-walk bytes (zeros behind h) =
    let front = has_front 0 0 bytes behind h in ends-zeros bytes front.size_is front.kind_is
ends-walk bytes (too_long size kind behind h long) =
    let front = has_front size kind bytes behind h in
    ends-cut bytes (omega (arith, front.size_is, front.all))

-- and the list ends where the walk does
second_true : (x y : Bool) → x ≡ false → (x || y) ≡ true → y ≡ true
second_true true y not_first e = absurd (true≢false not_first)
second_true false y not_first e = e

zeros_at_front :
    (bytes : List ℕ) → (length_at_front bytes == 0) && (kind_at_front bytes == 0) ≡ true →
    BeginsWith (length_at_front bytes) (kind_at_front bytes) bytes (drop 2 bytes) → BeginsWith 0 0 bytes (drop 2 bytes)
zeros_at_front bytes none h =
    let tests = and_parts (length_at_front bytes == 0) (kind_at_front bytes == 0) none in
    subst (λ (n : ℕ). BeginsWith n 0 bytes (drop 2 bytes)) (eqb-true (length_at_front bytes) 0 tests.0)
    (subst (λ (n : ℕ). BeginsWith (length_at_front bytes) n bytes (drop 2 bytes)) (eqb-true (kind_at_front bytes) 0 tests.1) h)

ends-list : (bytes : List ℕ) → AreBytes bytes → ends_here bytes ≡ true → IsEnd bytes
ends-list bytes are_bytes ends =
    elim (cases_Bool (nat_lt (length bytes) 2)) [
      | inl few ↦ few_left (ltb-true (length bytes) 2 few)
      | inr enough ↦
          let h = begins bytes are_bytes (ltb-false (length bytes) 2 enough) in
          elim (cases_Bool ((length_at_front bytes == 0) && (kind_at_front bytes == 0))) [
            | inl none ↦ zeros (drop 2 bytes) (zeros_at_front bytes none h)
            | inr some ↦
                let long = second_true (nat_lt (length bytes) 2 || ((length_at_front bytes == 0) && (kind_at_front bytes == 0))) (nat_lt (length bytes) (2 + length_at_front bytes))
                (or_from _ _ enough some) ends in
                let short = ltb-true (length bytes) (2 + length_at_front bytes) long in
                too_long (length_at_front bytes) (kind_at_front bytes) (drop 2 bytes) h (omega (arith, short, length-drop 2 bytes, ltb-false (length bytes) 2 enough))
          ]
    ]

-- the frames that bytes spell are those that are read in them
pub frames_in-spelled : (frames : List InformationFrame) (bytes : List ℕ) → SpellsFrames frames bytes → frames_in bytes ≡ frames
frames_in-spelled [] bytes ends = frames_in-end bytes (ends-walk bytes ends)
frames_in-spelled (frame ∷ frames) bytes (behind, first, more) =
    let front = has_front (length frame.body) frame.kind bytes (frame.body ++ behind) first.begins in
    let long = length-append frame.body behind in
    let on : ends_here bytes ≡ false =
    goes_on bytes (omega (arith, front.size_is, front.all, long))
    (λ no_length no_kind. absurd (omega (arith, front.size_is, no_length, first.not_zeros (sym front.kind_is ∙ no_kind))))
    in
    let body : take (length_at_front bytes) (drop 2 bytes) ≡ frame.body =
    ap (take (length_at_front bytes)) front.rest_is ∙ take_at frame.body behind (length_at_front bytes) (sym front.size_is)
    in
    let left : behind_frame bytes ≡ behind =
    ap (drop (length_at_front bytes)) front.rest_is ∙ drop_at frame.body behind (length_at_front bytes) (sym front.size_is)
    in
    frames_in-more bytes on
    ∙ ap₂ (λ (f : InformationFrame) (b : List ℕ). f ∷ frames_in b)
    (ap₂ (λ (k : ℕ) (b : List ℕ). record { kind = k; body = b }) front.kind_is body) left
    ∙ ap (λ (fs : List InformationFrame). frame ∷ fs) (frames_in-spelled frames behind more)

-- the frame that is read at the front of bytes is spelled there
spells_front : (bytes : List ℕ) → AreBytes bytes → ends_here bytes ≡ false → SpellsFrame (frame_at_front bytes) bytes (behind_frame bytes)
spells_front bytes are_bytes on =
    let size = length_at_front bytes in
    let parts = goes_on-parts bytes on in
    let body = length-body bytes parts.whole in
    record {
      begins =
          subst (λ (n : ℕ). BeginsWith n (kind_at_front bytes) bytes (take size (drop 2 bytes) ++ drop size (drop 2 bytes))) (sym body)
          (subst (λ (b : List ℕ). BeginsWith size (kind_at_front bytes) bytes b) (sym (take-append-drop size (drop 2 bytes)))
          (begins bytes are_bytes parts.enough));
      not_zeros = λ no_kind. omega (arith, body, parts.not_zeros no_kind);
    }

spelled-frames_at_front :
    (most : ℕ) (bytes : List ℕ) → AreBytes bytes → length bytes ≤ 2 * most + 1 → SpellsFrames (frames_at_front most bytes) bytes
spelled-frames_at_front zero bytes are_bytes few = few_left (omega arith)
spelled-frames_at_front (suc most) bytes are_bytes few =
    elim (cases_Bool (ends_here bytes)) [
      | inl ends ↦ rw (at_end (suc most) bytes ends) (ends-list bytes are_bytes ends)
      | inr on ↦
          let shorter = length-behind_frame bytes in
          let left = All-drop IsByte (length_at_front bytes) (drop 2 bytes) (All-drop IsByte 2 bytes are_bytes) in
          rw (one_more most bytes on)
          (behind_frame bytes, spells_front bytes are_bytes on, spelled-frames_at_front most (behind_frame bytes) left (omega arith))
    ]

spelled-payload : (payload : List ℕ) → AreBytes payload → length payload ≡ 432 → SpellsFrames (information_frames payload) (drop 8 payload)
unfolding information_frames
spelled-payload payload are_bytes size =
    spelled-frames_at_front 212 (drop 8 payload) (All-drop IsByte 8 payload are_bytes) (omega (arith, length-drop 8 payload))

-- the information frames of a payload are those that it spells
pub frames_are_spelled :
    (payload : List ℕ) (frames : List InformationFrame) → AreBytes payload → length payload ≡ 432 →
    (information_frames payload ≡ frames) ↔ SpellsFrames frames (drop 8 payload)
frames_are_spelled payload frames are_bytes size = (
  λ same. subst (λ (fs : List InformationFrame). SpellsFrames fs (drop 8 payload)) same (spelled-payload payload are_bytes size),
  λ spelled. information_frames-frames_in payload size ∙ frames_in-spelled frames (drop 8 payload) spelled,
)

-- frames that are written one behind the other, with zeros behind them, are spelled
spelled-zeros : (count : ℕ) → IsEnd (replicate count 0)
spelled-zeros zero = few_left (omega arith)
spelled-zeros (suc zero) = few_left (omega arith)
spelled-zeros (suc (suc count)) =
    zeros (replicate count 0)
    (record { size_fits = omega arith; kind_fits = omega arith; reserved = 0; reserved_fits = omega arith; bits = refl })

spelled-written :
    (frames : List InformationFrame) (count : ℕ) → All FitsFrame frames →
    SpellsFrames frames (spelled_frames frames ++ replicate count 0)
spelled-written [] count fits = spelled-zeros count
spelled-written (frame ∷ frames) count fits =
    let first = All-head FitsFrame frame frames fits in
    let more = spelled_frames frames ++ replicate count 0 in
    let front = frame_front (length frame.body) 0 frame.kind in (
      more,
      record {
        begins = record {
          size_fits = omega (arith, first.body);
          kind_fits = omega (arith, first.kind);
          reserved = 0;
          reserved_fits = omega arith;
          bits =
              append_assoc (front ++ frame.body) (spelled_frames frames) (replicate count 0) ∙ append_assoc front frame.body more;
        };
        not_zeros = first.goes_on;
      },
      spelled-written frames count (All-tail FitsFrame frame frames fits),
    )

-- so they are read as they were written
pub frames_in-zeros : (count : ℕ) → frames_in (replicate count 0) ≡ []
frames_in-zeros count = frames_in-spelled [] (replicate count 0) (spelled-zeros count)

pub frames_in-written :
    (frames : List InformationFrame) (count : ℕ) → All FitsFrame frames →
    frames_in (spelled_frames frames ++ replicate count 0) ≡ frames
frames_in-written frames count fits =
    frames_in-spelled frames (spelled_frames frames ++ replicate count 0) (spelled-written frames count fits)
