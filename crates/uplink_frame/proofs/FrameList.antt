-- The list of information frames: one frame further, and where it ends.
use Rattle.std.proofs.Common.{◌≡◌, ℕ, zero, suc, ◌+◌, ◌-◌, ◌*◌, ◌/◌, ◌%◌, ◌<◌, ◌≤◌, true, false, ◌&&◌, ◌||◌, List, [], ◌∷◌, length, take, drop, get_or, nat_lt, ◌==◌, refl, sym, ap, ap₂, subst, ◌∙◌, inl, inr, arith}
use Rattle.std.specs.List.{All}
use Rattle.std.proofs.lemmas.List.{length-drop, length-take-le, take_rest}
use Rattle.std.proofs.lemmas.List.Elements.{All-nil, All-cons}
use Rattle.std.proofs.lemmas.Bool.{cases_Bool, cases_eq, lt-ltb, le-ltb, ltb-false, cond-true, cond-false, ne_eqb, eq-eqb, and_left, and_right, and_from, or_from, or_left, or_right, or_parts, true≢false}
use Rattle.bit_fields.specs.Bits.{field_at}
use Rattle.list_members.specs.Places.{take-by_place}
use Rattle.uplink_frame.specs.UplinkFrame.{InformationFrame, length_at_front, kind_at_front, ends_here, frame_at_front, behind_frame, frames_at_front, frames_in, information_frames, FitsFrame}

-- where the list ends
pub ends-few : (bytes : List ℕ) → length bytes < 2 → ends_here bytes ≡ true
ends-few bytes few = or_left _ _ (or_left _ _ (lt-ltb _ _ few))

pub ends-zeros :
    (bytes : List ℕ) → length_at_front bytes ≡ 0 → kind_at_front bytes ≡ 0 → ends_here bytes ≡ true
ends-zeros bytes no_length no_kind =
    or_left _ _ (or_right _ _ (and_from _ _ (eq-eqb _ _ no_length) (eq-eqb _ _ no_kind)))

pub ends-cut :
    (bytes : List ℕ) → length bytes < 2 + length_at_front bytes → ends_here bytes ≡ true
ends-cut bytes cut = or_right _ _ (lt-ltb _ _ cut)

-- where it goes on
pub goes_on :
    (bytes : List ℕ) → 2 + length_at_front bytes ≤ length bytes →
    (length_at_front bytes ≡ 0 → kind_at_front bytes ≡ 0 → ⊥) →
    ends_here bytes ≡ false
goes_on bytes whole not_zeros =
    let both : (length_at_front bytes == 0) && (kind_at_front bytes == 0) ≡ false =
    elim (cases_eq (length_at_front bytes) 0) [
      | inl none ↦ and_right _ _ (ne_eqb (kind_at_front bytes) 0 (not_zeros none))
      | inr some ↦ and_left _ _ (ne_eqb (length_at_front bytes) 0 some)
    ]
    in
    or_from _ _ (or_from _ _ (le-ltb (length bytes) 2 (omega arith)) both)
    (le-ltb (length bytes) (2 + length_at_front bytes) whole)

-- the list, where it ends and where it goes on
pub at_end :
    (most : ℕ) (bytes : List ℕ) → ends_here bytes ≡ true → frames_at_front most bytes ≡ []
at_end zero bytes ends = refl
at_end (suc most) bytes ends =
    cond-true (ends_here bytes) [] (frame_at_front bytes ∷ frames_at_front most (behind_frame bytes)) ends

pub one_more :
    (most : ℕ) (bytes : List ℕ) → ends_here bytes ≡ false →
    frames_at_front (suc most) bytes ≡ frame_at_front bytes ∷ frames_at_front most (behind_frame bytes)
one_more most bytes on =
    cond-false (ends_here bytes) [] (frame_at_front bytes ∷ frames_at_front most (behind_frame bytes)) on

pub length-behind_frame :
    (bytes : List ℕ) → length (behind_frame bytes) ≡ length bytes - 2 - length_at_front bytes
length-behind_frame bytes =
    length-drop (length_at_front bytes) (drop 2 bytes) ∙ ap (λ n. n - length_at_front bytes) (length-drop 2 bytes)

-- a bound of one frame for two bytes takes nothing away
enough :
    (most other : ℕ) (bytes : List ℕ) → length bytes ≤ 2 * most + 1 → length bytes ≤ 2 * other + 1 →
    frames_at_front most bytes ≡ frames_at_front other bytes
enough zero other bytes few more = sym (at_end other bytes (ends-few bytes (omega arith)))
enough (suc most) zero bytes few more = at_end (suc most) bytes (ends-few bytes (omega arith))
enough (suc most) (suc other) bytes few more =
    elim (cases_Bool (ends_here bytes)) [
      | inl ends ↦ at_end (suc most) bytes ends ∙ sym (at_end (suc other) bytes ends)
      | inr on ↦
          let shorter = length-behind_frame bytes in
          one_more most bytes on
          ∙ ap (λ (fs : List InformationFrame). frame_at_front bytes ∷ fs)
          (enough most other (behind_frame bytes) (omega arith) (omega arith))
          ∙ sym (one_more other bytes on)
    ]

pub frames_in-end : (bytes : List ℕ) → ends_here bytes ≡ true → frames_in bytes ≡ []
unfolding frames_in
frames_in-end bytes ends = at_end (length bytes) bytes ends

pub frames_in-more :
    (bytes : List ℕ) → ends_here bytes ≡ false →
    frames_in bytes ≡ frame_at_front bytes ∷ frames_in (behind_frame bytes)
unfolding frames_in
frames_in-more bytes on =
    let shorter = length-behind_frame bytes in
    enough (length bytes) (suc (length bytes)) bytes (omega arith) (omega arith) ∙ one_more (length bytes) bytes on
    ∙ ap (λ (fs : List InformationFrame). frame_at_front bytes ∷ fs)
    (enough (length bytes) (length (behind_frame bytes)) (behind_frame bytes) (omega arith) (omega arith))

-- the frames of a payload are those that its application data begin with
pub information_frames-frames_in :
    (payload : List ℕ) → length payload ≡ 432 → information_frames payload ≡ frames_in (drop 8 payload)
unfolding information_frames frames_in
information_frames-frames_in payload size =
    let left = length-drop 8 payload in
    let at : (most : ℕ) → 212 ≡ most → length (drop 8 payload) ≤ 2 * most + 1 →
    information_frames payload ≡ frames_in (drop 8 payload)
    = λ most e room.
    subst (λ (n : ℕ). information_frames payload ≡ frames_at_front n (drop 8 payload)) e refl
    ∙ enough most (length (drop 8 payload)) (drop 8 payload) room (omega arith)
    in
    at 212 refl (omega arith)

-- what holds of bytes where the list goes on
pub record GoesOn (bytes : List ℕ) : Type 0 where
  pub enough : 2 ≤ length bytes
  pub whole : 2 + length_at_front bytes ≤ length bytes
  pub not_zeros : kind_at_front bytes ≡ 0 → 0 < length_at_front bytes

pub goes_on-parts : (bytes : List ℕ) → ends_here bytes ≡ false → GoesOn bytes
goes_on-parts bytes on =
    let size = length_at_front bytes in
    let kind = kind_at_front bytes in
    let tests = or_parts (nat_lt (length bytes) 2 || ((size == 0) && (kind == 0))) (nat_lt (length bytes) (2 + size)) on in
    let both = or_parts (nat_lt (length bytes) 2) ((size == 0) && (kind == 0)) tests.0 in
    record {
      enough = ltb-false (length bytes) 2 both.0;
      whole = ltb-false (length bytes) (2 + size) tests.1;
      not_zeros = λ no_kind. elim (cases_eq size 0) [
        | inl none ↦ absurd (true≢false (sym (and_from _ _ (eq-eqb size 0 none) (eq-eqb kind 0 no_kind)) ∙ both.1))
        | inr some ↦ omega arith
      ];
    }

-- the body that is read has the length at the front
pub length-body : (bytes : List ℕ) → 2 + length_at_front bytes ≤ length bytes → length (take (length_at_front bytes) (drop 2 bytes)) ≡ length_at_front bytes
length-body bytes whole =
    let left = length-drop 2 bytes in length-take-le (length_at_front bytes) (drop 2 bytes) (omega arith)

-- each frame that is read fits
frame_fits :
    (bytes : List ℕ) → length bytes < 512 → ends_here bytes ≡ false → FitsFrame (frame_at_front bytes)
frame_fits bytes short on =
    let parts = goes_on-parts bytes on in
    let size = length-body bytes parts.whole in
    record {
      kind = omega arith;
      body = omega (arith, size, parts.whole);
      goes_on = λ no_kind. omega (arith, size, parts.not_zeros no_kind);
    }

pub All-frames_at_front :
    (most : ℕ) (bytes : List ℕ) → length bytes < 512 → All FitsFrame (frames_at_front most bytes)
All-frames_at_front zero bytes short = All-nil FitsFrame
All-frames_at_front (suc most) bytes short =
    elim (cases_Bool (ends_here bytes)) [
      | inl ends ↦ rw (at_end (suc most) bytes ends) (All-nil FitsFrame)
      | inr on ↦
          let shorter = length-behind_frame bytes in
          rw (one_more most bytes on)
          (All-cons FitsFrame (frame_at_front bytes) (frames_at_front most (behind_frame bytes))
          (frame_fits bytes short on) (All-frames_at_front most (behind_frame bytes) (omega arith)))
    ]

pub All-frames_in : (bytes : List ℕ) → length bytes < 512 → All FitsFrame (frames_in bytes)
unfolding frames_in
All-frames_in bytes short = All-frames_at_front (length bytes) bytes short

-- the length and the type in two bytes
length_of_two : (high low : ℕ) → high < 256 → low < 256 → field_at (high ∷ low ∷ []) 0 9 ≡ high * 2 + low / 128
length_of_two high low high_is low_is = omega arith

kind_of_two : (high low : ℕ) → field_at (high ∷ low ∷ []) 12 4 ≡ low % 16
kind_of_two high low = omega arith

pub length_at_front-two :
    (bytes : List ℕ) → 2 ≤ length bytes → get_or bytes 0 0 < 256 → get_or bytes 1 0 < 256 →
    length_at_front bytes ≡ get_or bytes 0 0 * 2 + get_or bytes 1 0 / 128
length_at_front-two bytes enough high low =
    ap (λ (two : List ℕ). field_at two 0 9) (take-by_place 2 bytes enough) ∙ length_of_two (get_or bytes 0 0) (get_or bytes 1 0) high low

pub kind_at_front-two : (bytes : List ℕ) → 2 ≤ length bytes → kind_at_front bytes ≡ get_or bytes 1 0 % 16
kind_at_front-two bytes enough =
    ap (λ (two : List ℕ). field_at two 12 4) (take-by_place 2 bytes enough) ∙ kind_of_two (get_or bytes 0 0) (get_or bytes 1 0)

-- the frame at the front of some bytes, in the parts that a reader cuts them into
pub frames_in-read :
    (left body behind : List ℕ) (size kind : ℕ) → 2 ≤ length left → size ≡ length_at_front left → kind ≡ kind_at_front left →
    body ≡ take size (take (length left - 2) (drop 2 left)) → behind ≡ drop size (take (length left - 2) (drop 2 left)) →
    size ≤ length (take (length left - 2) (drop 2 left)) → (size ≡ 0 → kind ≡ 0 → ⊥) →
    frames_in left ≡ record { kind = kind; body = body } ∷ frames_in behind
frames_in-read left body behind size kind enough size_is kind_is body_is behind_is whole not_zeros =
    let all = take_rest left 2 in
    let rest = length-drop 2 left in
    let on : ends_here left ≡ false =
    goes_on left (omega (arith, ap length all)) (λ no_length no_kind. not_zeros (size_is ∙ no_length) (kind_is ∙ no_kind))
    in
    let front : take (length_at_front left) (drop 2 left) ≡ body =
    ap₂ (λ (n : ℕ) (b : List ℕ). take n b) (sym size_is) (sym all) ∙ sym body_is
    in
    let back : behind_frame left ≡ behind = ap₂ (λ (n : ℕ) (b : List ℕ). drop n b) (sym size_is) (sym all) ∙ sym behind_is in
    frames_in-more left on
    ∙ ap₂ (λ (b more : List ℕ). record { kind = kind_at_front left; body = b } ∷ frames_in more) front back
    ∙ ap (λ (k : ℕ). record { kind = k; body = body } ∷ frames_in behind) (sym kind_is)
