-- What was heard of a broadcast was heard of it with one event more.
use Rattle.std.proofs.Common.{◌≡◌, ℕ, zero, suc, ◌≤◌, ◌+◌, List, [], ◌∷◌, ◌++◌, Option, Some, None, slice_get, refl, sym, ap, ap₂, subst, ◌∙◌}
use Rattle.ground_core.specs.Airing.{Frame}
use Rattle.ground_core.specs.Broadcast.{history_of, frames_of_event, frames}
use Rattle.receiver_core.specs.Reception.{Reception}
use Rattle.fisb_link.specs.Hearing.{Hearing, IsInTime, AreHeard, payload_sent, receptions_of}
use Rattle.fisb_link.specs.PicturesAgree.{HearingsStay}

-- the frame of a hearing was sent, in time
pub in_time : (late : ℕ) (moment : ℕ) (found : Option Frame) → IsInTime late found moment
    → (frame : Frame) × (found ≡ Some frame) × (frame.moment ≤ moment) ×
    (moment ≤ frame.moment + late)
in_time late moment None is = absurd is
in_time late moment (Some frame) is = (frame, refl, is.0, is.1)

got_longer : (xs ys : List Frame) (i : ℕ) (x : Frame) → slice_get xs i ≡ Some x
    → slice_get (xs ++ ys) i ≡ Some x
got_longer [] ys i x e = absurd (cc)
got_longer (y ∷ xs) ys zero x e = e
got_longer (y ∷ xs) ys (suc i) x e = got_longer xs ys i x e

-- a frame that was heard keeps its number
same_frame : (late : ℕ) (xs ys : List Frame) (h : Hearing)
    → IsInTime late (slice_get xs h.frame) h.moment
    → slice_get (xs ++ ys) h.frame ≡ slice_get xs h.frame
same_frame late xs ys h is =
    let found = in_time late h.moment (slice_get xs h.frame) is in
    got_longer xs ys h.frame found.0 found.1 ∙ sym found.1

heard-longer : (late : ℕ) (xs ys : List Frame) (heard : List Hearing) → AreHeard late xs heard
    → AreHeard late (xs ++ ys) heard
heard-longer late xs ys [] are = tt
heard-longer late xs ys (h ∷ past) are = (
  subst (λ (o : Option Frame). IsInTime late o h.moment)
      (sym (same_frame late xs ys h are.0)) are.0,
  are.1,
  are.2,
  heard-longer late xs ys past are.3,
)

received-longer : (late : ℕ) (xs ys : List Frame) (heard : List Hearing) → AreHeard late xs heard
    → receptions_of (xs ++ ys) heard ≡ receptions_of xs heard
received-longer late xs ys [] are = refl
received-longer late xs ys (h ∷ past) are =
    ap₂ (λ (r : Reception) (rs : List Reception). r ∷ rs)
    (ap (λ (o : Option Frame). record { moment = h.moment; payload = payload_sent o })
    (same_frame late xs ys h are.0))
    (received-longer late xs ys past are.3)

pub hearings-stay : HearingsStay
hearings-stay table b past heard are =
    let sent = frames table past in
    let new = frames_of_event table b.station (history_of b.station past) b.event in
    record {
      still_heard = heard-longer table.late sent new heard are;
      received = received-longer table.late sent new heard are;
    }
