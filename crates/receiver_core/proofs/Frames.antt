-- Frames that are taken one after another.
use Rattle.std.proofs.Common.{◌≡◌, ℕ, zero, suc, ◌≤◌, Bool, true, false, cond, List, [], ◌∷◌, ◌++◌, length, take, drop, map, sym, ap, subst, ◌∙◌, arith}
use Rattle.std.proofs.lemmas.List.{append-nil, length-take, length-drop}
use Rattle.life_table.specs.LifeTable.{LifeTable}
use Rattle.uplink_frame.specs.declared.station.StationId.{StationId}
use Rattle.uplink_frame.specs.UplinkFrame.{InformationFrame, ends_here, frame_at_front, behind_frame, frames_at_front, information_frames, length_at_front}
use Rattle.list_members.specs.Places.{append_on}
use Rattle.segment_core.specs.Arrival.{Arrival}
use Rattle.segment_core.specs.Store.{StandsFor, Store}
use Rattle.picture_core.specs.Entry.{Entry}
use Rattle.picture_core.specs.Kept.{put_all}
use Rattle.receiver_core.specs.Reception.{arrival_in}
use Rattle.receiver_core.specs.Steps.{arrivals_after, arrived_with, entries_after, frame_entries}
use Rattle.receiver_core.specs.UnreadParts.{UnreadPart, frame_reasons, part_in, unread_after}
use Rattle.receiver_core.proofs.Puts.{put_one_more}

-- what is held after the frames before those that are left; with the frames that are left it is what all frames bring
pub record HasTakenFrames (table : LifeTable) (station : StationId) (moment : ℕ) (before : List Arrival) (all : List InformationFrame)
    (first : List Entry) (left : List InformationFrame) (store : Store) (kept : List Entry)
    (told : List UnreadPart) : Type 0 where
  pub now : List Arrival
  pub stands : StandsFor store now
  pub joined : arrivals_after table station moment before all ≡ arrivals_after table station moment now left
  pub entries : put_all (entries_after table station moment before all) first ≡ put_all
      (entries_after table station moment now left) kept
  pub unread : unread_after table station moment before all ≡ told ++ unread_after table station moment now left

pub taken_none : (table : LifeTable) (station : StationId) (moment : ℕ) (before : List Arrival)
    (all : List InformationFrame) (first : List Entry)
    (left : List InformationFrame) (store : Store) (told : List UnreadPart)
    → left ≡ all → told ≡ [] → StandsFor store before → HasTakenFrames table station moment before all first left store first told
taken_none table station moment before all first left store told same none stands = record {
  now = before;
  stands = stands;
  joined = ap (arrivals_after table station moment before) (sym same);
  entries = ap (λ fs. put_all (entries_after table station moment before fs) first) (sym same);
  unread = ap (unread_after table station moment before) (sym same) ∙ ap
      (λ ts. ts ++ unread_after table station moment before left) (sym none);
}

pub take_one_more : (table : LifeTable) (station : StationId) (moment : ℕ) (before : List Arrival)
    (all : List InformationFrame) (first : List Entry)
    (frame : InformationFrame) (left : List InformationFrame) (store store' : Store) (kept kept' : List Entry)
    (told told' : List UnreadPart)
    → (h : HasTakenFrames table station moment before all first (frame ∷ left) store kept told)
    → StandsFor store' (arrived_with h.now (arrival_in table station moment frame))
    → kept' ≡ put_all (frame_entries table h.now (arrival_in table station moment frame)) kept
    → told' ≡ told ++ map (part_in frame) (frame_reasons table h.now (arrival_in table station moment frame))
    → HasTakenFrames table station moment before all first left store' kept' told'
take_one_more table station moment before all first frame left store store' kept kept' told told' h stands put tell =
    let read = arrival_in table station moment frame in
    record {
      now = arrived_with h.now read;
      stands = stands;
      joined = h.joined;
      entries = put_one_more (frame_entries table h.now read)
          (entries_after table station moment (arrived_with h.now read) left) _ kept kept' h.entries put;
      unread = append_on told (map (part_in frame) (frame_reasons table h.now read))
          (unread_after table station moment (arrived_with h.now read) left) _ told' h.unread tell;
    }

-- all of it, where no frame is left
pub record HasTakenAll (table : LifeTable) (station : StationId) (moment : ℕ) (before : List Arrival)
    (all : List InformationFrame)
    (first : List Entry) (store : Store) (kept : List Entry) (told : List UnreadPart) : Type 0 where
  pub stands : StandsFor store (arrivals_after table station moment before all)
  pub entries : kept ≡ put_all (entries_after table station moment before all) first
  pub unread : told ≡ unread_after table station moment before all

pub taken_all : (table : LifeTable) (station : StationId) (moment : ℕ) (before : List Arrival)
    (all : List InformationFrame) (first : List Entry)
    (left : List InformationFrame) (store : Store) (kept : List Entry) (told : List UnreadPart)
    → left ≡ [] → HasTakenFrames table station moment before all first left store kept told
    → HasTakenAll table station moment before all first store kept told
taken_all table station moment before all first left store kept told none h = record {
  stands = subst (StandsFor store) (sym (h.joined ∙ ap (arrivals_after table station moment h.now) none)) h.stands;
  entries = sym (h.entries ∙ ap (λ fs. put_all (entries_after table station moment h.now fs) kept) none);
  unread = sym (h.unread ∙ ap (λ fs. told ++ unread_after table station moment h.now fs) none ∙ append-nil told);
}

-- bodies of so many bytes at most
abbrev pub AreShort : ℕ → List InformationFrame → Type 0
AreShort most [] = Unit {0}
AreShort most (frame ∷ more) = (length frame.body ≤ most) × AreShort most more

short_or_none : (most : ℕ) (b : Bool) (frame : InformationFrame) (more : List InformationFrame)
    → length frame.body ≤ most → AreShort most more
    → AreShort most (cond b [] (frame ∷ more))
short_or_none most true frame more body rest = tt
short_or_none most false frame more body rest = (body, rest)

short_part : (n m most : ℕ) (bytes : List ℕ) → length bytes ≤ most → length (take n (drop m bytes)) ≤ most
short_part n m most bytes few = omega (arith, length-take n (drop m bytes), length-drop m bytes)

short_behind : (n m most : ℕ) (bytes : List ℕ) → length bytes ≤ most → length (drop n (drop m bytes)) ≤ most
short_behind n m most bytes few = omega (arith, length-drop n (drop m bytes), length-drop m bytes)

short_front : (count most : ℕ) (bytes : List ℕ) → length bytes ≤ most → AreShort most (frames_at_front count bytes)
short_front zero most bytes few = tt
short_front (suc count) most bytes few =
    short_or_none most (ends_here bytes) (frame_at_front bytes) (frames_at_front count (behind_frame bytes))
    (short_part (length_at_front bytes) 2 most bytes few)
    (short_front count most (behind_frame bytes) (short_behind (length_at_front bytes) 2 most bytes few))

pub short_frames : (payload : List ℕ) → length payload ≡ 432 → AreShort 424 (information_frames payload)
unfolding information_frames
short_frames payload size = short_front 212 424 (drop 8 payload) (omega (arith, length-drop 8 payload))
