use Rattle.std.proofs.Common.{◌≡◌, List, map}
use Rattle.uplink_frame.specs.UplinkFrame.{information_frames}
use Rattle.segment_core.specs.Arrival.{Arrival}
use Rattle.segment_core.specs.Store.{IsNotBefore, StandsFor}
use Rattle.receiver_core.specs.Hearing.{unread_view}
use Rattle.receiver_core.proofs.Frames.{AreShort, HasTakenFrames}
use Rattle.receiver_core.proofs.hearing.take_frames.Given as goal

-- what is taken so far, with the frames that are left, is what all frames bring
abbrev pub invariant-loop-frame : goal.invariant-loop-frame
invariant-loop-frame l = record {
  taken : (before : List Arrival) → StandsFor l.fn.joiner.store before
      → HasTakenFrames l.table l.station l.moment before (information_frames l.payload) l.fn.picture.entries
      l.frame-iterator l.joiner.store l.picture.entries (map unread_view l.unread.items);
  short : AreShort 424 l.frame-iterator;
  clock : IsNotBefore l.joiner.store.clock l.moment;
  longest : l.joiner.store.longest ≡ l.fn.joiner.store.longest;
  joiner_mark : l.joiner.mark ≡ l.fn.joiner.mark;
  picture_mark : l.picture.mark ≡ l.fn.picture.mark;
}
