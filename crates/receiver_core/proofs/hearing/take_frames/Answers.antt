use Rattle.std.proofs.Common.{◌≡◌, ◌∷◌, map, rules, sym, ap, subst, ◌∙◌}
use Rattle.uplink_frame.specs.UplinkFrame.{information_frames}
use Rattle.uplink_frame.specs.Views.{frame_view}
use Rattle.receiver_core.specs.Hearing.{unread_view}
use Rattle.receiver_core.proofs.Frames.{AreShort, HasTakenFrames, short_frames, take_one_more, taken_all, taken_none}
use Rattle.receiver_core.proofs.hearing.take_frames.Goals as goal

pub loop-frame-init : goal.loop-frame-init
loop-frame-init c =
    let frames : c.into_iter-frame-iterator.result ≡ information_frames c.args.payload.now = search rules in
    record {
      taken = λ before stands. taken_none c.args.table.now c.args.station c.args.moment before
          (information_frames c.args.payload.now)
          c.args.picture.now.entries c.into_iter-frame-iterator.result c.args.joiner.now.store
          (map unread_view c.new-unread.result.items)
          frames (ap (map unread_view) c.new-unread.ensures.items) stands;
      short = subst (AreShort 424) (sym frames) (short_frames c.args.payload.now (search rules));
      clock = search rules;
      longest = search rules;
      joiner_mark = search rules;
      picture_mark = search rules;
    }

pub loop-frame-preserved : goal.loop-frame-preserved
loop-frame-preserved c =
    let first : c.loop-frame.frame-iterator ≡ frame_view c.in-Some.frame ∷ c.next.new.self = c.in-Some.ensures.steps in
    let short : AreShort 424 (frame_view c.in-Some.frame ∷ c.next.new.self) = subst
    (AreShort 424) first c.loop-frame.invariant.short in
    record {
      taken = λ before stands.
          let h : HasTakenFrames c.args.table.now c.args.station c.args.moment before
          (information_frames c.args.payload.now) c.args.picture.now.entries
          (frame_view c.in-Some.frame ∷ c.next.new.self) c.loop-frame.joiner.store c.loop-frame.picture.entries
          (map unread_view c.loop-frame.unread.items)
          = subst (λ fs. HasTakenFrames c.args.table.now c.args.station c.args.moment before
          (information_frames c.args.payload.now) c.args.picture.now.entries
          fs c.loop-frame.joiner.store c.loop-frame.picture.entries (map unread_view c.loop-frame.unread.items)) first
          (c.loop-frame.invariant.taken before stands) in
          take_one_more c.args.table.now c.args.station c.args.moment before
          (information_frames c.args.payload.now) c.args.picture.now.entries
          (frame_view c.in-Some.frame) c.next.new.self c.loop-frame.joiner.store c.take_frame.new.joiner.store
          c.loop-frame.picture.entries c.take_frame.new.picture.entries (map unread_view c.loop-frame.unread.items)
          (map unread_view c.take_frame.new.unread.items)
          h (c.in_ok-take_frame.ensures.joined h.now h.stands) (c.in_ok-take_frame.ensures.entries h.now h.stands)
          (c.in_ok-take_frame.ensures.unread h.now h.stands);
      short = short.1;
      clock = c.in_ok-take_frame.ensures.clock;
      longest = c.in_ok-take_frame.ensures.longest ∙ c.loop-frame.invariant.longest;
      joiner_mark = c.in_ok-take_frame.ensures.joiner_mark ∙ c.loop-frame.invariant.joiner_mark;
      picture_mark = c.in_ok-take_frame.ensures.picture_mark ∙ c.loop-frame.invariant.picture_mark;
    }

pub returns-clause-joined : goal.returns-clause-joined
returns-clause-joined c = λ before stands.
    (taken_all c.args.table.now c.args.station c.args.moment before
    (information_frames c.args.payload.now) c.args.picture.now.entries
    c.loop-frame.frame-iterator c.loop-frame.joiner.store c.loop-frame.picture.entries
    (map unread_view c.loop-frame.unread.items)
    c.in-None.ensures.steps.0 (c.loop-frame.invariant.taken before stands)).stands

pub returns-clause-entries : goal.returns-clause-entries
returns-clause-entries c = λ before stands.
    (taken_all c.args.table.now c.args.station c.args.moment before
    (information_frames c.args.payload.now) c.args.picture.now.entries
    c.loop-frame.frame-iterator c.loop-frame.joiner.store c.loop-frame.picture.entries
    (map unread_view c.loop-frame.unread.items)
    c.in-None.ensures.steps.0 (c.loop-frame.invariant.taken before stands)).entries

pub returns-clause-unread : goal.returns-clause-unread
returns-clause-unread c = λ before stands.
    (taken_all c.args.table.now c.args.station c.args.moment before
    (information_frames c.args.payload.now) c.args.picture.now.entries
    c.loop-frame.frame-iterator c.loop-frame.joiner.store c.loop-frame.picture.entries
    (map unread_view c.loop-frame.unread.items)
    c.in-None.ensures.steps.0 (c.loop-frame.invariant.taken before stands)).unread
