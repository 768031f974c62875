-- The answer of the joiner is told by whether the arrival is stale.
use Rattle.std.proofs.Common.{◌++◌, map, ap, ◌∙◌}
use Rattle.std.specs.Option.{option_map}
use Rattle.picture_core.specs.Kept.{put_all}
use Rattle.segment_core.specs.Arrival.{whole_with}
use Rattle.segment_core.specs.Bound.{payload_made_whole}
use Rattle.segment_core.specs.Views.{arrival_view}
use Rattle.uplink_frame.specs.Views.{frame_view}
use Rattle.receiver_core.specs.Hearing.{unread_view}
use Rattle.receiver_core.specs.Steps.{entries_of_whole}
use Rattle.receiver_core.specs.UnreadParts.{part_in, taken_reasons}
use Rattle.receiver_core.proofs.hearing.take_alone.Goals as goal

pub returns-then-not-take_whole-clause-entries : goal.returns-then-not-take_whole-clause-entries
returns-then-not-take_whole-clause-entries c = λ before.
    ap (λ t. put_all (entries_of_whole c.args.table.now (option_map (whole_with (arrival_view c.args.arrived.now)) (payload_made_whole t)))
    c.args.picture.now.entries)
    (c.take_whole.ensures.stale c.if-not-take_whole.true before)

pub returns-clause-entries : goal.returns-clause-entries
returns-clause-entries c = λ before.
    c.in_ok-take_whole.ensures.entries
    ∙ ap (λ t. put_all (entries_of_whole c.args.table.now (option_map (whole_with (arrival_view c.args.arrived.now)) (payload_made_whole t)))
    c.args.picture.now.entries)
    (c.take_whole.ensures.whole c.if-not-take_whole.false before)

pub returns-clause-unread : goal.returns-clause-unread
returns-clause-unread c = λ before.
    c.in_ok-take_whole.ensures.unread
    ∙ ap (λ t. map unread_view c.args.unread.now.items ++ map (part_in (frame_view c.args.frame.now))
    (taken_reasons c.args.table.now (arrival_view c.args.arrived.now) t))
    (c.take_whole.ensures.whole c.if-not-take_whole.false before)
