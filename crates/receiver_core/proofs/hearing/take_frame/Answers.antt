use Rattle.std.proofs.Common.{◌++◌, map, ap, refl, ◌∙◌}
use Rattle.uplink_frame.specs.Views.{frame_view}
use Rattle.picture_core.specs.Kept.{put_all}
use Rattle.receiver_core.specs.Hearing.{unread_view}
use Rattle.receiver_core.specs.StandsFor.{longest_lives}
use Rattle.receiver_core.specs.UnreadParts.{part_in}
use Rattle.receiver_core.proofs.Taking.{brings, joins, tells}
use Rattle.receiver_core.proofs.hearing.take_frame.Goals as goal

pub returns-clause-joined : goal.returns-clause-joined
returns-clause-joined c = λ before stands.
    joins (longest_lives c.args.table.now) c.args.joiner.now.store.longest c.args.moment before c.in-Ok.arrived _
    c.take.new.self.store
    c.requires.longest c.in-Ok.ensures.counted (c.in_ok-taken.ensures.stands before stands)

pub returns-clause-entries : goal.returns-clause-entries
returns-clause-entries c = λ before stands.
    c.in_ok-take_answer.ensures.entries
    ∙ ap (λ es. put_all es c.args.picture.now.entries)
    (brings c.answers_complete.ensures c.args.table.now (longest_lives c.args.table.now) c.args.joiner.now.store.longest c.args.moment before
    c.in-Ok.arrived _ c.in_ok-taken.taken
    c.requires.longest c.in-Ok.ensures.counted (c.in_ok-taken.ensures.answer before stands))

pub returns-clause-unread : goal.returns-clause-unread
returns-clause-unread c = λ before stands.
    c.in_ok-take_answer.ensures.unread
    ∙ ap (λ rs. map unread_view c.args.unread.now.items ++ map (part_in (frame_view c.args.frame.now)) rs)
    (tells c.answers_complete.ensures c.args.table.now (longest_lives c.args.table.now) c.args.joiner.now.store.longest c.args.moment before
    c.in-Ok.arrived _ c.in_ok-taken.taken
    c.requires.longest c.in-Ok.ensures.counted (c.in_ok-taken.ensures.answer before stands))

pub returns-then-is_none-clause-joined : goal.returns-then-is_none-clause-joined
returns-then-is_none-clause-joined c = λ before stands.
    joins (longest_lives c.args.table.now) c.args.joiner.now.store.longest c.args.moment before c.in-Ok.arrived _
    c.take_alone.new.joiner.store
    c.requires.longest c.in-Ok.ensures.counted (c.in_ok-take_alone.ensures.joined before stands)

pub returns-then-is_none-clause-entries : goal.returns-then-is_none-clause-entries
returns-then-is_none-clause-entries c = λ before stands.
    c.in_ok-take_alone.ensures.entries before
    ∙ ap (λ es. put_all es c.args.picture.now.entries)
    (brings c.answers_complete.ensures c.args.table.now (longest_lives c.args.table.now) c.args.joiner.now.store.longest c.args.moment before
    c.in-Ok.arrived _ _
    c.requires.longest c.in-Ok.ensures.counted refl)

pub returns-then-is_none-clause-unread : goal.returns-then-is_none-clause-unread
returns-then-is_none-clause-unread c = λ before stands.
    c.in_ok-take_alone.ensures.unread before
    ∙ ap (λ rs. map unread_view c.args.unread.now.items ++ map (part_in (frame_view c.args.frame.now)) rs)
    (tells c.answers_complete.ensures c.args.table.now (longest_lives c.args.table.now) c.args.joiner.now.store.longest c.args.moment before
    c.in-Ok.arrived _ _
    c.requires.longest c.in-Ok.ensures.counted refl)
