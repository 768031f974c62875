use Rattle.std.proofs.Common.{refl}
use Rattle.fisb_app.specs.Past.{events, station_after}
use Rattle.fisb_app.proofs.Giving.{update-answered, update-same}
use Rattle.fisb_app.proofs.Grounds.{event-holds, ground-holds, text-event, radar-event, blank-event}
use Rattle.fisb_app.proofs.sending.Sending.give.Goals as goal

pub returns-in-Text-clause-given : goal.returns-in-Text-clause-given
returns-in-Text-clause-given g c = rw c.in-Text.is (λ party bytes acted h.
    update-answered g.G.Sender.stands c.args.self.now.table (station_after acted) (events acted) _ _ _ _ _ _ _
    (rw c.as_str.ensures.value at c.give_text.ensures) c.answer.ensures h.ground
    (event-holds c.histories_grow.ensures g.G.Sender.stands bytes acted _ _ c.args.self.now _ (text-event _ _ _) h refl refl refl))

pub returns-in-Radar-clause-given : goal.returns-in-Radar-clause-given
returns-in-Radar-clause-given g c = rw c.in-Radar.is (λ party bytes acted h.
    update-answered g.G.Sender.stands c.args.self.now.table (station_after acted) (events acted) _ _ _ _ _ _ _
    c.give_cells.ensures c.answer-in-Radar.ensures h.ground
    (event-holds c.histories_grow.ensures g.G.Sender.stands bytes acted _ _ c.args.self.now _ (radar-event _ _ _ _) h refl refl refl))

pub returns-in-Blank-clause-given : goal.returns-in-Blank-clause-given
returns-in-Blank-clause-given g c = rw c.in-Blank.is (λ party bytes acted h.
    update-answered g.G.Sender.stands c.args.self.now.table (station_after acted) (events acted) _ _ _ _ _ _ _
    (rw c.all.ensures at c.give_blanks.ensures) c.answer-in-Blank.ensures h.ground
    (event-holds c.histories_grow.ensures g.G.Sender.stands bytes acted _ _ c.args.self.now _ (blank-event _ _ _ _ _ _) h refl refl refl))

pub returns-in-Text-clause-same : goal.returns-in-Text-clause-same
returns-in-Text-clause-same g c = λ bytes acted h.
    update-same g.G.Sender.stands c.args.self.now.table (station_after acted) (events acted) _ _ _ _ _ _ _ c.give_text.ensures c.answer.ensures h.ground
    (ground-holds g.G.Sender.stands bytes acted c.args.self.now _ h)

pub returns-in-Radar-clause-same : goal.returns-in-Radar-clause-same
returns-in-Radar-clause-same g c = λ bytes acted h.
    update-same g.G.Sender.stands c.args.self.now.table (station_after acted) (events acted) _ _ _ _ _ _ _ c.give_cells.ensures c.answer-in-Radar.ensures h.ground
    (ground-holds g.G.Sender.stands bytes acted c.args.self.now _ h)

pub returns-in-Blank-clause-same : goal.returns-in-Blank-clause-same
returns-in-Blank-clause-same g c = λ bytes acted h.
    update-same g.G.Sender.stands c.args.self.now.table (station_after acted) (events acted) _ _ _ _ _ _ _ c.give_blanks.ensures c.answer-in-Blank.ensures h.ground
    (ground-holds g.G.Sender.stands bytes acted c.args.self.now _ h)
