use Rattle.std.proofs.Common.{◌≡◌, false, sym, ◌∙◌}
use Rattle.uplink_frame.specs.Station.{same_station}
use Rattle.fisb_app.proofs.Grounds.{again-free, again-holds, changed-tried, first-stopped, same-tried, equal-same, same-back}
use Rattle.fisb_app.proofs.sending.Sending.name_station.Goals as goal

pub returns-then-eq-clause-named : goal.returns-then-eq-clause-named
returns-then-eq-clause-named g c = λ party bytes acted h.
    let told = c.stations_are_told.ensures in
    let same : c.args.named ≡ c.args.self.now.station = (told c.args.named c.args.self.now.station).0 (sym (equal-same c.args.named c.args.self.now.station) ∙ sym c.eq.ensures ∙ c.if-eq.true) in (
      again-free told g.G.Sender.stands bytes acted c.args.named c.args.self.now same h,
      again-holds told g.G.Sender.stands bytes acted c.args.named c.args.self.now same h,
    )

pub returns-in-Ok-clause-named : goal.returns-in-Ok-clause-named
returns-in-Ok-clause-named g c = λ party bytes acted h.
    let told = c.stations_are_told.ensures in
    let other : same_station c.args.self.now.station c.args.named ≡ false = same-back told c.args.named c.args.self.now.station (sym (equal-same c.args.named c.args.self.now.station) ∙ sym c.eq.ensures ∙ c.if-eq.false) in
    changed-tried told g.G.Sender.stands bytes acted c.args.named c.args.self.now c.change_to.new.self c.in-Ok.first c.change_to.result other h
    c.in-Ok.ensures c.change_to.ensures.changed c.change_to.ensures.stops

pub returns-in-Ok-clause-same : goal.returns-in-Ok-clause-same
returns-in-Ok-clause-same g c = λ bytes acted h.
    same-tried g.G.Sender.stands bytes acted c.args.self.now c.change_to.new.self c.change_to.result h c.change_to.ensures.same

pub returns-in-Err-clause-named : goal.returns-in-Err-clause-named
returns-in-Err-clause-named g c = λ party bytes acted h.
    let told = c.stations_are_told.ensures in
    let other : same_station c.args.self.now.station c.args.named ≡ false = same-back told c.args.named c.args.self.now.station (sym (equal-same c.args.named c.args.self.now.station) ∙ sym c.eq.ensures ∙ c.if-eq.false) in
    first-stopped g.G.Sender.stands bytes acted c.args.named c.args.self.now c.in-Err.stop other h c.in-Err.ensures
