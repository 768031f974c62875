use Rattle.std.proofs.lemmas.List.Elements.{All-from_get_or}
use Rattle.std.proofs.Common.{◌≡◌, ◌<◌, true, map, refl, sym, ap, rules, subst, ◌∙◌}
use Rattle.uplink_frame.specs.Station.{station_of}
use Rattle.uplink_frame.specs.UplinkFrame.{header_in, information_frames}
use Rattle.segment_core.specs.Store.{StandsFor as StandsForArrivals}
use Rattle.picture_core.specs.Kept.{live_entries, put_all}
use Rattle.receiver_core.specs.Hearing.{is_valid, unread_view}
use Rattle.receiver_core.specs.Laws.{arrivals_heard, entries_heard}
use Rattle.receiver_core.specs.Reception.{Reception, arrivals}
use Rattle.receiver_core.specs.StandsFor.{Held, StandsFor}
use Rattle.receiver_core.specs.Steps.{arrivals_after, entries_after}
use Rattle.receiver_core.specs.UnreadParts.{unread_after}
use Rattle.receiver_core.proofs.Hears.{hears, stands_after}
use Rattle.receiver_core.proofs.receiver.Receiver.take_payload.Goals as goal

pub returns-in-Ok-clause-heard : goal.returns-in-Ok-clause-heard
returns-in-Ok-clause-heard c = λ table past s.
    let moment = c.args.moment in
    let payload = c.args.payload.now in
    let heard : Reception = record { moment = moment; payload = payload } in
    let before : Held = record {
      table = c.self.inside.table;
      joiner = c.self.inside.joiner;
      picture =
          c.self.inside.picture;
    } in
    let after : Held = record { table = c.self.inside.table; joiner = c.keep_at.new.joiner; picture = c.keep_at.new.picture } in
    let inside : StandsFor table before past = subst (λ held. StandsFor table held past) (sym c.self.view_is) s in
    let frames = information_frames payload in
    let past_arrivals = arrivals table past in
    let station : c.station-station.result ≡ station_of (header_in payload)
    = c.station-station.ensures ∙ ap station_of c.read_header-header.ensures in
    let marked : c.mark.new.self.store ≡ before.joiner.store = ap (λ m. m.store) c.mark.ensures in
    let joined : StandsForArrivals c.mark.new.self.store past_arrivals = subst
    (λ st. StandsForArrivals st past_arrivals) (sym marked) inside.joins in
    let taken : StandsForArrivals c.take_frames.new.joiner.store (arrivals_heard table past heard)
    = subst (λ st. StandsForArrivals c.take_frames.new.joiner.store
    (arrivals_after table st moment past_arrivals frames)) station
    (subst (λ t. StandsForArrivals c.take_frames.new.joiner.store
    (arrivals_after t c.station-station.result moment past_arrivals frames)) inside.reads_by
    (c.in-Ok.ensures.joined past_arrivals joined)) in
    let put : c.take_frames.new.picture.entries ≡ put_all (entries_heard table past heard) before.picture.entries
    = c.in-Ok.ensures.entries past_arrivals joined
    ∙ ap (λ t. put_all (entries_after t c.station-station.result moment past_arrivals frames)
    c.mark-2.new.self.entries) inside.reads_by
    ∙ ap (λ st. put_all (entries_after table st moment past_arrivals frames) c.mark-2.new.self.entries) station
    ∙ ap (λ m. put_all (entries_heard table past heard) m.entries) c.mark-2.ensures in
    let told : map unread_view c.in-Ok.unread.items ≡ unread_after table
    (station_of (header_in payload)) moment past_arrivals frames
    = c.in-Ok.ensures.unread past_arrivals joined
    ∙ ap (λ t. unread_after t c.station-station.result moment past_arrivals frames) inside.reads_by
    ∙ ap (λ st. unread_after table st moment past_arrivals frames) station in
    let valid : is_valid payload ≡ true = ap (λ h. h.app_valid) (sym c.read_header-header.ensures) ∙ c.if-not-header.false in
    hears (StandsFor table after) table past moment payload c.args.corrected _ valid
    (stands_after c.keeps_reception.ensures.arrivals c.keeps_reception.ensures.entries table before after past moment
    payload inside
    record {
      moment_is = search rules;
      below = search rules;
      size = search rules;
      bytes = All-from_get_or (λ byte. byte < 256) payload 0 (λ i below. c.fits-payload i);
      valid = valid;
      same_table = refl;
      clock = c.keep_at.ensures.no_stale_segments.clock;
      joins = c.keep_at.ensures.joined (arrivals_heard table past heard) taken;
      entries = c.keep_at.ensures.entries ∙ ap (live_entries moment) put;
    })
    record {
      header = c.read_header-header.ensures;
      corrected = refl;
      unread = ap (map unread_view) c.of.ensures ∙ told;
    }

pub returns-in-Ok-clause-bounded : goal.returns-in-Ok-clause-bounded
returns-in-Ok-clause-bounded c = λ table heard stands.
    c.receivers_are_bounded.ensures table heard _ c.args.moment stands
    record {
      settled = search rules;
      segments = c.keep_at.ensures.no_stale_segments;
      entries = c.keep_at.ensures.no_ended_entries;
    }
