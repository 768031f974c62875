use Rattle.std.proofs.Common.{◌≡◌, ◌<◌, ◌≤◌, if◌then◌else◌, Some, None, option_map, refl, sym, ap, ◌∙◌, arith}
use Rattle.std.specs.BTreeMap.{get_by}
use Rattle.std.proofs.lemmas.Bool.{le-ltb, lt-ltb}
use Rattle.radar_core.specs.declared.key.BlockKey.{BlockKey}
use Rattle.text_reports.specs.TextKey.{TextKey}
use Rattle.picture_core.specs.Key.{text_report}
use Rattle.ground_core.specs.NumberedKeys.{report_key, order_among}
use Rattle.ground_core.specs.Piece.{while_living}
use Rattle.ground_core.specs.Views.{latest_at, given_view}
use Rattle.ground_core.proofs.LatestKeys.{by_key, removed_latest, living_latest, with_key}
use Rattle.ground_core.proofs.newest.Newest.forget_report.Goals as goal

pub returns-then-given-seconds : goal.returns-then-given-seconds
returns-then-given-seconds c =
    let ended : c.in-Some.given.until ≤ c.args.moment = omega (arith, c.if-given-seconds.true, c.seconds.ensures.value) in
    let over : while_living c.args.moment (latest_at c.args.self.now (text_report (report_key c.args.key.now))) ≡ None
    = ap (while_living c.args.moment) (sym c.of.ensures ∙ ap (option_map given_view) c.in-Some.is)
    ∙ ap (λ b. if b then Some (given_view c.in-Some.given) else None) (le-ltb c.args.moment c.in-Some.given.until ended) in
    by_key _ (λ (k : BlockKey). refl) (λ (k : TextKey). removed_latest (record { same = c.keys_are_ordered.ensures.same; agrees = c.keys_are_ordered.ensures.agrees }) c.args.key.now k c.args.moment (λ q. get_by (order_among q) c.args.self.now.reports) _
    over (c.remove.ensures.updates.0 (with_key c.args.key.now k)))

pub returns-else-given-seconds : goal.returns-else-given-seconds
returns-else-given-seconds c =
    let lives : c.args.moment < c.in-Some.given.until = omega (arith, c.if-given-seconds.false, c.seconds.ensures.value) in
    let found = sym c.of.ensures ∙ ap (option_map given_view) c.in-Some.is in
    let stays : while_living c.args.moment (latest_at c.args.self.now (text_report (report_key c.args.key.now))) ≡ latest_at c.args.self.now (text_report (report_key c.args.key.now))
    = ap (while_living c.args.moment) found ∙ ap (λ b. if b then Some (given_view c.in-Some.given) else None) (lt-ltb c.args.moment c.in-Some.given.until lives) ∙ sym found in
    by_key _ (λ (k : BlockKey). refl) (λ (k : TextKey). living_latest (record { same = c.keys_are_ordered.ensures.same; agrees = c.keys_are_ordered.ensures.agrees }) (report_key c.args.key.now) k c.args.moment (λ q. latest_at c.args.self.now (text_report q)) stays)
