use Rattle.std.proofs.Common.{refl, ap}
use Rattle.radar_core.specs.declared.key.BlockKey.{BlockKey}
use Rattle.text_reports.specs.TextKey.{TextKey}
use Rattle.text_reports.specs.Views.{key_view}
use Rattle.ground_core.specs.NumberedKeys.{report_key}
use Rattle.ground_core.proofs.LatestKeys.{by_key, put_latest, with_key}
use Rattle.ground_core.proofs.newest.Newest.put_report.Goals as goal

pub returns-clause-ok : goal.returns-clause-ok
returns-clause-ok c = by_key _ (λ (k : BlockKey). refl) (λ (k : TextKey). put_latest (record { same = c.keys_are_ordered.ensures.same; agrees = c.keys_are_ordered.ensures.agrees }) c.in_ok-key.key (report_key c.args.key.now) k c.args.given.now _ _
    (ap key_view c.in_ok-key.ensures) (c.in-Ok.ensures.updates.0 (with_key c.in_ok-key.key k)))
