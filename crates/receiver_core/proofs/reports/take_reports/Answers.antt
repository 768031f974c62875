use Rattle.std.proofs.Common.{◌≡◌, [], ◌++◌, map, arith, ap, ◌∙◌}
use Rattle.std.proofs.lemmas.Grind.{common_steps}
use Rattle.std.specs.Vec.Iter.{into_iter_items}
use Rattle.dlac_text.specs.Reports.{reports_of}
use Rattle.text_reports.specs.TextKey.{text_key}
use Rattle.uplink_frame.specs.Views.{frame_view}
use Rattle.receiver_core.specs.Hearing.{unread_view}
use Rattle.receiver_core.specs.UnreadParts.{part_in, report_reasons}
use Rattle.receiver_core.proofs.Puts.{all_told, map_flat}
use Rattle.receiver_core.proofs.reports.take_reports.Goals as goal

pub returns-clause-unread : goal.returns-clause-unread
returns-clause-unread c =
    let none : into_iter_items c.loop-report.report-iterator ≡ [] = grind (arith, common_steps) in
    all_told (λ text. map (part_in (frame_view c.args.frame.now)) (report_reasons (text_key c.args.table.now text)))
    (into_iter_items c.loop-report.report-iterator) _
    (map unread_view c.loop-report.unread.items) none c.loop-report.invariant.told
    ∙ ap (λ ts. map unread_view c.args.unread.now.items ++ ts)
    (map_flat (part_in (frame_view c.args.frame.now)) (λ text. report_reasons (text_key c.args.table.now text))
    (reports_of c.args.payload.now))
