use Rattle.std.proofs.Common.{◌≡◌, ◌++◌, map, flat_map}
use Rattle.std.specs.Vec.Iter.{into_iter_items}
use Rattle.dlac_text.specs.Reports.{reports_of}
use Rattle.text_reports.specs.TextKey.{text_key}
use Rattle.uplink_frame.specs.Views.{frame_view}
use Rattle.picture_core.specs.Contents.{report_entries}
use Rattle.picture_core.specs.Kept.{put_all}
use Rattle.receiver_core.specs.Hearing.{unread_view}
use Rattle.receiver_core.specs.UnreadParts.{part_in, report_reasons}
use Rattle.receiver_core.proofs.reports.take_reports.Given as goal

-- what is put and told so far, with that of the reports that are left, is that of all
abbrev pub invariant-loop-report : goal.invariant-loop-report
invariant-loop-report l = record {
  entries : put_all (flat_map (report_entries l.table l.version) (reports_of l.payload)) l.fn.picture.entries
      ≡ put_all (flat_map (report_entries l.table l.version) (into_iter_items l.report-iterator)) l.picture.entries;
  told : map unread_view l.fn.unread.items
      ++ flat_map (λ text. map (part_in (frame_view l.frame)) (report_reasons (text_key l.table text))) (reports_of l.payload)
      ≡ map unread_view l.unread.items
      ++ flat_map (λ text. map (part_in (frame_view l.frame)) (report_reasons (text_key l.table text)))
      (into_iter_items l.report-iterator);
  mark : l.picture.mark ≡ l.fn.picture.mark;
}
