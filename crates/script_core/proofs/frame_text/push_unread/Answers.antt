use Rattle.std.proofs.Common.{string_bytes}
use Rattle.receiver_core.specs.Hearing.{unread_view}
use Rattle.receiver_core.specs.declared.unread.UnreadReason.TheVariants.{Kind}
use Rattle.script_core.specs.Printed.{unread_text}
use Rattle.script_core.proofs.PrintLists.{pieces_more}
use Rattle.script_core.proofs.frame_text.push_unread.Goals as goal

pub loop-part-preserved : goal.loop-part-preserved
loop-part-preserved c =
    pieces_more (string_bytes c.args.text.now) unread_text unread_view c.args.parts.now c.loop-part.part-index (record { reason = Kind; kind = 0; product = 0; length = 0 })
    c.loop-part-test.true c.loop-part.invariant c.in_ok-push_str.ensures.bytes c.as_str.ensures.value c.in_ok-unread_line.ensures
