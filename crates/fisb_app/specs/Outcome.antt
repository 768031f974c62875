-- The text of what was done for a line, where it has no bytes of a frame.
use Rattle.std.specs.Prelude.{ℕ, false, List, [], map}
use Rattle.picture_core.specs.Views.{entry_view}
use Rattle.receiver_core.specs.Hearing.{unread_view}
use Rattle.script_core.specs.Printed.{sent_line, heard_lines, lost_line, noapp_line, picture_text}
use Rattle.fisb_app.specs.declared.outcome.Event.{Event}
use Rattle.fisb_app.specs.declared.outcome.Event.TheVariants.{Nothing, Sent, Heard, Lost}
use Rattle.fisb_app.specs.declared.outcome.Event.TheVariants.{NoApplication, Picture}

abbrev pub event_text : Event → List ℕ
event_text Nothing = []
event_text (Sent index moment slot bodies used) = sent_line index
    (record { moment = moment; slot = slot; bodies = bodies; used = used; air = [] }) false
event_text (Heard moment heard) =
    heard_lines moment heard.header heard.corrected (map unread_view heard.unread)
event_text (Lost moment block) = lost_line moment block
event_text (NoApplication moment) = noapp_line moment
event_text (Picture moment entries) = picture_text moment (map entry_view entries)
