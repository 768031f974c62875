-- The text of what was done for a line, where it has the bytes of a frame.
use Rattle.std.specs.Prelude.{ℕ, true, List, []}
use Rattle.uplink_weave.specs.Functions.{payload_in}
use Rattle.script_core.specs.Printed.{sent_line}
use Rattle.fisb_app.specs.declared.air_outcome.AirEvent.{AirEvent}
use Rattle.fisb_app.specs.declared.air_outcome.AirEvent.TheVariants.{Nothing, Sent, Relayed}
use Rattle.fisb_app.specs.Output.{display_bytes}

abbrev pub air_event_text : AirEvent → List ℕ
air_event_text Nothing = []
air_event_text (Sent index frame) = sent_line index frame true
air_event_text (Relayed air) = display_bytes (payload_in air)
