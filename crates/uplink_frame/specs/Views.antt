-- The code's frames, as the records of the definitions.
use Rattle.uplink_frame.specs.declared.walk.InfoFrame.{InfoFrame}
use Rattle.uplink_frame.specs.UplinkFrame.{InformationFrame}

abbrev pub frame_view : InfoFrame → InformationFrame
frame_view f = record { kind = f.kind; body = f.body.now }
