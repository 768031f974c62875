-- What a clause reads of the sink that never fails.
use Rattle.std.specs.Prelude.{ℕ, ◌-◌, List, length, take}
use Rattle.fisb_wire.specs.declared.faithful.FaithfulSink.{FaithfulSink}

-- the bytes taken so far
abbrev pub bytes_taken : FaithfulSink → List ℕ
bytes_taken sink = take sink.used sink.room.now

-- how many bytes it can still take
abbrev pub room_left : FaithfulSink → ℕ
room_left sink = length sink.room.now - sink.used
