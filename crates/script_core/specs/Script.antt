-- What a line of a script says.
use Rattle.std.specs.Prelude.{ℕ, Bool, List}
use Rattle.radar_core.specs.declared.key.BlockKey.{BlockKey}
use Rattle.uplink_frame.specs.declared.station.StationId.{StationId}

pub data Line : Type 0 where
  empty : Line
  station : (named : StationId) → Line
  -- the report is the text that is meant, as UTF-8 bytes
  text : (moment version : ℕ) (report : List ℕ) → Line
  -- the cells of a block
  radar : (moment version : ℕ) (key : BlockKey) (cells : List ℕ) → Line
  -- the numbers of blocks of which each cell is 0
  blank : (moment version product scale : ℕ) (south : Bool) (numbers : List ℕ) → Line
  turn : (moment slot : ℕ) → Line
  -- the wrong bytes are those that are heard at some places of the frame: each place, and its byte
  hear : (moment frame : ℕ) (wrong : List (ℕ × ℕ)) → Line
  -- the bytes of a frame as they are heard
  rx : (moment : ℕ) (air : List ℕ) → Line
  show : (moment : ℕ) → Line
