-- What a clause reads of a source over a standard reader, and of a sink over a standard writer.
use Rattle.std.specs.Prelude.{ℕ}
use Rattle.fisb_wire.specs.declared.standard.StdSource.{StdSource}
use Rattle.fisb_wire.specs.declared.standard.StdSink.{StdSink}

-- the reader
abbrev pub reader_of : {R : Type 0} → StdSource R → R
reader_of source = source.inner

-- how many reads failed
abbrev pub failed_reads : {R : Type 0} → StdSource R → ℕ
failed_reads source = source.failed

-- the writer
abbrev pub writer_of : {W : Type 0} → StdSink W → W
writer_of sink = sink.inner

-- how many writes failed
abbrev pub failed_writes : {W : Type 0} → StdSink W → ℕ
failed_writes sink = sink.failed
