-- What a read into the ring leaves.
use Rattle.std.specs.Prelude.{◌≡◌, ℕ, ◌+◌, ◌<◌, ◌≤◌, ◌==◌, List, [], ◌∷◌, ◌++◌, length, Option}
use Rattle.std.specs.Prelude.{None, position}
use Rattle.std.specs.Io.KnownBytes.{Consumes, IsAtEnd}
use Rattle.fisb_wire.specs.Faults.{Rose}
use Rattle.run_core.specs.declared.input.Input.{Input}
use Rattle.run_core.specs.declared.input.Read.{Read}
use Rattle.run_core.specs.declared.input.Read.TheVariants.{Line, More, End, Failed, Full}
use Rattle.run_core.specs.Limits.{input_limit, ring_limit}
use Rattle.run_core.specs.Run.{SourceEnd}

-- the first newline
abbrev pub newline_in : List ℕ → Option ℕ
newline_in bytes = position (λ b. b == 10) bytes

-- what always holds of the ring and the count of bytes taken
pub record IsWithin (input : Input) : Type 0 where
  pub capacity : input.ring.capacity ≡ ring_limit
  pub items : length input.ring.items ≤ ring_limit
  pub held : length input.ring.items ≤ input.taken
  pub taken : input.taken ≤ input_limit

-- these bytes were read, at least one, and put after those in the ring
pub record HasGrown (before after : Input) (old new : SourceEnd) (piece : List ℕ) : Type 0 where
  pub some : 0 < length piece
  pub items : after.ring.items ≡ before.ring.items ++ piece
  pub taken : after.taken ≡ before.taken + length piece
  pub consumed : Consumes old.left new.left piece
  pub unfailed : new.reads ≡ old.reads

abbrev pub HasReadOn : Input → Input → SourceEnd → SourceEnd → Read → Type 0
HasReadOn before after old new Line = (piece : List ℕ) × HasGrown before after old new piece
HasReadOn before after old new More =
    (piece : List ℕ) × HasGrown before after old new piece × (newline_in piece ≡ None)
HasReadOn before after old new End = (after ≡ before) × Consumes old.left new.left []
    × IsAtEnd new.left × (new.reads ≡ old.reads)
HasReadOn before after old new Failed =
    (after ≡ before) × Consumes old.left new.left [] × Rose old.reads new.reads
HasReadOn before after old new Full = (after ≡ before) × (before.taken ≡ input_limit)
    × ((byte : ℕ) × Consumes old.left new.left (byte ∷ [])) × (new.reads ≡ old.reads)

-- a byte past the limit of the input was asked for
abbrev pub HasReadPast : SourceEnd → SourceEnd → Read → Type 0
HasReadPast old new Line = ⊥
HasReadPast old new More = ⊥
HasReadPast old new End =
    Consumes old.left new.left [] × IsAtEnd new.left × (new.reads ≡ old.reads)
HasReadPast old new Failed = Consumes old.left new.left [] × Rose old.reads new.reads
HasReadPast old new Full =
    ((byte : ℕ) × Consumes old.left new.left (byte ∷ [])) × (new.reads ≡ old.reads)
