-- The limits of an input.
use Rattle.std.specs.Prelude.{ℕ}

-- the most bytes of an input that are acted on
abbrev pub input_limit : ℕ
input_limit = 67108864

-- the most bytes of a line after the table
abbrev pub line_limit : ℕ
line_limit = 32768

-- the most bytes of a table
abbrev pub table_limit : ℕ
table_limit = 65536

-- the most bytes that are read and not yet acted on: those of a table, and the line that ends it
-- with its newline or one byte more
abbrev pub ring_limit : ℕ
ring_limit = 65541
