-- The words that name a command.
use Rattle.std.specs.Prelude.{ℕ, ◌≤◌, if◌then◌else◌, List, [], ◌∷◌, Option, Some, None, codes}
use Rattle.std.specs.Str.{bytes_eq}
use Rattle.script_core.specs.Fields.{◌>>=◌, number_within}
use Rattle.fisb_app.specs.declared.command.Command.{Command}
use Rattle.fisb_app.specs.declared.command.Command.TheVariants.{Link, Ground, Receive, Gdl, Make}

abbrev pub single_command : List ℕ → Option Command
single_command word = if bytes_eq word (codes "link") then Some Link
    else (if bytes_eq word (codes "ground") then Some Ground
    else (if bytes_eq word (codes "receive") then Some Receive
    else (if bytes_eq word (codes "gdl") then Some Gdl else None)))

-- how many minutes from which seed: decimal digits without a sign and without a leading zero,
-- except 0 itself
abbrev pub make_of : List ℕ → List ℕ → Option Command
make_of count seed = do
  n ← number_within 1 1000 count
  s ← number_within 0 18446744073709551615 seed
  Some (Make n s)

abbrev pub make_command : List ℕ → List ℕ → List ℕ → Option Command
make_command word count seed = if bytes_eq word (codes "make") then make_of count seed else None

-- one of the other commands alone, or `make` with two numbers
abbrev pub command_named : List (List ℕ) → Option Command
command_named [] = None
command_named (word ∷ []) = single_command word
command_named (word ∷ count ∷ []) = None
command_named (word ∷ count ∷ seed ∷ []) = make_command word count seed
command_named (word ∷ count ∷ seed ∷ more ∷ others) = None

-- the minutes of a command are from 1 to 1,000
abbrev pub HasCount : Command → Type 0
HasCount Link = Unit {0}
HasCount Ground = Unit {0}
HasCount Receive = Unit {0}
HasCount Gdl = Unit {0}
HasCount (Make count seed) = (1 ≤ count) × (count ≤ 1000)
