-- Which lines of an input are acted on, what they give, and the first fault.
use Rattle.std.specs.Prelude.{ℕ, ◌+◌, Bool, nat_lt, if◌then◌else◌, List, [], ◌∷◌, ◌++◌, length}
use Rattle.std.specs.Prelude.{take, Option, Some, None, Result, Ok, Err}
use Rattle.refusal_core.specs.declared.reason.Reason.{Reason}
use Rattle.refusal_core.specs.declared.reason.Reason.TheVariants.{LineLong}
use Rattle.run_core.specs.Limits.{line_limit}
use Rattle.run_core.specs.Work.{Work, Fault}
use Rattle.run_core.specs.Lines.{lines_in, part_line}
use Rattle.run_core.specs.Opening.{Opening, opening_at, unopened_fault}

-- what lines mean after those acted on before
abbrev pub Telling : Type 0
Telling = List (List ℕ) → List ℕ → Result (List ℕ) Reason

-- the length of a line is looked at before its meaning, in every command
abbrev pub reading : Telling → List (List ℕ) → List ℕ → Result (List ℕ) Reason
reading told past line = if nat_lt line_limit (length line) then Err LineLong else told past line

-- a line that has not ended is at fault where it is too long already
abbrev pub part_fault : ℕ → ℕ → List ℕ → Option Fault
part_fault number start part = if nat_lt line_limit (length part)
    then Some (record { line = number; reason = LineLong; start = start }) else None

abbrev pub fault_with : ℕ → ℕ → Result (List ℕ) Reason → Option Fault → Option Fault
fault_with number start (Ok text) later = later
fault_with number start (Err reason) later =
    Some (record { line = number; reason = reason; start = start })

-- the first fault of lines of which the first has this number and begins at this place of the input
abbrev pub fault_of : Telling → List (List ℕ) → ℕ → ℕ → List (List ℕ) → List ℕ → Option Fault
fault_of told past number start [] part = part_fault number start part
fault_of told past number start (line ∷ later) part =
    fault_with number start (reading told past line)
    (fault_of told (line ∷ past) (number + 1) (start + (length line + 1)) later part)

abbrev pub given_with : Result (List ℕ) Reason → List ℕ → List ℕ
given_with (Ok text) later = text ++ later
given_with (Err reason) later = []

-- what the lines before the first fault give
abbrev pub given_of : Telling → List (List ℕ) → List (List ℕ) → List ℕ
given_of told past [] = []
given_of told past (line ∷ later) =
    given_with (reading told past line) (given_of told (line ∷ past) later)

-- the fault of a table comes before those of the lines
abbrev pub table_fault : ℕ → Option Reason → Option Fault → Option Fault
table_fault number None later = later
table_fault number (Some reason) later = Some (record { line = number; reason = reason; start = 0 })

abbrev pub table_given : Option Reason → List ℕ → List ℕ
table_given None later = later
table_given (Some reason) later = []

abbrev pub opened_fault : Work → Bool → List ℕ → Option Opening → Option Fault
opened_fault work ended text None = unopened_fault ended (length text)
opened_fault work ended text (Some o) = let table = take o.size text in
    table_fault o.number (work.opened table)
    (fault_of (work.told table) [] (o.number + 1) (o.size + 4) o.later (part_line ended text))

abbrev pub opened_given : Work → List ℕ → Option Opening → List ℕ
opened_given work text None = []
opened_given work text (Some o) = let table = take o.size text in
    table_given (work.opened table) (given_of (work.told table) [] o.later)

-- the first fault of the bytes of an input, and whether it ended after them
unfoldable pub first_fault : Work → Bool → List ℕ → Option Fault
first_fault work ended text = opened_fault work ended text (opening_at 0 1 (lines_in ended text))

-- what the lines acted on give
unfoldable pub acted_text : Work → Bool → List ℕ → List ℕ
acted_text work ended text = opened_given work text (opening_at 0 1 (lines_in ended text))

abbrev pub refused_text : Work → Option Fault → List ℕ
refused_text work None = []
refused_text work (Some fault) = work.refusal fault.line fault.reason

-- the output: what the lines acted on give, and the refusal of the first fault
abbrev pub output_of : Work → Bool → List ℕ → List ℕ
output_of work ended text =
    acted_text work ended text ++ refused_text work (first_fault work ended text)
