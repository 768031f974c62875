-- Small scenes of where the first fault of an input stands, computed by the definitions alone.
use Rattle.std.proofs.Common.{◌≡◌, true, false, Some, None, Ok, [], refl, codes}
use Rattle.refusal_core.specs.declared.reason.Reason.TheVariants.{Syntax, NoTable, NotToml}
use Rattle.run_core.specs.Work.{Work}
use Rattle.run_core.specs.Acted.{first_fault}
use Rattle.run_trials.specs.Echo.{echo_work}

-- the line after `---` begins after four bytes
pub first-line : first_fault echo_work false (codes "---\nbad\n")
    ≡ Some (record { line = 2; reason = Syntax; start = 4 })
unfolding first_fault
first-line = refl

-- a line that was acted on, and its newline, stand before the next one
pub later-line : first_fault echo_work false (codes "---\n+one\nbad\n")
    ≡ Some (record { line = 3; reason = Syntax; start = 9 })
unfolding first_fault
later-line = refl

-- and so do the lines of a table
pub line-after-table : first_fault echo_work false (codes "#\n---\nbad\n")
    ≡ Some (record { line = 3; reason = Syntax; start = 6 })
unfolding first_fault
line-after-table = refl

-- where the table does not end, the first line is at fault once the input has ended, and not before
pub missing-table : first_fault echo_work true (codes "#\n")
    ≡ Some (record { line = 1; reason = NoTable; start = 0 })
unfolding first_fault
missing-table = refl

pub open-table : first_fault echo_work false (codes "#\n") ≡ None
unfolding first_fault
open-table = refl

-- a command that finds fault with every table
abbrev tableless_work : Work
tableless_work = record {
  opened = λ table. Some NotToml;
  told = λ table past line. Ok [];
  refusal = λ line reason. [];
}

-- a faulty table is told at the line `---`, and begins with the input: no byte stands before it
pub faulty-table : first_fault tableless_work false (codes "#\n---\n")
    ≡ Some (record { line = 2; reason = NotToml; start = 0 })
unfolding first_fault
faulty-table = refl
