-- How a run ended, as the number with which a program ends.
use Rattle.std.specs.Prelude.{ℕ}
use Rattle.run_core.specs.declared.status.Status.{Status}
use Rattle.run_core.specs.declared.status.Status.TheVariants.{Done, Usage, Refused, ReadFault}
use Rattle.run_core.specs.declared.status.Status.TheVariants.{WriteFault, TooLong, NoMemory}

abbrev pub code_of : Status → ℕ
code_of Done = 0
code_of Usage = 2
code_of (Refused line reason) = 3
code_of ReadFault = 4
code_of WriteFault = 5
code_of TooLong = 6
code_of NoMemory = 7
