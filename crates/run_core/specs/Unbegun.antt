-- A run that did not begin, as memory was not found.
use Rattle.std.proofs.Common.{[], refl, arith}
use Rattle.std.proofs.KnownBytes.{Consumes-nil, Appends-nil}
use Rattle.run_core.specs.Run.{Task, Ends, HasRun, stopped}
use Rattle.run_core.specs.declared.status.Status.TheVariants.{NoMemory}

-- it took nothing and wrote nothing
pub unbegun-run : (task : Task) (e : Ends) → HasRun task e e NoMemory
unbegun-run task e = (
  refl,
  (
    [],
    stopped,
    record {
      took = record { consumed = Consumes-nil e.left; ended = (refl, omega arith) };
      written = (0, omega arith, Appends-nil e.written);
    },
  ),
)
