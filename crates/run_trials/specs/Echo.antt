-- A small command: it gives back each line that begins with a plus sign, gives nothing for an empty
-- line and for one that begins with `#`, and refuses every other.
use Rattle.std.specs.Prelude.{ℕ, ◌==◌, if◌then◌else◌, List, [], ◌∷◌, ◌++◌, Option, Some, None}
use Rattle.std.specs.Prelude.{Result, Ok, Err}
use Rattle.refusal_core.specs.declared.reason.Reason.{Reason}
use Rattle.refusal_core.specs.declared.reason.Reason.TheVariants.{Syntax}
use Rattle.refusal_core.specs.Refusal.{refusal_text}
use Rattle.run_core.specs.Work.{Work}

-- what a line gives, if it is not refused
abbrev pub echo_text : List ℕ → Option (List ℕ)
echo_text [] = Some []
echo_text (b ∷ line) = if b == 43 then Some ((b ∷ line) ++ 10 ∷ [])
    else (if b == 35 then Some [] else None)

abbrev pub told_text : Option (List ℕ) → Result (List ℕ) Reason
told_text None = Err Syntax
told_text (Some text) = Ok text

abbrev pub echo_work : Work
echo_work = record {
  opened = λ table. None;
  told = λ table past line. told_text (echo_text line);
  refusal = refusal_text;
}
