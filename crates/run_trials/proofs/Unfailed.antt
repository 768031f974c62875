-- A run over a source that never fails and a new sink with room.
use Rattle.std.proofs.Common.{◌≡◌, ◌≢◌, ℕ, ◌<◌, ◌≤◌, ◌++◌, List, [], Option, Some, None, length, refl, sym, subst, ap, ◌∙◌, inl, inr, arith}
use Rattle.std.proofs.lemmas.Bool.{cond-true, le-leb}
use Rattle.fisb_wire.specs.Faults.{Rose, u64_count}
use Rattle.fisb_wire.specs.Memory.{Store, store_reach}
use Rattle.run_core.specs.declared.status.Status.{Status}
use Rattle.run_core.specs.declared.status.Status.TheVariants.{Done, ReadFault, WriteFault, NoMemory}
use Rattle.run_core.specs.Limits.{input_limit}
use Rattle.run_core.specs.Run.{Task, Ends, at_end, full, ends, IsComplete, IsJudged, IsVerdict, ending_of, taken_fault, taken_output}
use Rattle.run_trials.specs.Whole.{IsWholeRun}

-- a new sink with so much room
abbrev pub fresh : ℕ → List ℕ → Store
fresh room fails = record { bytes = []; room = room; next = 0; fails = fails; faults = 0 }

fresh-reach : (room : ℕ) (fails : List ℕ) → fails ≡ [] → store_reach (fresh room fails) ≡ Some room
fresh-reach room fails none = rw none refl

still : Rose (u64_count 0) (u64_count 0) → ⊥
still rose = omega (arith, rose)

module _ (task : Task) (input source : List ℕ) (room : ℕ) (fails : List ℕ) (left : Option (List ℕ)) (old new : Store)
    (status : Status) where
  abbrev pub before : Ends
  before = ends (Some source) (u64_count 0) (Some old.bytes) (u64_count old.faults)

  abbrev pub after : Ends
  after = ends left (u64_count 0) (Some new.bytes) (u64_count new.faults)

  whole-by : old.bytes ≡ [] → IsJudged task before after input status
      → IsWholeRun task (ending_of input) input status new.bytes
  whole-by empty (inl none) = inl none
  whole-by empty (inr h) = inr (h.0, h.1 ∙ ap (λ xs. xs ++ taken_output task input (ending_of input)) empty)

  -- no end failed, and the answer is that of the whole input
  pub unfailed : source ≡ input → fails ≡ [] → old ≡ fresh room fails
      → IsComplete task (store_reach old) before after status
      → length (taken_output task input (ending_of input)) < room
      → (status ≢ ReadFault) × (status ≢ WriteFault) × IsWholeRun task (ending_of input) input status new.bytes
  unfailed given none is complete small =
      let empty : old.bytes ≡ [] = ap (λ (s : Store). s.bytes) is in
      let all = complete input [] room (ap Some given) (ap Some empty)
      (ap store_reach is ∙ fresh-reach room fails none) still small in
      (all.0, all.1, whole-by empty all.2)

done-by : (task : Task) (input taken : List ℕ) (status : Status) → taken_fault task input at_end ≡ None
    → status ≢ NoMemory → IsWholeRun task at_end input status taken
    → (status ≡ Done) × (taken ≡ taken_output task input at_end)
done-by task input taken status clean found (inl none) = absurd (found none)
done-by task input taken status clean found (inr h) = (subst (λ f. IsVerdict at_end f status) clean h.0, h.1)

-- where no line has a fault and the input is not too long, it is done
pub done : (task : Task) (input taken : List ℕ) (status : Status) (room : ℕ) → length input ≤ input_limit
    → taken_fault task input at_end ≡ None → length (taken_output task input at_end) < room
    → (length (taken_output task input (ending_of input)) < room → IsWholeRun task (ending_of input) input status taken)
    → status ≢ NoMemory → (status ≡ Done) × (taken ≡ taken_output task input at_end)
done task input taken status room fits clean small whole found =
    let is : ending_of input ≡ at_end =
    cond-true _ at_end full (le-leb (length input) input_limit fits) in
    done-by task input taken status clean found
    (subst (λ e. IsWholeRun task e input status taken) is
    (whole (subst (λ e. length (taken_output task input e) < room) (sym is) small)))
