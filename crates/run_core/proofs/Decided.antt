-- A run is decided by the whole input where neither end failed.
use Rattle.std.proofs.Common.{◌≡◌, ◌≢◌, ℕ, ◌-◌, ◌≤◌, ◌<◌, true, false, nat_le, if◌then◌else◌, List, [], ◌++◌, Option, Some, None, length, take, refl, sym, ap, subst, ◌∙◌, inl, inr, arith, append-nil, length-append}
use Rattle.std.proofs.lemmas.Bool.Decides.{nat_tests}
use Rattle.std.specs.Io.KnownBytes.{Consumes, Appends}
use Rattle.fisb_wire.specs.Faults.{Rose}
use Rattle.run_core.specs.declared.status.Status.{Status}
use Rattle.run_core.specs.declared.status.Status.TheVariants.{Done, Usage, Refused, ReadFault, WriteFault, TooLong, NoMemory}
use Rattle.run_core.specs.Limits.{input_limit}
use Rattle.run_core.specs.Work.{Fault}
use Rattle.run_core.specs.Run.{Task, Ends, Ending, at_end, failed, full, stopped, HasRun, HasAnswered, HasEnded, IsVerdict, IsJudged, IsDecided, acted_part, is_end, ending_of, taken_fault, taken_output}
use Rattle.run_core.specs.Laws.{Begins, IsStable, RunsDecide}
use Rattle.run_core.proofs.Parts.{part-within, part-full, part-past}
use Rattle.run_core.proofs.Faults.{write-fault-rose}

-- what is taken of a known input begins it
pub consumed-rest : (input taken : List ℕ) (left : Option (List ℕ)) → Consumes (Some input) left taken
    → (rest : List ℕ) × (left ≡ Some rest) × (input ≡ taken ++ rest)
consumed-rest input taken None c = absurd c
consumed-rest input taken (Some rest) c = (rest, refl, c)

end-within : (size limit : ℕ) (one other : Ending) → size ≤ limit → (if nat_le size limit then one else other) ≡ one
end-within size limit one other within = let test : nat_le size limit ≡ true = grind (arith, nat_tests) in rw test refl

end-over : (size limit : ℕ) (one other : Ending) → limit < size → (if nat_le size limit then one else other) ≡ other
end-over size limit one other over = let test : nat_le size limit ≡ false = grind (arith, nat_tests) in rw test refl

pub ending-within : (input : List ℕ) → length input ≤ input_limit → ending_of input ≡ at_end
ending-within input within = end-within (length input) input_limit at_end full within

pub ending-over : (input : List ℕ) → input_limit < length input → ending_of input ≡ full
ending-over input over = end-over (length input) input_limit at_end full over

verdict-as : (task : Task) (input : List ℕ) (status : Status) (ending : Ending) (fault : Option Fault)
    → ending_of input ≡ ending → task.fault (is_end ending) (acted_part input) ≡ fault
    → IsVerdict ending fault status → IsVerdict (ending_of input) (taken_fault task input (ending_of input)) status
verdict-as task input status ending fault is fault-is v =
    subst (λ e. IsVerdict e (taken_fault task input e) status) (sym is)
    (subst (λ f. IsVerdict ending f status) (sym fault-is) v)

-- a fault found before the end is that of the whole
refused-early : (task : Task) (input taken rest : List ℕ) (status : Status) (found : Fault) → IsStable task
    → input ≡ taken ++ rest → length taken ≤ input_limit
    → task.fault false (acted_part taken) ≡ Some found → IsVerdict stopped (Some found) status
    → IsVerdict (ending_of input) (taken_fault task input (ending_of input)) status
refused-early task input taken rest status found stable is within fault v =
    let part = part-within taken within in
    let whole : acted_part input ≡ taken ++ take (input_limit - length taken) rest = ap acted_part is
    ∙ part-past taken rest within in
    let here : task.fault false taken ≡ Some found = ap (task.fault false) (sym part) ∙ fault in
    let there : task.fault (is_end (ending_of input)) (acted_part input) ≡ Some found =
    ap (task.fault (is_end (ending_of input))) whole
    ∙ stable.fault taken (take (input_limit - length taken) rest) (is_end (ending_of input)) found here in
    subst (λ f. IsVerdict (ending_of input) f status) (sym there) v

stopped-by : (task : Task) (input taken rest : List ℕ) (status : Status) (fault : Option Fault) → IsStable task
    → input ≡ taken ++ rest → length taken ≤ input_limit
    → task.fault false (acted_part taken) ≡ fault → IsVerdict stopped fault status
    → IsVerdict (ending_of input) (taken_fault task input (ending_of input)) status
stopped-by task input taken rest status None stable is within fault v = absurd v
stopped-by task input taken rest status
    (Some found) stable is within fault v = refused-early task input taken rest status found stable is within fault v

by-ending : (task : Task) (old new : Ends) (input taken rest : List ℕ) (status : Status) (ending : Ending)
    → IsStable task → new.left ≡ Some rest → input ≡ taken ++ rest
    → HasEnded ending old new (length taken) → (Rose old.reads new.reads → ⊥)
    → IsVerdict ending (taken_fault task taken ending) status
    → IsVerdict (ending_of input) (taken_fault task input (ending_of input)) status
by-ending task old new input taken rest status at_end stable left is ended reads v =
    let none : rest ≡ [] = (let e = ended.0 in rw left at e) in
    let same : input ≡ taken = is ∙ ap (λ r. taken ++ r) none ∙ append-nil taken in
    verdict-as task input status at_end (taken_fault task taken at_end)
    (ending-within input (let w = ended.2 in let size = ap length same in omega (arith, w, size)))
    (ap (λ t. task.fault true (acted_part t)) same) v
by-ending task old new input taken rest status failed stable left is ended reads v = absurd (reads ended.0)
by-ending task old new input taken rest status full stable left is ended reads v =
    let size = ap length is ∙ length-append taken rest in
    verdict-as task input status full (taken_fault task taken full)
    (ending-over input (let w = ended.1 in omega (arith, w, size)))
    (ap (λ t. task.fault false t) (ap acted_part is ∙ part-full taken rest (let w = ended.1 in omega (arith, w)))) v
by-ending task old new input taken rest status stopped stable left is ended reads v =
    stopped-by task input taken rest status (taken_fault task taken stopped) stable is ended.1 refl v

-- the output of the bytes taken begins that of the whole input
begins-same : (piece whole : List ℕ) → piece ≡ whole → Begins piece whole
begins-same piece whole same = ([], sym same ∙ sym (append-nil piece))

-- the output of the bytes taken is that of the whole input, but where the reading stopped before
module _ (task : Task) (old new : Ends) (input taken rest : List ℕ) (left : new.left ≡ Some rest)
    (is : input ≡ taken ++ rest) where
  end-output : HasEnded at_end old new (length taken)
      → taken_output task taken at_end ≡ taken_output task input (ending_of input)
  end-output ended =
      let none : rest ≡ [] = (let e = ended.0 in rw left at e) in
      let same : input ≡ taken = is ∙ ap (λ r. taken ++ r) none ∙ append-nil taken in
      let whole = ending-within input (let w = ended.2 in let size = ap length same in omega (arith, w, size)) in
      ap (λ t. taken_output task t at_end) (sym same) ∙ ap (taken_output task input) (sym whole)

  full-output : HasEnded full old new (length taken)
      → taken_output task taken full ≡ taken_output task input (ending_of input)
  full-output ended =
      let size = ap length is ∙ length-append taken rest in
      let whole = ending-over input (let w = ended.1 in omega (arith, w, size)) in
      let part : acted_part input ≡ acted_part taken = ap acted_part is
      ∙ part-full taken rest (let w = ended.1 in omega (arith, w)) in
      ap (task.output false) (sym part) ∙ ap (taken_output task input) (sym whole)

  -- where it stopped, what may still come
  more-come : length taken ≤ input_limit
      → acted_part input ≡ taken ++ take (input_limit - length taken) rest
  more-come within = ap acted_part is ∙ part-past taken rest within

  stopped-begins : IsStable task → length taken ≤ input_limit
      → Begins (taken_output task taken stopped) (taken_output task input (ending_of input))
  stopped-begins stable within =
      let now = part-within taken within in
      let b = stable.begins taken (take (input_limit - length taken) rest) (is_end (ending_of input)) in (
        b.0,
        ap (task.output (is_end (ending_of input))) (more-come within) ∙ b.1
            ∙ ap (λ t. task.output false t ++ b.0) (sym now),
      )

  stopped-output : IsStable task → length taken ≤ input_limit → (found : Fault)
      → task.fault false (acted_part taken) ≡ Some found
      → taken_output task taken stopped ≡ taken_output task input (ending_of input)
  stopped-output stable within found fault =
      let now = part-within taken within in
      let here : task.fault false taken ≡ Some found = ap (task.fault false) (sym now) ∙ fault in
      ap (task.output false) now
      ∙ sym (ap (task.output (is_end (ending_of input))) (more-come within)
      ∙ stable.output taken (take (input_limit - length taken) rest) (is_end (ending_of input)) found here)

  stopped-by-fault : (status : Status) (fault : Option Fault) → IsStable task → length taken ≤ input_limit
      → task.fault false (acted_part taken) ≡ fault → IsVerdict stopped fault status
      → taken_output task taken stopped ≡ taken_output task input (ending_of input)
  stopped-by-fault status None stable within fault v = absurd v
  stopped-by-fault status (Some found) stable within fault v = stopped-output stable within found fault

  pub output-begins : (ending : Ending) → IsStable task → HasEnded ending old new (length taken)
      → (Rose old.reads new.reads → ⊥)
      → Begins (taken_output task taken ending) (taken_output task input (ending_of input))
  output-begins at_end stable ended reads = begins-same _ _ (end-output ended)
  output-begins failed stable ended reads = absurd (reads ended.0)
  output-begins full stable ended reads = begins-same _ _ (full-output ended)
  output-begins stopped stable ended reads = stopped-begins stable ended.1

  -- where it ended with a verdict, it is that of the whole input
  pub output-whole : (ending : Ending) (status : Status) → IsStable task → HasEnded ending old new (length taken)
      → (Rose old.reads new.reads → ⊥) → IsVerdict ending (taken_fault task taken ending) status
      → taken_output task taken ending ≡ taken_output task input (ending_of input)
  output-whole at_end status stable ended reads v = end-output ended
  output-whole failed status stable ended reads v = absurd (reads ended.0)
  output-whole full status stable ended reads v = full-output ended
  output-whole stopped status stable ended reads v =
      stopped-by-fault status (taken_fault task taken stopped) stable ended.1 refl v

answered-decides : (task : Task) (old new : Ends) (status : Status) (input : List ℕ) → IsStable task
    → HasAnswered task old new status → old.left ≡ Some input → (Rose old.reads new.reads → ⊥)
    → IsVerdict (ending_of input) (taken_fault task input (ending_of input)) status
    × Appends old.written new.written (taken_output task input (ending_of input))
answered-decides task old new status input stable h is reads =
    let a = h.2 in
    let c = (let c = a.took.consumed in rw is at c) in
    let rest = consumed-rest input h.0 new.left c in (
      by-ending task old new input h.0 rest.0 status h.1 stable rest.1 rest.2 a.took.ended reads a.verdict,
      subst (Appends old.written new.written)
          (output-whole task old new input h.0 rest.0 rest.1 rest.2 h.1 status stable a.took.ended reads a.verdict)
          a.written,
    )

pub judged : (task : Task) (old new : Ends) (status : Status) (input : List ℕ) → IsStable task
    → HasRun task old new status → old.left ≡ Some input
    → (Rose old.reads new.reads → ⊥) → (status ≢ WriteFault) → IsJudged task old new input status
judged task old new Done input stable h is reads writes = inr (answered-decides task old new Done input stable h is reads)
judged task old new Usage input stable h is reads writes = absurd h
judged task old new (Refused line why) input stable h is reads writes = inr
    (answered-decides task old new (Refused line why) input stable h is reads)
judged task old new ReadFault input stable h is reads writes = inr
    (answered-decides task old new ReadFault input stable h is reads)
judged task old new WriteFault input stable h is reads writes = absurd (writes refl)
judged task old new TooLong input stable h is reads writes = inr
    (answered-decides task old new TooLong input stable h is reads)
judged task old new NoMemory input stable h is reads writes = inl refl

decides-by : (task : Task) (old new : Ends) (status : Status) (left : Option (List ℕ)) → old.left ≡ left
    → IsStable task → HasRun task old new status → IsDecided task old new status
decides-by task old new status None is stable h = rw is tt
decides-by task old new status (Some input) is stable h = rw is
    (λ reads writes. judged task old new status input stable h is reads
    (λ full. writes (write-fault-rose task old new status h full)))

pub runs-decide : RunsDecide
runs-decide task old new status stable h = decides-by task old new status old.left refl stable h
