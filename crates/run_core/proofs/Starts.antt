-- From the search for the end of the table to the first line, and the endings before it.
use Rattle.std.proofs.Common.{◌≡◌, ℕ, ◌+◌, ◌<◌, ◌≤◌, nat_le, Bool, true, false, List, [], ◌++◌, Option, Some, None, Err, length, take, drop, refl, sym, ap, subst, ◌∙◌, arith, append-nil, length-drop}
use Rattle.std.proofs.lemmas.Bool.Decides.{nat_tests}
use Rattle.std.proofs.lemmas.List.{take-append-le}
use Rattle.std.proofs.KnownBytes.{Appends-nil}
use Rattle.std.specs.Io.KnownBytes.{Consumes, Appends, IsAtEnd}
use Rattle.fisb_wire.specs.Faults.{Rose}
use Rattle.refusal_core.specs.declared.reason.Reason.{Reason}
use Rattle.refusal_core.specs.declared.reason.Reason.TheVariants.{NoTable, TableLong}
use Rattle.run_core.specs.declared.input.Input.{Input}
use Rattle.run_core.specs.declared.status.Status.TheVariants.{Done, ReadFault}
use Rattle.run_core.specs.Limits.{input_limit, ring_limit}
use Rattle.run_core.specs.Work.{Work}
use Rattle.run_core.specs.Lines.{lines_in, part_line}
use Rattle.run_core.specs.Opening.{Opening, opening_at}
use Rattle.run_core.specs.Acted.{first_fault, acted_text, fault_of, given_of, table_fault, table_given, opened_fault, opened_given}
use Rattle.run_core.specs.Run.{Ends, ends, source_end, at_end, failed, stopped, HasRun, task_of}
use Rattle.run_core.specs.Running.{IsAt, IsFilled}
use Rattle.run_core.specs.Searched.{IsTable, IsHeld, IsLast}
use Rattle.run_core.proofs.Parts.{part-within}
use Rattle.run_core.proofs.Ends.{IsStop, done-answer}

-- the ring holds what was taken
pub filled-as : (lb la : Option (List ℕ)) (rb ra : ℕ) (written : Option (List ℕ)) (writes : ℕ) (input : Input)
    → IsHeld (source_end lb rb) (source_end la ra) input → ra ≡ rb → IsFilled (ends lb rb written writes) (ends la ra written writes) input
filled-as lb la rb ra written writes input held unfailed = record
    { taken = held.taken; consumed = held.consumed; written = refl; reads = unfailed; writes = refl }

-- the fault and the text of bytes whose opening is known
fault-of-opening : (work : Work) (ended : Bool) (text : List ℕ) (opening : Option Opening)
    → opening_at 0 1 (lines_in ended text) ≡ opening → first_fault work ended text ≡ opened_fault work ended text opening
unfolding first_fault
fault-of-opening work ended text opening is = ap (opened_fault work ended text) is

given-of-opening : (work : Work) (ended : Bool) (text : List ℕ) (opening : Option Opening)
    → opening_at 0 1 (lines_in ended text) ≡ opening → acted_text work ended text ≡ opened_given work text opening
unfolding acted_text
given-of-opening work ended text opening is = ap (opened_given work text) is

nothing-written : (before now : Option (List ℕ)) → now ≡ before → Appends before now []
nothing-written before now same = subst (λ w. Appends before w []) (sym same) (Appends-nil before)

module _ (work : Work) (old now : Ends) (input : Input) (size number : ℕ) (filled : IsFilled old now input) where
  -- the fault and the text of all that may come, by what the table is
  table-is : (more : List ℕ) → IsTable input.ring.items size number
      → take size (input.ring.items ++ more) ≡ take size input.ring.items
  table-is more found = take-append-le size input.ring.items more (let w = found.within in omega (arith, w))

  found-fault : (ended : Bool) (more : List ℕ) (opened : Option Reason) → IsTable input.ring.items size number
      → work.opened (take size input.ring.items) ≡ opened
      → first_fault work ended (input.ring.items ++ more) ≡ table_fault number opened
      (fault_of (work.told (take size input.ring.items)) [] (number + 1) (size + 4)
      (lines_in ended (drop (size + 4) input.ring.items ++ more))
      (part_line ended (drop (size + 4) input.ring.items ++ more)))
  found-fault ended more opened found is =
      fault-of-opening work ended (input.ring.items ++ more) _ (found.opened ended more)
      ∙ ap (λ t. table_fault number (work.opened t)
      (fault_of (work.told t) [] (number + 1) (size + 4)
      (lines_in ended (drop (size + 4) input.ring.items ++ more)) (part_line ended (input.ring.items ++ more))))
      (table-is more found)
      ∙ ap (λ o. table_fault number o (fault_of (work.told (take size input.ring.items)) [] (number + 1) (size + 4)
      (lines_in ended (drop (size + 4) input.ring.items ++ more)) (part_line ended (input.ring.items ++ more)))) is
      ∙ ap (λ p. table_fault number opened (fault_of (work.told (take size input.ring.items)) [] (number + 1)
      (size + 4) (lines_in ended (drop (size + 4) input.ring.items ++ more)) p)) (found.part ended more)

  found-given : (ended : Bool) (more : List ℕ) (opened : Option Reason) → IsTable input.ring.items size number
      → work.opened (take size input.ring.items) ≡ opened
      → acted_text work ended (input.ring.items ++ more) ≡ table_given opened
      (given_of (work.told (take size input.ring.items)) [] (lines_in ended (drop (size + 4) input.ring.items ++ more)))
  found-given ended more opened found is =
      given-of-opening work ended (input.ring.items ++ more) _ (found.opened ended more)
      ∙ ap (λ t. table_given (work.opened t) (given_of (work.told t) []
      (lines_in ended (drop (size + 4) input.ring.items ++ more)))) (table-is more found)
      ∙ ap (λ o. table_given o (given_of (work.told (take size input.ring.items)) []
      (lines_in ended (drop (size + 4) input.ring.items ++ more)))) is

  -- the actor was made: the run stands before the first line
  pub start-at : (stands : List (List ℕ) → Type 0) (after : Input) → IsTable input.ring.items size number
      → work.opened (take size input.ring.items) ≡ None → stands []
      → after.ring.items ≡ drop (size + 4) input.ring.items → after.taken ≡ input.taken
      → IsAt work (take size input.ring.items) stands (number + 1) old now after
  start-at stands after found is made items taken =
      let rest : (more : List ℕ) → drop (size + 4) input.ring.items ++ more ≡ after.ring.items ++ more =
      (λ more. ap (λ xs. xs ++ more) (sym items)) in
      let told = work.told (take size input.ring.items) in record {
        past = [];
        start = size + 4;
        text = input.ring.items;
        so_far = [];
        stands_for = made;
        fault = λ ended more. found-fault ended more None found is
            ∙ ap (λ xs. fault_of told [] (number + 1) (size + 4) (lines_in ended xs) (part_line ended xs)) (rest more);
        gives = λ ended more. found-given ended more None found is
            ∙ ap (λ xs. given_of told [] (lines_in ended xs)) (rest more);
        place = (let size_is = ap length items ∙ length-drop (size + 4) input.ring.items in
            let w = found.within in omega (arith, size_is, w));
        taken = taken ∙ filled.taken;
        consumed = filled.consumed;
        written = nothing-written old.written now.written filled.written;
        reads = filled.reads;
        writes = filled.writes;
      }

  -- the table is at fault
  pub table-stop : (why : Reason) → IsTable input.ring.items size number
      → work.opened (take size input.ring.items) ≡ Some why → length input.ring.items ≤ ring_limit
      → input.taken ≤ input_limit
      → IsStop work old now stopped number (Err why)
  table-stop why found is fits within =
      let all = sym (append-nil input.ring.items) in
      let short : length input.ring.items ≤ input_limit = (let t = filled.taken in omega (arith, t, within)) in record {
        text = input.ring.items;
        so_far = [];
        start = 0;
        later = None;
        more = [];
        fault = ap (first_fault work false) all ∙ found-fault false [] (Some why) found is;
        gives = ap (acted_text work false) all ∙ found-given false [] (Some why) found is;
        near = omega (arith, fits);
        within = short;
        consumed = filled.consumed;
        ended = (filled.reads, short);
        written = nothing-written old.written now.written filled.written;
        writes = filled.writes;
      }

  -- the same where the input ended after the table
  pub last-table-stop : (why : Reason) → IsLast input.ring.items size number
      → work.opened (take size input.ring.items) ≡ Some why → length input.ring.items ≤ ring_limit
      → input.taken ≤ input_limit
      → IsAtEnd now.left → IsStop work old now at_end number (Err why)
  last-table-stop why last is fits within end =
      let short : length input.ring.items ≤ input_limit = (let t = filled.taken in omega (arith, t, within)) in record {
        text = input.ring.items;
        so_far = [];
        start = 0;
        later = None;
        more = [];
        fault = fault-of-opening work true input.ring.items _ last.opened
            ∙ ap (λ o. table_fault number o (fault_of (work.told (take size input.ring.items)) [] (number + 1)
            (size + 4) [] [])) is;
        gives = given-of-opening work true input.ring.items _ last.opened ∙ ap (λ o. table_given o []) is;
        near = omega (arith, fits);
        within = short;
        consumed = filled.consumed;
        ended = (end, filled.reads, short);
        written = nothing-written old.written now.written filled.written;
        writes = filled.writes;
      }

  pub last-table-done : IsLast input.ring.items size number → work.opened (take size input.ring.items) ≡ None
      → input.taken ≤ input_limit → IsAtEnd now.left → HasRun (task_of work) old now Done
  last-table-done last is within end =
      let short : length input.ring.items ≤ input_limit = (let t = filled.taken in omega (arith, t, within)) in
      let part = part-within input.ring.items short in
      done-answer work old now at_end input.ring.items [] Done
      (record { consumed = filled.consumed; ended = (end, filled.reads, short) })
      (ap (first_fault work true) part ∙ fault-of-opening work true input.ring.items _ last.opened
      ∙ ap (λ o. table_fault number o (fault_of (work.told (take size input.ring.items)) [] (number + 1)
      (size + 4) [] [])) is)
      (ap (acted_text work true) part ∙ given-of-opening work true input.ring.items _ last.opened
      ∙ ap (λ o. table_given o []) is)
      (nothing-written old.written now.written filled.written) filled.writes refl

module _ (work : Work) (old now : Ends) (input : Input) (filled : IsFilled old now input) where
  -- the input ended, and has no table
  pub missing-stop : opening_at 0 1 (lines_in true input.ring.items) ≡ None → length input.ring.items < ring_limit
      → input.taken ≤ input_limit → IsAtEnd now.left → IsStop work old now at_end 1 (Err NoTable)
  missing-stop none short within end =
      let fits : length input.ring.items ≤ input_limit = (let t = filled.taken in omega (arith, t, within)) in
      let test : nat_le ring_limit (length input.ring.items) ≡ false = grind (arith, nat_tests) in record {
        text = input.ring.items;
        so_far = [];
        start = 0;
        later = None;
        more = [];
        fault = fault-of-opening work true input.ring.items None none ∙ rw test refl;
        gives = given-of-opening work true input.ring.items None none;
        near = omega (arith, short);
        within = fits;
        consumed = filled.consumed;
        ended = (end, filled.reads, fits);
        written = nothing-written old.written now.written filled.written;
        writes = filled.writes;
      }

  -- so many bytes have no table that none can come
  pub long-stop : opening_at 0 1 (lines_in false input.ring.items) ≡ None → length input.ring.items ≡ ring_limit
      → input.taken ≤ input_limit → IsStop work old now stopped 1 (Err TableLong)
  long-stop none long within =
      let fits : length input.ring.items ≤ input_limit = (let t = filled.taken in omega (arith, t, within)) in
      let test : nat_le ring_limit (length input.ring.items) ≡ true = grind (arith, nat_tests) in record {
        text = input.ring.items;
        so_far = [];
        start = 0;
        later = None;
        more = [];
        fault = fault-of-opening work false input.ring.items None none ∙ rw test refl;
        gives = given-of-opening work false input.ring.items None none;
        near = omega (arith, long);
        within = fits;
        consumed = filled.consumed;
        ended = (filled.reads, fits);
        written = nothing-written old.written now.written filled.written;
        writes = filled.writes;
      }

-- a read failed before the table ended
pub failed-answer : (work : Work) (old now : Ends) (input : Input) → input.taken ≡ length input.ring.items
    → Consumes old.left now.left input.ring.items → now.written ≡ old.written → now.writes ≡ old.writes
    → Rose old.reads now.reads → opening_at 0 1 (lines_in false input.ring.items) ≡ None
    → length input.ring.items < ring_limit → input.taken ≤ input_limit → HasRun (task_of work) old now ReadFault
failed-answer work old now input taken consumed written writes rose none short within =
    let fits : length input.ring.items ≤ input_limit = omega (arith, taken, within) in
    let part = part-within input.ring.items fits in
    let test : nat_le ring_limit (length input.ring.items) ≡ false = grind (arith, nat_tests) in
    done-answer work old now failed input.ring.items [] ReadFault (record { consumed = consumed; ended = (rose, fits) })
    (ap (first_fault work false) part ∙ fault-of-opening work false input.ring.items None none ∙ rw test refl)
    (ap (acted_text work false) part ∙ given-of-opening work false input.ring.items None none)
    (nothing-written old.written now.written written) writes refl
