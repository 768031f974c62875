-- From what stopped a run, or ended it, to how it went.
use Rattle.std.proofs.Common.{◌≡◌, ℕ, ◌+◌, ◌≤◌, List, [], ◌++◌, Option, None, Result, Ok, Err, length, take, refl, sym, ap, subst, ◌∙◌, arith, append-nil, append_assoc, length-append}
use Rattle.std.proofs.lemmas.List.{take-append-le}
use Rattle.std.proofs.Math.Seq.{take-append-add}
use Rattle.std.proofs.KnownBytes.{Appends-trans}
use Rattle.std.specs.Io.KnownBytes.{Consumes, Appends}
use Rattle.refusal_core.specs.declared.reason.Reason.{Reason}
use Rattle.run_core.specs.declared.status.Status.{Status}
use Rattle.run_core.specs.declared.status.Status.TheVariants.{Done, Usage, Refused, ReadFault, WriteFault, TooLong, NoMemory}
use Rattle.run_core.specs.Limits.{input_limit, ring_limit}
use Rattle.run_core.specs.Work.{Work, Fault}
use Rattle.run_core.specs.Acted.{first_fault, acted_text, fault_with, given_with, refused_text, output_of}
use Rattle.run_core.specs.Run.{Ends, ends, sink_end, Ending, at_end, failed, full, stopped, task_of, HasRun, HasAnswered, HasWrittenFront, HasEnded, HasTaken, IsVerdict, IsNear, IsEnding, AppendsFront, acted_part, is_end, taken_fault, taken_output}
use Rattle.run_core.specs.Acting.{HasStoppedOn, text_by}
use Rattle.run_core.specs.Laws.{Begins}
use Rattle.run_core.proofs.Parts.{part-within}

-- a prefix of the piece after what was given is a prefix of the whole
pub front-behind : (before mid after : Option (List ℕ)) (so_far piece whole : List ℕ) → Appends before mid so_far
    → AppendsFront mid after piece → Begins (so_far ++ piece) whole
    → AppendsFront before after whole
front-behind before mid after so_far piece whole first front begins =
    let size = front.0 in
    let within : length so_far + size ≤ length (so_far ++ piece) =
    (let l = length-append so_far piece in let s = front.1 in omega (arith, l, s)) in
    let long = ap length begins.1 ∙ length-append (so_far ++ piece) begins.0 in
    let cut : take (length so_far + size) whole ≡ so_far ++ take size piece =
    ap (take (length so_far + size)) begins.1 ∙ take-append-le (length so_far + size)
    (so_far ++ piece) begins.0 within ∙ take-append-add so_far piece size in (
      length so_far + size,
      omega (arith, within, long),
      subst (Appends before after) (sym cut)
          (Appends-trans _ _ _ _ _ first front.2),
    )

-- a run stopped at the line of the number, whose reading is this, after what the lines before it gave
pub record IsStop (work : Work) (old now : Ends) (ending : Ending) (number : ℕ)
    (read : Result (List ℕ) Reason) : Type 0 where
  pub text : List ℕ
  pub so_far : List ℕ
  pub start : ℕ
  pub later : Option Fault
  pub more : List ℕ
  pub fault : first_fault work (is_end ending) text ≡ fault_with number start read later
  pub gives : acted_text work (is_end ending) text ≡ so_far ++ given_with read more
  pub near : length text ≤ start + ring_limit
  pub within : length text ≤ input_limit
  pub consumed : Consumes old.left now.left text
  pub ended : HasEnded ending old now (length text)
  pub written : Appends old.written now.written so_far
  pub writes : now.writes ≡ old.writes

-- how the reading ended says nothing of what is written later
ended-kept : (ending : Ending) (old now : Ends) (written : Option (List ℕ)) (writes size : ℕ)
    → HasEnded ending old now size → HasEnded ending old (ends now.left now.reads written writes) size
ended-kept at_end old now written writes size e = e
ended-kept failed old now written writes size e = e
ended-kept full old now written writes size e = e
ended-kept stopped old now written writes size e = e

module _ (work : Work) (old now : Ends) (ending : Ending) (number : ℕ) where
  stop-taken : (read : Result (List ℕ) Reason) (written : Option (List ℕ)) (writes : ℕ)
      (s : IsStop work old now ending number read) → HasTaken old (ends now.left now.reads written writes) s.text ending
  stop-taken read written writes s = record {
    consumed = s.consumed;
    ended = ended-kept ending old now written writes
        (length s.text) s.ended;
  }

  stop-fault : (read : Result (List ℕ) Reason) (s : IsStop work old now ending number read)
      → taken_fault (task_of work) s.text ending ≡ fault_with number s.start read s.later
  stop-fault read s = ap (first_fault work (is_end ending)) (part-within s.text s.within) ∙ s.fault

  stop-output : (read : Result (List ℕ) Reason) (s : IsStop work old now ending number read)
      → taken_output (task_of work) s.text ending ≡ (s.so_far ++ given_with read s.more) ++ refused_text work
      (fault_with number s.start read s.later)
  stop-output read s =
      ap (output_of work (is_end ending)) (part-within s.text s.within)
      ∙ ap (λ g. g ++ refused_text work (first_fault work (is_end ending) s.text)) s.gives
      ∙ ap (λ f. (s.so_far ++ given_with read s.more) ++ refused_text work f) s.fault

  -- what the line gives to write stands in the output after what was given before
  stop-begins : (read : Result (List ℕ) Reason) (so_far more : List ℕ) (start : ℕ) (later : Option Fault)
      → Begins (so_far ++ text_by work number read)
      ((so_far ++ given_with read more) ++ refused_text work (fault_with number start read later))
  stop-begins (Ok text) so_far more start later = (
    more ++ refused_text work later,
    ap (λ g. g ++ refused_text work later) (sym (append_assoc so_far text more))
        ∙ append_assoc (so_far ++ text) more (refused_text work later),
  )
  stop-begins (Err reason) so_far more start later = (
    [],
    ap (λ g. g ++ work.refusal number reason) (append-nil so_far)
        ∙ sym (append-nil (so_far ++ work.refusal number reason)),
  )

  stop-front : (read : Result (List ℕ) Reason) (written : Option (List ℕ)) (writes : ℕ)
      → IsStop work old now ending number read → AppendsFront now.written written (text_by work number read)
      → HasWrittenFront (task_of work) old (ends now.left now.reads written writes)
  stop-front read written writes s front = (
    s.text,
    ending,
    record {
      took = stop-taken read written writes s;
      written = subst (λ o. AppendsFront old.written written o) (sym (stop-output read s))
          (front-behind old.written now.written written s.so_far (text_by work number read) _ s.written front
          (stop-begins read s.so_far s.more s.start s.later));
    },
  )

  refused-answer : (why : Reason) (written : Option (List ℕ)) (writes : ℕ)
      → IsStop work old now ending number (Err why) → Appends now.written written (work.refusal number why)
      → writes ≡ now.writes
      → HasAnswered (task_of work) old (ends now.left now.reads written writes) (Refused number why)
  refused-answer why written writes s wrote unfailed =
      let fault = stop-fault (Err why) s in (
        s.text,
        ending,
        record {
          took = stop-taken (Err why) written writes s;
          verdict = subst (λ f. IsVerdict ending f (Refused number why)) (sym fault) (refl, refl);
          near = subst (λ f. IsNear (length s.text) f) (sym fault) s.near;
          written = subst (λ o. Appends old.written written o)
              (sym (stop-output (Err why) s ∙ ap (λ g. g ++ work.refusal number why) (append-nil s.so_far)))
              (Appends-trans _ _ _ _ _ s.written wrote);
          unfailed = unfailed ∙ s.writes;
        },
      )

  refused-run : (read : Result (List ℕ) Reason) (written : Option (List ℕ)) (writes line : ℕ) (why : Reason)
      → IsStop work old now ending number read
      → HasStoppedOn work number read (sink_end now.written now.writes) (sink_end written writes) (Refused line why)
      → HasRun (task_of work) old (ends now.left now.reads written writes) (Refused line why)
  refused-run read written writes line why s h =
      let stop = subst (λ r. IsStop work old now ending number r) h.1 s in
      subst (λ n. HasAnswered (task_of work) old (ends now.left now.reads written writes) (Refused n why)) (sym h.0)
      (refused-answer why written writes stop h.2 h.3)

  -- so the run went
  pub stop-run : (read : Result (List ℕ) Reason) (written : Option (List ℕ)) (writes : ℕ) (status : Status)
      → IsStop work old now ending number read
      → HasStoppedOn work number read (sink_end now.written now.writes) (sink_end written writes) status
      → HasRun (task_of work) old (ends now.left now.reads written writes) status
  stop-run read written writes Done s h = absurd h
  stop-run read written writes Usage s h = absurd h
  stop-run read written writes (Refused line why) s h = refused-run read written writes line why s h
  stop-run read written writes ReadFault s h = absurd h
  stop-run read written writes WriteFault s h =
      ((let rose = h.0 in let same = s.writes in omega (arith, rose, same)), stop-front read written writes s h.1)
  stop-run read written writes TooLong s h = absurd h
  stop-run read written writes NoMemory s h = (h.0 ∙ s.writes, stop-front read written writes s h.1)

-- a run whose lines have no fault answers how its reading ended
pub done-answer : (work : Work) (old now : Ends) (ending : Ending) (taken so_far : List ℕ) (status : Status)
    → HasTaken old now taken ending
    → first_fault work (is_end ending) (acted_part taken) ≡ None
    → acted_text work (is_end ending) (acted_part taken) ≡ so_far → Appends old.written now.written so_far
    → now.writes ≡ old.writes
    → IsEnding ending status → HasAnswered (task_of work) old now status
done-answer work old now ending taken so_far status took none gives written unfailed is = (
  taken,
  ending,
  record {
    took = took;
    verdict = subst (λ f. IsVerdict ending f status) (sym none) is;
    near = subst (λ f. IsNear (length taken) f) (sym none) tt;
    written = subst (λ o. Appends old.written now.written o)
        (sym (ap (λ f. acted_text work (is_end ending) (acted_part taken) ++ refused_text work f) none ∙ append-nil _
        ∙ gives)) written;
    unfailed = unfailed;
  },
)
