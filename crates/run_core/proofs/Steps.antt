-- Where a run stands after a read and after a line, and how it ends from there.
use Rattle.std.proofs.Common.{◌≡◌, ℕ, ◌+◌, ◌<◌, ◌≤◌, nat_lt, Bool, true, false, List, [], ◌∷◌, ◌++◌, Option, Some, None, Ok, Err, length, take, drop, refl, sym, ap, subst, ◌∙◌, arith, append-nil, append_assoc, length-append, length-take, length-drop}
use Rattle.std.proofs.lemmas.Bool.Decides.{nat_tests}
use Rattle.std.proofs.KnownBytes.{Appends-trans, Consumes-trans}
use Rattle.std.specs.Io.KnownBytes.{Consumes, IsAtEnd}
use Rattle.fisb_wire.specs.Faults.{Rose}
use Rattle.refusal_core.specs.declared.reason.Reason.TheVariants.{LineLong}
use Rattle.byte_search.specs.FirstByte.{found_at}
use Rattle.run_core.specs.declared.input.Input.{Input}
use Rattle.run_core.specs.declared.status.Status.TheVariants.{Done, ReadFault, TooLong}
use Rattle.run_core.specs.Limits.{input_limit, line_limit, ring_limit}
use Rattle.run_core.specs.Work.{Work}
use Rattle.run_core.specs.Lines.{lines_in, part_line}
use Rattle.run_core.specs.Acted.{first_fault, acted_text, reading, part_fault, fault_with, fault_of, given_with, given_of}
use Rattle.run_core.specs.Reading.{HasGrown, newline_in}
use Rattle.run_core.specs.Acting.{HasActedAs}
use Rattle.run_core.specs.Run.{Ends, ends, sink_end, source_end, at_end, failed, full, stopped, HasRun, task_of}
use Rattle.run_core.specs.Running.{IsAt}
use Rattle.run_core.proofs.LineCuts.{lines-cut, part-cut, no-line, only-part, last-line, no-last}
use Rattle.run_core.proofs.Parts.{part-within, part-one-over}
use Rattle.run_core.proofs.Ends.{IsStop, done-answer}

module _ (work : Work) (table : List ℕ) (number : ℕ) (old : Ends) where
  -- after a read
  pub at-more : (stands : List (List ℕ) → Type 0) (lb la : Option (List ℕ)) (rb ra : ℕ) (written : Option (List ℕ))
      (writes : ℕ) (input after : Input) (piece : List ℕ)
      → IsAt work table stands number old (ends lb rb written writes) input → HasGrown input after (source_end lb rb) (source_end la ra) piece
      → IsAt work table stands number old (ends la ra written writes) after
  at-more stands lb la rb ra written writes input after piece a g =
      let same : (more : List ℕ) → input.ring.items ++ (piece ++ more) ≡ after.ring.items ++ more =
      (λ more. sym (append_assoc input.ring.items piece more) ∙ ap (λ xs. xs ++ more) (sym g.items)) in record {
        past = a.past;
        start = a.start;
        text = a.text ++ piece;
        so_far = a.so_far;
        stands_for = a.stands_for;
        fault = λ ended more. ap (first_fault work ended) (append_assoc a.text piece more) ∙ a.fault ended (piece ++ more)
            ∙ ap (λ xs. fault_of (work.told table) a.past number a.start (lines_in ended xs) (part_line ended xs))
            (same more);
        gives = λ ended more. ap (acted_text work ended) (append_assoc a.text piece more) ∙ a.gives ended (piece ++ more)
            ∙ ap (λ xs. a.so_far ++ given_of (work.told table) a.past (lines_in ended xs)) (same more);
        place = (let p = a.place in let i = ap length g.items ∙ length-append input.ring.items piece in
            let t = length-append a.text piece in omega (arith, p, i, t));
        taken = (let p = a.taken in let i = g.taken in let t = length-append a.text piece in omega (arith, p, i, t));
        consumed = Consumes-trans _ _ _ _ _ a.consumed g.consumed;
        written = a.written;
        reads = g.unfailed ∙ a.reads;
        writes = a.writes;
      }

  line-fault : (past : List (List ℕ)) (start : ℕ) (line : List ℕ) (later : List (List ℕ)) (part text : List ℕ)
      → reading (work.told table) past line ≡ Ok text
      → fault_of (work.told table) past number start (line ∷ later) part ≡ fault_of (work.told table) (line ∷ past)
      (number + 1) (start + (length line + 1)) later part
  line-fault past start line later part text read =
      ap (λ r. fault_with number start r (fault_of (work.told table) (line ∷ past) (number + 1)
      (start + (length line + 1)) later part)) read

  line-gives : (past : List (List ℕ)) (line : List ℕ) (later : List (List ℕ)) (text : List ℕ)
      → reading (work.told table) past line ≡ Ok text
      → given_of (work.told table) past (line ∷ later) ≡ text ++ given_of (work.told table) (line ∷ past) later
  line-gives past line later text read = ap (λ r. given_with r (given_of (work.told table) (line ∷ past) later)) read

  -- after a line
  pub at-line : (stands stands' : List (List ℕ) → Type 0) (left : Option (List ℕ)) (reads : ℕ)
      (before written : Option (List ℕ)) (wb writes : ℕ) (input after : Input) (e : ℕ) (line text : List ℕ)
      (a : IsAt work table stands number old (ends left reads before wb) input) → newline_in input.ring.items ≡ Some e
      → line ≡ take e input.ring.items
      → HasActedAs (reading (work.told table) a.past line) (stands' (line ∷ a.past)) (sink_end before wb) (sink_end written writes) text
      → after.ring.items ≡ drop (e + 1) input.ring.items → after.taken ≡ input.taken
      → IsAt work table stands' (number + 1) old (ends left reads written writes) after
  at-line stands stands' left reads before written wb writes input after e line text a found is acted items taken =
      let at = found_at 10 e input.ring.items (sym found) in
      let same : (more : List ℕ) → drop (e + 1) input.ring.items ++ more ≡ after.ring.items ++ more =
      (λ more. ap (λ xs. xs ++ more) (sym items)) in record {
        past = line ∷ a.past;
        start = a.start + (length line + 1);
        text = a.text;
        so_far = a.so_far ++ text;
        stands_for = acted.stands_for;
        fault = λ ended more. a.fault ended more
            ∙ ap (λ ls. fault_of (work.told table) a.past number a.start ls (part_line ended (input.ring.items ++ more)))
            (lines-cut ended e input.ring.items more found
            ∙ ap (λ l. l ∷ lines_in ended (drop (e + 1) input.ring.items ++ more)) (sym is))
            ∙ line-fault a.past a.start line (lines_in ended (drop (e + 1) input.ring.items ++ more))
            (part_line ended (input.ring.items ++ more)) text acted.read_is
            ∙ ap (fault_of (work.told table) (line ∷ a.past) (number + 1) (a.start + (length line + 1))
            (lines_in ended (drop (e + 1) input.ring.items ++ more))) (part-cut ended e input.ring.items more found)
            ∙ ap (λ xs. fault_of (work.told table) (line ∷ a.past) (number + 1) (a.start + (length line + 1))
            (lines_in ended xs) (part_line ended xs)) (same more);
        gives = λ ended more. a.gives ended more
            ∙ ap (λ ls. a.so_far ++ given_of (work.told table) a.past ls)
            (lines-cut ended e input.ring.items more found
            ∙ ap (λ l. l ∷ lines_in ended (drop (e + 1) input.ring.items ++ more)) (sym is))
            ∙ ap (λ g. a.so_far ++ g) (line-gives a.past line
            (lines_in ended (drop (e + 1) input.ring.items ++ more)) text acted.read_is)
            ∙ sym (append_assoc a.so_far text (given_of (work.told table) (line ∷ a.past)
            (lines_in ended (drop (e + 1) input.ring.items ++ more))))
            ∙ ap (λ xs. (a.so_far ++ text) ++ given_of (work.told table) (line ∷ a.past) (lines_in ended xs)) (same more);
        place = (let p = a.place in let w = at.0 in let v = at.1 in let i = ap length items
            ∙ length-drop (e + 1) input.ring.items in let t = ap length is
            ∙ length-take e input.ring.items in omega (arith, p, w, v, i, t));
        taken = taken ∙ a.taken;
        consumed = a.consumed;
        written = Appends-trans _ _ _ _ _ a.written acted.written;
        reads = a.reads;
        writes = acted.unfailed ∙ a.writes;
      }

  module _ (stands : List (List ℕ) → Type 0) (now : Ends) (input : Input) where
    whole : (ended : Bool) (a : IsAt work table stands number old now input)
        → (first_fault work ended a.text ≡ fault_of (work.told table) a.past number a.start
        (lines_in ended input.ring.items) (part_line ended input.ring.items))
        × (acted_text work ended a.text ≡ a.so_far ++ given_of (work.told table) a.past (lines_in ended input.ring.items))
    whole ended a =
        let text = sym (append-nil a.text) in
        let items = append-nil input.ring.items in (
          ap (first_fault work ended) text ∙ a.fault ended []
              ∙ ap (λ xs. fault_of (work.told table) a.past number a.start (lines_in ended xs) (part_line ended xs)) items,
          ap (acted_text work ended) text ∙ a.gives ended []
              ∙ ap (λ xs. a.so_far ++ given_of (work.told table) a.past (lines_in ended xs)) items,
        )

    -- at a line that stops it
    pub line-stop : (e : ℕ) (line : List ℕ) (a : IsAt work table stands number old now input)
        → newline_in input.ring.items ≡ Some e → line ≡ take e input.ring.items → length input.ring.items ≤ ring_limit
        → input.taken ≤ input_limit
        → IsStop work old now stopped number (reading (work.told table) a.past line)
    line-stop e line a found is fits within =
        let later = lines_in false (drop (e + 1) input.ring.items ++ []) in
        let part = part_line false (input.ring.items ++ []) in record {
          text = a.text;
          so_far = a.so_far;
          start = a.start;
          later = fault_of (work.told table) (line ∷ a.past) (number + 1) (a.start + (length line + 1)) later part;
          more = given_of (work.told table) (line ∷ a.past) later;
          fault = ap (first_fault work false) (sym (append-nil a.text)) ∙ a.fault false []
              ∙ ap (λ ls. fault_of (work.told table) a.past number a.start ls part)
              (lines-cut false e input.ring.items [] found ∙ ap (λ l. l ∷ later) (sym is));
          gives = ap (acted_text work false) (sym (append-nil a.text)) ∙ a.gives false []
              ∙ ap (λ ls. a.so_far ++ given_of (work.told table) a.past ls)
              (lines-cut false e input.ring.items [] found ∙ ap (λ l. l ∷ later) (sym is));
          near = (let p = a.place in omega (arith, p, fits));
          within = (let t = a.taken in omega (arith, t, within));
          consumed = a.consumed;
          ended = (a.reads, (let t = a.taken in omega (arith, t, within)));
          written = a.written;
          writes = a.writes;
        }

    -- at a part line that is too long
    pub part-stop : IsAt work table stands number old now input → newline_in input.ring.items ≡ None
        → line_limit < length input.ring.items → length input.ring.items ≤ ring_limit
        → input.taken ≤ input_limit → IsStop work old now stopped number (Err LineLong)
    part-stop a none long fits within =
        let both = whole false a in
        let lines = no-line input.ring.items none in
        let part = only-part input.ring.items none in
        let test : nat_lt line_limit (length input.ring.items) ≡ true = grind (arith, nat_tests) in record {
          text = a.text;
          so_far = a.so_far;
          start = a.start;
          later = None;
          more = [];
          fault = both.0 ∙ ap (λ ls. fault_of (work.told table) a.past number a.start ls
              (part_line false input.ring.items)) lines ∙ ap (part_fault number a.start) part ∙ rw test refl;
          gives = both.1 ∙ ap (λ ls. a.so_far ++ given_of (work.told table) a.past ls) lines;
          near = (let p = a.place in omega (arith, p, fits));
          within = (let t = a.taken in omega (arith, t, within));
          consumed = a.consumed;
          ended = (a.reads, (let t = a.taken in omega (arith, t, within)));
          written = a.written;
          writes = a.writes;
        }

    -- at the last line
    pub last-stop : (line : List ℕ) (a : IsAt work table stands number old now input) → line ≡ input.ring.items
        → newline_in input.ring.items ≡ None → 0 < length input.ring.items → length input.ring.items ≤ ring_limit
        → input.taken ≤ input_limit → IsAtEnd now.left
        → IsStop work old now at_end number (reading (work.told table) a.past line)
    last-stop line a is none some fits within end =
        let both = whole true a in
        let lines = last-line input.ring.items none some ∙ ap (λ l. l ∷ []) (sym is) in record {
          text = a.text;
          so_far = a.so_far;
          start = a.start;
          later = fault_of (work.told table) (line ∷ a.past) (number + 1) (a.start + (length line + 1)) [] [];
          more = [];
          fault = both.0 ∙ ap (λ ls. fault_of (work.told table) a.past number a.start ls []) lines;
          gives = both.1 ∙ ap (λ ls. a.so_far ++ given_of (work.told table) a.past ls) lines;
          near = (let p = a.place in omega (arith, p, fits));
          within = (let t = a.taken in omega (arith, t, within));
          consumed = a.consumed;
          ended = (end, a.reads, (let t = a.taken in omega (arith, t, within)));
          written = a.written;
          writes = a.writes;
        }

    -- the last line was acted on
    pub last-done : (line : List ℕ) (a : IsAt work table stands number old now input) (stands' : Type 0)
        (written : Option (List ℕ)) (writes : ℕ) (text : List ℕ) → line ≡ input.ring.items
        → newline_in input.ring.items ≡ None
        → 0 < length input.ring.items → input.taken ≤ input_limit → IsAtEnd now.left
        → HasActedAs (reading (work.told table) a.past line) stands' (sink_end now.written now.writes) (sink_end written writes) text
        → HasRun (task_of work) old (ends now.left now.reads written writes) Done
    last-done line a stands' written writes text is none some within end acted =
        let both = whole true a in
        let lines = last-line input.ring.items none some ∙ ap (λ l. l ∷ []) (sym is) in
        let short : length a.text ≤ input_limit = (let t = a.taken in omega (arith, t, within)) in
        let part = part-within a.text short in
        done-answer work old (ends now.left now.reads written writes) at_end a.text (a.so_far ++ text) Done
        (record { consumed = a.consumed; ended = (end, a.reads, short) })
        (ap (first_fault work true) part ∙ both.0 ∙ ap
        (λ ls. fault_of (work.told table) a.past number a.start ls []) lines
        ∙ line-fault a.past a.start line [] [] text acted.read_is)
        (ap (acted_text work true) part ∙ both.1 ∙ ap (λ ls. a.so_far ++ given_of (work.told table) a.past ls) lines
        ∙ ap (λ g. a.so_far ++ g) (line-gives a.past line [] text acted.read_is ∙ append-nil text))
        (Appends-trans _ _ _ _ _ a.written acted.written) (acted.unfailed ∙ a.writes) refl

    -- nothing stands after the last newline
    pub end-done : IsAt work table stands number old now input → length input.ring.items ≡ 0
        → input.taken ≤ input_limit → IsAtEnd now.left → HasRun (task_of work) old now Done
    end-done a none within end =
        let both = whole true a in
        let lines = no-last input.ring.items none in
        let short : length a.text ≤ input_limit = (let t = a.taken in omega (arith, t, within)) in
        let part = part-within a.text short in
        done-answer work old now at_end a.text a.so_far Done
        (record { consumed = a.consumed; ended = (end, a.reads, short) })
        (ap (first_fault work true) part ∙ both.0 ∙ ap (λ ls. fault_of (work.told table) a.past number a.start ls []) lines)
        (ap (acted_text work true) part ∙ both.1 ∙ ap (λ ls. a.so_far ++ given_of (work.told table) a.past ls) lines
        ∙ append-nil a.so_far)
        a.written a.writes refl

    -- no line is whole, and the part line is no fault
    open-part : (a : IsAt work table stands number old now input) → newline_in input.ring.items ≡ None
        → length input.ring.items ≤ line_limit
        → (first_fault work false a.text ≡ None) × (acted_text work false a.text ≡ a.so_far)
    open-part a none short =
        let both = whole false a in
        let lines = no-line input.ring.items none in
        let part = only-part input.ring.items none in
        let test : nat_lt line_limit (length input.ring.items) ≡ false = grind (arith, nat_tests) in (
          both.0 ∙ ap (λ ls. fault_of (work.told table) a.past number a.start ls
              (part_line false input.ring.items)) lines ∙ ap (part_fault number a.start) part ∙ rw test refl,
          both.1 ∙ ap (λ ls. a.so_far ++ given_of (work.told table) a.past ls) lines ∙ append-nil a.so_far,
        )

    -- a read failed
    pub failed-run : (left : Option (List ℕ)) (reads : ℕ) → IsAt work table stands number old now input
        → newline_in input.ring.items ≡ None → length input.ring.items ≤ line_limit → input.taken ≤ input_limit
        → Consumes now.left left [] → Rose now.reads reads
        → HasRun (task_of work) old (ends left reads now.written now.writes) ReadFault
    failed-run left reads a none short within none_taken rose =
        let open' = open-part a none short in
        let fits : length a.text ≤ input_limit = (let t = a.taken in omega (arith, t, within)) in
        let part = part-within a.text fits in
        done-answer work old (ends left reads now.written now.writes) failed a.text a.so_far ReadFault
        (record {
          consumed = subst (Consumes old.left left) (append-nil a.text)
              (Consumes-trans _ _ _ _ _ a.consumed none_taken);
          ended =
              ((let same = a.reads in omega (arith, rose, same)), fits);
        })
        (ap (first_fault work false) part ∙ open'.0) (ap (acted_text work false) part ∙ open'.1) a.written a.writes refl

    -- a byte past the limit came
    pub full-run : (left : Option (List ℕ)) (reads byte : ℕ) → IsAt work table stands number old now input
        → newline_in input.ring.items ≡ None → length input.ring.items ≤ line_limit → input.taken ≡ input_limit
        → Consumes now.left left (byte ∷ []) → reads ≡ now.reads
        → HasRun (task_of work) old (ends left reads now.written now.writes) TooLong
    full-run left reads byte a none short all one same =
        let open' = open-part a none short in
        let size : length a.text ≡ input_limit = sym a.taken ∙ all in
        let part = part-one-over a.text byte size in
        done-answer work old (ends left reads now.written now.writes) full (a.text ++ byte ∷ []) a.so_far TooLong
        (record {
          consumed = Consumes-trans _ _ _ _ _ a.consumed one;
          ended =
              (same ∙ a.reads, length-append a.text (byte ∷ []) ∙ ap (λ n. n + 1) size);
        })
        (ap (first_fault work false) part ∙ open'.0) (ap (acted_text work false) part ∙ open'.1) a.written a.writes refl
