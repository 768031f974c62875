-- What the two loops keep, and how a read and a line keep it.
use Rattle.std.proofs.Common.{◌≡◌, ℕ, zero, suc, ◌+◌, ◌-◌, ◌≤◌, Bool, true, false, List, [], ◌∷◌, ◌++◌, Option, Some, None, option_map, length, take, drop, refl, sym, ap, subst, ◌∙◌, arith, append-nil, append_assoc, length-append, length-take, length-drop}
use Rattle.std.proofs.lemmas.List.{drop-append-le, drop-drop}
use Rattle.std.proofs.KnownBytes.{Consumes-trans}
use Rattle.list_members.specs.Tests.{mapped_from}
use Rattle.list_members.specs.Places.{take-rest}
use Rattle.std.specs.Io.KnownBytes.{Consumes}
use Rattle.byte_search.specs.FirstByte.{found_at}
use Rattle.run_core.specs.declared.input.Input.{Input}
use Rattle.run_core.specs.Limits.{ring_limit}
use Rattle.run_core.specs.Work.{Work}
use Rattle.run_core.specs.Lines.{lines_in, part_line}
use Rattle.run_core.specs.Opening.{opening_at}
use Rattle.run_core.specs.Reading.{IsWithin, HasGrown, newline_in}
use Rattle.run_core.specs.Run.{Ends, SourceEnd, ends, source_end}
use Rattle.run_core.specs.Running.{IsAt, IsSought}
use Rattle.run_core.specs.Searched.{IsHeld, IsTable, IsLast, is_end_here}
use Rattle.run_core.proofs.LineCuts.{lines-cut, part-cut, no-line, last-line, no-last}
use Rattle.run_core.proofs.Newlines.{none-append}
use Rattle.run_core.proofs.Openings.{opening-pass, opening-here, opening-long}

-- what the loop over lines keeps beside where it stands
pub record IsTurn (input : Input) (number : ℕ) (may_end : Bool) (spare reach_before reach_now : Option ℕ) : Type 0 where
  pub within : IsWithin input
  pub count : number + length input.ring.items ≤ input.taken + 2
  pub clear : may_end ≡ false → newline_in (drop 0 input.ring.items) ≡ None
  pub asks_none : spare ≡ None
  pub reach_is : reach_now ≡ reach_before

-- what the search keeps
pub record IsSearch (old now : SourceEnd) (input : Input) (place number : ℕ) (may_end : Bool) : Type 0 where
  pub within : IsWithin input
  pub held : IsHeld old now input
  pub sought : IsSought input.ring.items place number
  pub clear : may_end ≡ false → newline_in (drop place input.ring.items) ≡ None
  pub unfailed : now.reads ≡ old.reads

-- the first newline at or after a place, as the ring tells it
pub found-from : (from e : ℕ) (found : Option ℕ) → Some e ≡ option_map (λ end. from + end) found
    → (k : ℕ) × (found ≡ Some k) × (e ≡ from + k)
found-from from e found is =
    let before = mapped_from (λ end. from + end) found e (sym is) in
    (before.0, before.1, sym before.2)

pub found-first : (e : ℕ) (xs : List ℕ) → Some e ≡ option_map (λ end. 0 + end) (newline_in xs) → newline_in xs ≡ Some e
found-first e xs is =
    let k = found-from 0 e (newline_in xs) is in
    k.1 ∙ ap Some (let same = k.2 in omega (arith, same))

-- the same bytes are held
pub moved : (work : Work) (table : List ℕ) (stands : List (List ℕ) → Type 0) (number : ℕ) (old now : Ends)
    (input after : Input) → after ≡ input
    → IsAt work table stands number old now input → IsAt work table stands number old now after
moved work table stands number old now input after same a = subst (IsAt work table stands number old now) (sym same) a

-- a read that found the end
pub at-end-read : (work : Work) (table : List ℕ) (stands : List (List ℕ) → Type 0) (number : ℕ) (old : Ends)
    (lb la : Option (List ℕ)) (rb ra : ℕ) (written : Option (List ℕ)) (writes : ℕ) (input : Input)
    → Consumes lb la [] → ra ≡ rb → IsAt work table stands number old (ends lb rb written writes) input
    → IsAt work table stands number old (ends la ra written writes) input
at-end-read work table stands number old lb la rb ra written writes input none same a = record {
  past = a.past;
  start = a.start;
  text = a.text;
  so_far = a.so_far;
  stands_for = a.stands_for;
  fault = a.fault;
  gives = a.gives;
  place = a.place;
  taken = a.taken;
  consumed = subst (Consumes old.left la) (append-nil a.text) (Consumes-trans _ _ _ _ _ a.consumed none);
  written = a.written;
  reads = same ∙ a.reads;
  writes = a.writes;
}

pub count-more : (number limit : ℕ) (input after : Input) (lb la : Option (List ℕ)) (rb ra : ℕ) (piece : List ℕ)
    → HasGrown input after (source_end lb rb) (source_end la ra) piece
    → number + length input.ring.items ≤ input.taken + limit → number + length after.ring.items ≤ after.taken + limit
count-more number limit input after lb la rb ra piece g count =
    let size = ap length g.items ∙ length-append input.ring.items piece in
    let all = g.taken in
    omega (arith, size, all, count)

pub clear-more : (place : ℕ) (input after : Input) (lb la : Option (List ℕ)) (rb ra : ℕ) (piece : List ℕ)
    → HasGrown input after (source_end lb rb) (source_end la ra) piece → place ≤ length input.ring.items
    → newline_in (drop place input.ring.items) ≡ None → newline_in piece ≡ None
    → newline_in (drop place after.ring.items) ≡ None
clear-more place input after lb la rb ra piece g within none piece_none =
    ap (λ xs. newline_in (drop place xs)) g.items ∙ ap newline_in (drop-append-le place input.ring.items piece within)
    ∙ none-append (drop place input.ring.items) piece none piece_none

pub count-less : (number limit : ℕ) (input after : Input) (e : ℕ)
    → newline_in input.ring.items ≡ Some e → after.ring.items ≡ drop (e + 1) input.ring.items → after.taken ≡ input.taken
    → number + length input.ring.items ≤ input.taken + limit → number + 1 + length after.ring.items ≤ after.taken + limit
count-less number limit input after e found dropped taken count =
    let size = ap length dropped ∙ length-drop (e + 1) input.ring.items in
    let at = found_at 10 e input.ring.items (sym found) in
    let a = at.0 in
    let b = at.1 in
    omega (arith, size, taken, count, a, b)

pub within-less : (input after : Input) (count : ℕ) → after.ring.items ≡ drop count input.ring.items
    → after.ring.capacity ≡ input.ring.capacity → after.taken ≡ input.taken
    → IsWithin input → IsWithin after
within-less input after count dropped capacity taken w =
    let size = ap length dropped ∙ length-drop count input.ring.items in
    let a = w.items in
    let b = w.held in
    let d = w.taken in record {
      capacity = capacity ∙ w.capacity;
      items = omega (arith, size, a);
      held = omega (arith, size, taken, b);
      taken = omega (arith, taken, d);
    }

-- ---- the search

-- after a read
pub sought-more : (text piece : List ℕ) (place number : ℕ) → IsSought text place number
    → IsSought (text ++ piece) place number
sought-more text piece place number s =
    let rest : (more : List ℕ) → drop place text ++ (piece ++ more) ≡ drop place (text ++ piece) ++ more =
    (λ more. sym (append_assoc (drop place text) piece more)
    ∙ ap (λ xs. xs ++ more) (sym (drop-append-le place text piece s.within))) in
    let size = length-append text piece in
    let within = s.within in record {
      opened = λ ended more. ap (λ xs. opening_at 0 1 (lines_in ended xs)) (append_assoc text piece more)
          ∙ s.opened ended (piece ++ more)
          ∙ ap (λ xs. opening_at place number (lines_in ended xs)) (rest more);
      part = λ ended more. ap (part_line ended) (append_assoc text piece more) ∙ s.part ended (piece ++ more)
          ∙ ap (part_line ended) (rest more);
      within = omega (arith, size, within);
      count = s.count;
    }

-- the line from the place on: its bytes and what comes after it
rest-drop : (text more : List ℕ) (place k : ℕ) → drop (k + 1) (drop place text) ++ more ≡ drop (place + k + 1) text ++ more
rest-drop text more place k =
    let same : place + (k + 1) ≡ place + k + 1 = omega arith in
    ap (λ xs. xs ++ more) (drop-drop (k + 1) place text ∙ ap (λ n. drop n text) same)

-- after a line that does not end the table
pub sought-line : (text : List ℕ) (place number k : ℕ) → IsSought text place number
    → newline_in (drop place text) ≡ Some k → is_end_here text place k ≡ false → IsSought text (place + k + 1) (number + 1)
sought-line text place number k s found other =
    let at = found_at 10 k (drop place text) (sym found) in
    let size = length-drop place text in
    let line = length-take k (drop place text) in
    let a = at.0 in
    let b = at.1 in
    let within = s.within in
    let count = s.count in
    let next : place + (length (take k (drop place text)) + 1) ≡ place + k + 1 = omega (arith, a, b, line) in record {
      opened = λ ended more. s.opened ended more
          ∙ ap (opening_at place number) (lines-cut ended k (drop place text) more found)
          ∙ opening-pass place number (take k (drop place text))
          (lines_in ended (drop (k + 1) (drop place text) ++ more)) other
          ∙ ap (λ n. opening_at n (number + 1) (lines_in ended (drop (k + 1) (drop place text) ++ more))) next
          ∙ ap (λ xs. opening_at (place + k + 1) (number + 1) (lines_in ended xs)) (rest-drop text more place k);
      part = λ ended more. s.part ended more ∙ part-cut ended k (drop place text) more found
          ∙ ap (part_line ended) (rest-drop text more place k);
      within = omega (arith, a, b, size, within);
      count = omega (arith, count);
    }

-- at a line that ends it
pub sought-found : (text : List ℕ) (place number k : ℕ) → IsSought text place number
    → newline_in (drop place text) ≡ Some k → is_end_here text place k ≡ true → IsTable text place number
sought-found text place number k s found matched =
    let at = found_at 10 k (drop place text) (sym found) in
    let size = length-drop place text in
    let line = length-take k (drop place text) in
    let three = (opening-here place number (take k (drop place text)) [] matched).1 in
    let a = at.0 in
    let b = at.1 in
    let within = s.within in
    let four : place + k + 1 ≡ place + 4 = omega (arith, a, b, line, three) in
    let rest : (more : List ℕ) → drop (k + 1) (drop place text) ++ more ≡ drop (place + 4) text ++ more =
    (λ more. rest-drop text more place k ∙ ap (λ n. drop n text ++ more) four) in record {
      opened = λ ended more. s.opened ended more
          ∙ ap (opening_at place number) (lines-cut ended k (drop place text) more found)
          ∙ (opening-here place number (take k (drop place text))
          (lines_in ended (drop (k + 1) (drop place text) ++ more)) matched).0
          ∙ ap (λ xs. Some (record { size = place; number = number; later = lines_in ended xs })) (rest more);
      part = λ ended more. s.part ended more ∙ part-cut ended k (drop place text) more found
          ∙ ap (part_line ended) (rest more);
      within = omega (arith, a, b, size, within, four);
      count = s.count;
    }

-- so many bytes without it
pub sought-long : (text : List ℕ) (place number : ℕ) → IsSought text place number
    → newline_in (drop place text) ≡ None → ring_limit ≤ length text
    → (ended : Bool) (more : List ℕ) → opening_at 0 1 (lines_in ended (text ++ more)) ≡ None
sought-long text place number s none long ended more =
    let size = length-drop place text in
    let within = s.within in
    s.opened ended more ∙ opening-long place number ended (drop place text) more none (omega (arith, size, within, long))

whole-opened : (ended : Bool) (text : List ℕ) (place number : ℕ) → IsSought text place number
    → opening_at 0 1 (lines_in ended text) ≡ opening_at place number (lines_in ended (drop place text))
whole-opened ended text place number s =
    ap (λ xs. opening_at 0 1 (lines_in ended xs)) (sym (append-nil text)) ∙ s.opened ended []
    ∙ ap (λ xs. opening_at place number (lines_in ended xs)) (append-nil (drop place text))

-- a read failed
pub sought-none : (text : List ℕ) (place number : ℕ) → IsSought text place number
    → newline_in (drop place text) ≡ None → opening_at 0 1 (lines_in false text) ≡ None
sought-none text place number s none = whole-opened false text place number s
    ∙ ap (opening_at place number) (no-line (drop place text) none)

-- the input ended
pub sought-last : (text : List ℕ) (place number : ℕ) → IsSought text place number
    → newline_in (drop place text) ≡ None → is_end_here text place (length text - place) ≡ true → IsLast text place number
sought-last text place number s none matched =
    let line = take (length text - place) (drop place text) in
    let here = opening-here place number line [] matched in
    let three = here.1 in
    let same = ap length (take-rest place text) in record {
      opened = whole-opened true text place number s
          ∙ ap (opening_at place number) (last-line (drop place text) none (omega (arith, three, same))
          ∙ ap (λ l. l ∷ []) (sym (take-rest place text))) ∙ here.0;
      within = s.within;
      count = s.count;
    }

missing-by : (text : List ℕ) (place number : ℕ) (size : ℕ) → size ≡ length (drop place text)
    → IsSought text place number → newline_in (drop place text) ≡ None
    → is_end_here text place (length text - place) ≡ false
    → opening_at 0 1 (lines_in true text) ≡ None
missing-by text place number zero empty s none other = whole-opened true text place number s
    ∙ ap (opening_at place number) (no-last (drop place text) (sym empty))
missing-by text place number (suc size) some s none other =
    whole-opened true text place number s
    ∙ ap (opening_at place number) (last-line (drop place text) none (omega (arith, some))
    ∙ ap (λ l. l ∷ []) (sym (take-rest place text)))
    ∙ opening-pass place number (take (length text - place) (drop place text)) [] other

pub sought-missing : (text : List ℕ) (place number : ℕ) → IsSought text place number
    → newline_in (drop place text) ≡ None → is_end_here text place (length text - place) ≡ false
    → opening_at 0 1 (lines_in true text) ≡ None
sought-missing text place number s none other = missing-by text place number (length (drop place text)) refl s none other
