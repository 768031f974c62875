-- A fault of a prefix stays, and so does what the prefix gives, whatever comes after it.
use Rattle.std.proofs.Common.{◌≡◌, ℕ, ◌+◌, ◌<◌, ◌≤◌, ◌⊎◌, Bool, true, false, nat_lt, nat_le, List, [], ◌∷◌, ◌++◌, Option, Some, None, Result, Ok, Err, length, take, sym, ap, ◌∙◌, arith, refl, inl, inr, rules, tests, append-nil, append_assoc, length-append}
use Rattle.std.proofs.lemmas.Bool.{cases_Bool}
use Rattle.std.proofs.lemmas.Bool.Decides.{nat_tests}
use Rattle.std.proofs.lemmas.List.{take-append-le}
use Rattle.refusal_core.specs.declared.reason.Reason.{Reason}
use Rattle.refusal_core.specs.declared.reason.Reason.TheVariants.{LineLong, TableLong}
use Rattle.run_core.specs.Limits.{line_limit, ring_limit}
use Rattle.run_core.specs.Work.{Work, Fault}
use Rattle.run_core.specs.Lines.{lines_in, part_line}
use Rattle.run_core.specs.Opening.{Opening, opening_at, unopened_fault}
use Rattle.run_core.specs.Reading.{newline_in}
use Rattle.run_core.specs.Acted.{Telling, reading, part_fault, fault_with, fault_of, given_with, given_of, table_fault, table_given, opened_fault, opened_given, first_fault, acted_text, refused_text, output_of}
use Rattle.run_core.specs.Laws.{Begins, TasksAreStable}
use Rattle.run_core.proofs.LineCuts.{first-line, FirstLine, Splits, split, split-lines, split-part}
use Rattle.run_core.proofs.Openings.{opening-more, opening-none, opening-size}

-- the lines and the part line that a part line becomes: no line yet, or a first one of at least its bytes
abbrev Extends : List ℕ → List (List ℕ) → List ℕ → Type 0
Extends part lines longer = ((lines ≡ []) × (length part ≤ length longer))
    ⊎ ((line : List ℕ) × (later : List (List ℕ)) × (lines ≡ line ∷ later) × (length part ≤ length line))

extends-empty : (lines : List (List ℕ)) (longer part : List ℕ) → length part ≡ 0 → Extends part lines longer
extends-empty [] longer part empty = inl (refl, omega (arith, empty))
extends-empty (line ∷ later) longer part empty = inr (line, later, refl, omega (arith, empty))

extends-first : (ended : Bool) (part more : List ℕ) → FirstLine ended part more
    → Extends part (lines_in ended (part ++ more)) (part_line ended (part ++ more))
extends-first ended part more (inl none) =
    let size = length-append part more in
    inl (none.0, (let longer = ap length none.2 in omega (arith, size, longer)))
extends-first ended part more (inr some) = inr (some.0, some.1, some.2, some.3)

extends : (ended : Bool) (part more : List ℕ) → newline_in part ≡ None
    → Extends part (lines_in ended (part ++ more)) (part_line ended (part ++ more))
extends ended [] more clean = extends-empty _ _ [] refl
extends ended (b ∷ part) more clean = extends-first ended (b ∷ part) more
    (first-line ended (b ∷ part) more clean (omega arith))

-- a part line that is at fault is too long
part-long : (number start : ℕ) (part : List ℕ) (found : Fault) → part_fault number start part ≡ Some found
    → (line_limit < length part) × (found ≡ record { line = number; reason = LineLong; start = start })
part-long number start part found is =
    elim (cases_Bool (nat_lt line_limit (length part))) [
      | inl long ↦ (grind (arith, nat_tests), (let same = rw long at is in cc))
      | inr short ↦ absurd (let none = rw short at is in cc)
    ]

long-part : (number start : ℕ) (part : List ℕ) → line_limit < length part
    → part_fault number start part ≡ Some (record { line = number; reason = LineLong; start = start })
long-part number start part long =
    let test : nat_lt line_limit (length part) ≡ true = search (rules, tests) in rw test refl

pub long-reading : (told : Telling) (past : List (List ℕ)) (line : List ℕ) → line_limit < length line
    → reading told past line ≡ Err LineLong
long-reading told past line long = let test : nat_lt line_limit (length line) ≡ true = search (rules, tests) in rw test refl

pub short-reading : (told : Telling) (past : List (List ℕ)) (line : List ℕ) → length line ≤ line_limit
    → reading told past line ≡ told past line
short-reading told past line short = let test : nat_lt line_limit (length line) ≡ false = search
    (rules, tests) in rw test refl

-- so are the lines that it becomes
part-extended : (told : Telling) (past : List (List ℕ)) (number start : ℕ) (part : List ℕ) (lines : List (List ℕ))
    (longer : List ℕ) (found : Fault)
    → Extends part lines longer → part_fault number start part ≡ Some found
    → fault_of told past number start lines longer ≡ Some found
part-extended told past number start part lines longer found (inl none) is =
    let long = part-long number start part found is in
    ap (λ ls. fault_of told past number start ls longer) none.0
    ∙ long-part number start longer (let l = long.0 in let n = none.1 in omega (arith, l, n)) ∙ ap Some (sym long.1)
part-extended told past number start part lines longer found (inr some) is =
    let long = part-long number start part found is in
    let reads = long-reading told past some.0 (let l = long.0 in let n = some.3 in omega (arith, l, n)) in
    ap (λ ls. fault_of told past number start ls longer) some.2
    ∙ ap (λ r. fault_with number start r (fault_of told (some.0 ∷ past) (number + 1)
    (start + (length some.0 + 1)) some.1 longer)) reads ∙ ap Some (sym long.1)

part-gives : (told : Telling) (past : List (List ℕ)) (number start : ℕ) (part : List ℕ) (lines : List (List ℕ))
    (longer : List ℕ) (found : Fault)
    → Extends part lines longer → part_fault number start part ≡ Some found → given_of told past lines ≡ []
part-gives told past number start part lines longer found (inl none) is = ap (given_of told past) none.0
part-gives told past number start part lines longer found (inr some) is =
    let long = part-long number start part found is in
    let reads = long-reading told past some.0 (let l = long.0 in let n = some.3 in omega (arith, l, n)) in
    ap (given_of told past) some.2 ∙ ap (λ r. given_with r (given_of told (some.0 ∷ past) some.1)) reads

-- a fault of lines and a part line
fault-read : (number start : ℕ) (read : Result (List ℕ) Reason) (one other : Option Fault) (found : Fault)
    → (one ≡ Some found → other ≡ Some found)
    → fault_with number start read one ≡ Some found → fault_with number start read other ≡ Some found
fault-read number start (Ok text) one other found deeper is = deeper is
fault-read number start (Err reason) one other found deeper is = is

fault-front : (told : Telling) (past : List (List ℕ)) (number start : ℕ) (lines : List (List ℕ)) (part : List ℕ)
    (more : List (List ℕ)) (longer : List ℕ) (found : Fault)
    → Extends part more longer → fault_of told past number start lines part ≡ Some found
    → fault_of told past number start (lines ++ more) longer ≡ Some found
fault-front told past number start
    [] part more longer found ext is = part-extended told past number start part more longer found ext is
fault-front told past number start (line ∷ later) part more longer found ext is =
    fault-read number start (reading told past line) _ _ found
    (λ deeper. fault-front told (line ∷ past) (number + 1)
    (start + (length line + 1)) later part more longer found ext deeper) is

-- what lines give
same-read : (number start : ℕ) (read : Result (List ℕ) Reason) (fault : Option Fault) (one other : List ℕ)
    (found : Fault) → (fault ≡ Some found → one ≡ other)
    → fault_with number start read fault ≡ Some found → given_with read one ≡ given_with read other
same-read number start (Ok text) fault one other found deeper is = ap (λ given. text ++ given) (deeper is)
same-read number start (Err reason) fault one other found deeper is = refl

given-same : (told : Telling) (past : List (List ℕ)) (number start : ℕ) (lines : List (List ℕ)) (part : List ℕ)
    (more : List (List ℕ)) (longer : List ℕ) (found : Fault)
    → Extends part more longer → fault_of told past number start lines part ≡ Some found
    → given_of told past (lines ++ more) ≡ given_of told past lines
given-same told past number start
    [] part more longer found ext is = part-gives told past number start part more longer found ext is
given-same told past number start (line ∷ later) part more longer found ext is =
    same-read number start (reading told past line) _ _ _ found
    (λ deeper. given-same told (line ∷ past) (number + 1)
    (start + (length line + 1)) later part more longer found ext deeper) is

begins-read : (read : Result (List ℕ) Reason) (one other : List ℕ) → Begins one other
    → Begins (given_with read one) (given_with read other)
begins-read (Ok text) one other b = (b.0, ap (λ given. text ++ given) b.1 ∙ sym (append_assoc text one b.0))
begins-read (Err reason) one other b = ([], refl)

given-front : (told : Telling) (past : List (List ℕ)) (lines more : List (List ℕ))
    → Begins (given_of told past lines) (given_of told past (lines ++ more))
given-front told past [] more = (given_of told past more, refl)
given-front told past (line ∷ later) more = begins-read (reading told past line) _ _
    (given-front told (line ∷ past) later more)

-- behind a table
table-fault : (number : ℕ) (opened : Option Reason) (one other : Option Fault) (found : Fault)
    → (one ≡ Some found → other ≡ Some found)
    → table_fault number opened one ≡ Some found → table_fault number opened other ≡ Some found
table-fault number None one other found deeper is = deeper is
table-fault number (Some reason) one other found deeper is = is

table-same : (number : ℕ) (opened : Option Reason) (fault : Option Fault) (one other : List ℕ) (found : Fault)
    → (fault ≡ Some found → one ≡ other)
    → table_fault number opened fault ≡ Some found → table_given opened one ≡ table_given opened other
table-same number None fault one other found deeper is = deeper is
table-same number (Some reason) fault one other found deeper is = refl

table-begins : (opened : Option Reason) (one other : List ℕ) → Begins one other
    → Begins (table_given opened one) (table_given opened other)
table-begins None one other b = b
table-begins (Some reason) one other b = ([], refl)

-- an input without an opening that is at fault is too long for one
unopened-long : (size : ℕ) (found : Fault) → unopened_fault false size ≡ Some found
    → (ring_limit ≤ size) × (found ≡ record { line = 1; reason = TableLong; start = 0 })
unopened-long size found is =
    elim (cases_Bool (nat_le ring_limit size)) [
      | inl long ↦ (grind (arith, nat_tests), (let same = rw long at is in cc))
      | inr short ↦ absurd (let none = rw short at is in cc)
    ]

long-unopened : (ended : Bool) (size : ℕ) → ring_limit ≤ size
    → unopened_fault ended size ≡ Some (record { line = 1; reason = TableLong; start = 0 })
long-unopened ended size long = let test : nat_le ring_limit size ≡ true = grind (arith, nat_tests) in rw test refl

-- what a prefix shows of its fault and of what it gives
record Grows (work : Work) (front more : List ℕ) (ended : Bool) (now later : Option Opening) : Type 0 where
  fault : (found : Fault) → opened_fault work false front now ≡ Some found
      → opened_fault work ended (front ++ more) later ≡ Some found
  begins : Begins (opened_given work front now) (opened_given work (front ++ more) later)
  same : (found : Fault) → opened_fault work false front now ≡ Some found
      → opened_given work (front ++ more) later ≡ opened_given work front now

grows-none : (work : Work) (front more : List ℕ) (ended : Bool) (lines : List (List ℕ)) (part : List ℕ)
    (later : Option Opening) → Splits front lines part
    → opening_at 0 1 lines ≡ None → later ≡ opening_at 0 1 (lines ++ lines_in ended (part ++ more))
    → Grows work front more ended None later
grows-none work front more ended lines part later s none is =
    let stays : (found : Fault) → unopened_fault false (length front) ≡ Some found → later ≡ None =
    (λ found f. let long = (unopened-long (length front) found f).0 in let size = s.size in
    is ∙ opening-none 0 1 lines ended part more s.clean (omega (arith, long, size)) none) in record {
      fault = λ found f. ap (opened_fault work ended (front ++ more)) (stays found f)
          ∙ long-unopened ended (length (front ++ more))
          (let long = (unopened-long (length front) found f).0 in
          let size = length-append front more in omega (arith, long, size))
          ∙ ap Some (sym (unopened-long (length front) found f).1);
      begins = (opened_given work (front ++ more) later, refl);
      same = λ found f. ap (opened_given work (front ++ more)) (stays found f);
    }

grows-some : (work : Work) (front more : List ℕ) (ended : Bool) (lines : List (List ℕ)) (part : List ℕ) (o : Opening)
    (later : Option Opening) → Splits front lines part
    → opening_at 0 1 lines ≡ Some o → later ≡ opening_at 0 1 (lines ++ lines_in ended (part ++ more))
    → Grows work front more ended (Some o) later
grows-some work front more ended lines part o later s some is =
    let added = lines_in ended (part ++ more) in
    let now : later ≡ Some (record o { later = o.later ++ added }) = is ∙ opening-more 0 1 lines added o some in
    let fits : o.size ≤ length front = (let size = opening-size 0 1 lines o some in
    let all = s.size in omega (arith, size, all)) in
    let table : take o.size (front ++ more) ≡ take o.size front = take-append-le o.size front more fits in
    let longer : part_line ended (front ++ more) ≡ part_line ended (part ++ more) = s.part_is ended more in
    let told = work.told (take o.size front) in
    let opened = work.opened (take o.size front) in
    let ext = extends ended part more s.clean in
    let split-of = split-part front lines part s in
    let fault-is : opened_fault work ended (front ++ more) later ≡ table_fault o.number opened
    (fault_of told [] (o.number + 1) (o.size + 4) (o.later ++ added) (part_line ended (part ++ more))) =
    ap (opened_fault work ended (front ++ more)) now
    ∙ ap (λ t. table_fault o.number (work.opened t)
    (fault_of (work.told t) [] (o.number + 1) (o.size + 4) (o.later ++ added) (part_line ended (front ++ more)))) table
    ∙ ap (λ p. table_fault o.number opened (fault_of told [] (o.number + 1) (o.size + 4) (o.later ++ added) p)) longer in
    let given-is : opened_given work (front ++ more) later ≡ table_given opened (given_of told [] (o.later ++ added)) =
    ap (opened_given work (front ++ more)) now ∙ ap
    (λ t. table_given (work.opened t) (given_of (work.told t) [] (o.later ++ added))) table in
    let had : opened_fault work false front (Some o) ≡ table_fault o.number opened
    (fault_of told [] (o.number + 1) (o.size + 4) o.later part) =
    ap (λ p. table_fault o.number opened (fault_of told [] (o.number + 1) (o.size + 4) o.later p)) split-of in record {
      fault = λ found f. fault-is ∙ table-fault o.number opened _ _ found
          (fault-front told [] (o.number + 1) (o.size + 4) o.later part added
          (part_line ended (part ++ more)) found ext) (sym had ∙ f);
      begins = (let b = table-begins opened _ _ (given-front told [] o.later added) in (b.0, given-is ∙ b.1));
      same = λ found f. given-is ∙ table-same o.number opened _ _ _ found
          (given-same told [] (o.number + 1) (o.size + 4) o.later part added
          (part_line ended (part ++ more)) found ext) (sym had ∙ f);
    }

grows-by : (work : Work) (front more : List ℕ) (ended : Bool) (lines : List (List ℕ)) (part : List ℕ)
    (now later : Option Opening) → Splits front lines part
    → opening_at 0 1 lines ≡ now → later ≡ opening_at 0 1 (lines ++ lines_in ended (part ++ more))
    → Grows work front more ended now later
grows-by work front more ended lines part None later s now is = grows-none work front more ended lines part later s now is
grows-by work front more ended lines part
    (Some o) later s now is = grows-some work front more ended lines part o later s now is

grows : (work : Work) (front more : List ℕ) (ended : Bool)
    → Grows work front more ended (opening_at 0 1 (lines_in false front)) (opening_at 0 1 (lines_in ended (front ++ more)))
grows work front more ended =
    let s = split front in
    grows-by work front more ended s.0 s.1 _ _ s.2 (ap (opening_at 0 1) (sym (split-lines front s.0 s.1 s.2)))
    (ap (opening_at 0 1) (s.2.lines_are ended more))

fault-stays : (work : Work) (front more : List ℕ) (ended : Bool) (found : Fault)
    → first_fault work false front ≡ Some found → first_fault work ended (front ++ more) ≡ Some found
unfolding first_fault
fault-stays work front more ended found is = (grows work front more ended).fault found is

given-begins : (work : Work) (front more : List ℕ) (ended : Bool)
    → Begins (acted_text work false front) (acted_text work ended (front ++ more))
unfolding acted_text
given-begins work front more ended = (grows work front more ended).begins

given-stays : (work : Work) (front more : List ℕ) (ended : Bool) (found : Fault)
    → first_fault work false front ≡ Some found → acted_text work ended (front ++ more) ≡ acted_text work false front
unfolding acted_text first_fault
given-stays work front more ended found is = (grows work front more ended).same found is

output-stays : (work : Work) (front more : List ℕ) (ended : Bool) (found : Fault)
    → first_fault work false front ≡ Some found → output_of work ended (front ++ more) ≡ output_of work false front
output-stays work front more ended found is =
    ap (λ g. g ++ refused_text work (first_fault work ended (front ++ more))) (given-stays work front more ended found is)
    ∙ ap (λ f. acted_text work false front ++ refused_text work f) (fault-stays work front more ended found is ∙ sym is)

begins-by : (work : Work) (front more : List ℕ) (ended : Bool) (fault : Option Fault)
    → first_fault work false front ≡ fault → Begins (output_of work false front) (output_of work ended (front ++ more))
begins-by work front more ended (Some found) is = (
  [],
  output-stays work front more ended found is
      ∙ sym (append-nil (output_of work false front)),
)
begins-by work front more ended None is =
    let b = given-begins work front more ended in
    let refused = refused_text work (first_fault work ended (front ++ more)) in
    let now : output_of work false front ≡ acted_text work false front = ap
    (λ f. acted_text work false front ++ refused_text work f) is ∙ append-nil (acted_text work false front) in (
      b.0 ++ refused,
      ap (λ g. g ++ refused) b.1 ∙ append_assoc (acted_text work false front) b.0 refused
          ∙ ap (λ g. g ++ (b.0 ++ refused)) (sym now),
    )

pub tasks-stable : TasksAreStable
tasks-stable work = record {
  fault = fault-stays work;
  begins = λ front more ended. begins-by work front more ended (first_fault work false front) refl;
  output = output-stays work;
}
