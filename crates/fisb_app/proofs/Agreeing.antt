-- Two commands that differ in how pictures are told alone: what they ask is the same, where what is known of the lines acted on makes the pictures the same.
use Rattle.std.proofs.Common.{◌≡◌, ℕ, ◌+◌, Bool, nat_lt, if◌then◌else◌, List, [], ◌∷◌, ◌++◌, length, map, take, Option, Some, None, Result, Ok, Err, refl, sym, ap, subst, ◌∙◌}
use Rattle.list_members.specs.Tests.{ok_past_test}
use Rattle.picture_core.specs.Views.{shown_value}
use Rattle.life_table.specs.LifeTable.{LifeTable, default_table}
use Rattle.life_table.specs.TableIn.{table_in}
use Rattle.life_table.specs.Fault.{Fault as TableFault}
use Rattle.life_table.specs.Rules.{IsTable}
use Rattle.script_core.specs.Script.{Line, show}
use Rattle.script_core.specs.Printed.{picture_text}
use Rattle.script_core.specs.Fields.{line_of}
use Rattle.script_core.specs.LineView.{HasRanges}
use Rattle.script_core.specs.Laws.{LinesHaveRanges}
use Rattle.refusal_core.specs.declared.reason.Reason.{Reason}
use Rattle.refusal_core.specs.declared.reason.Reason.TheVariants.{LineLong}
use Rattle.run_core.specs.Limits.{line_limit}
use Rattle.run_core.specs.Work.{Fault}
use Rattle.run_core.specs.Lines.{lines_in, part_line}
use Rattle.run_core.specs.Opening.{Opening, opening_at}
use Rattle.run_core.specs.Acted.{reading, fault_of, fault_with, given_of, given_with, table_fault, table_given, opened_fault, opened_given, first_fault, acted_text, refused_text}
use Rattle.run_core.specs.Laws.{Agrees}
use Rattle.run_core.specs.Run.{task_of}
use Rattle.fisb_app.specs.declared.party.Party.{Party}
use Rattle.fisb_app.specs.Past.{lines_of}
use Rattle.fisb_app.specs.Reading.{refusal_of}
use Rattle.fisb_app.specs.Output.{Shows, given_text}
use Rattle.fisb_app.specs.Work.{answer, formed_answer, text_unless, opening_table, opened_with, work_of}
use Rattle.fisb_app.proofs.Judging.{answer-formed, lines-more}

-- what is known of the lines acted on, of which each line more keeps it, makes the pictures the same
pub record KeepsPictures (party : Party) (one other : Shows) (known : LifeTable → List Line → Type 0) : Type 0 where
  pub start : (table : LifeTable) → known table []
  pub more : (table : LifeTable) (acted : List Line) (line : Line) (size : ℕ) → IsTable table → HasRanges size line → refusal_of party table acted line ≡ None
      → known table acted → known table (line ∷ acted)
  pub shown : (table : LifeTable) (acted : List Line) (moment : ℕ) → IsTable table → refusal_of party table acted (show moment) ≡ None
      → known table acted → one table acted moment ≡ other table acted moment

given-same : (party : Party) (one other : Shows) (known : LifeTable → List Line → Type 0) → KeepsPictures party one other known → (table : LifeTable) (acted : List Line) (line : Line) → IsTable table → known table acted
    → refusal_of party table acted line ≡ None → given_text party one table acted line ≡ given_text party other table acted line
given-same party one other known keeps table acted (show moment) rules s e =
    ap (λ entries. picture_text moment (map shown_value entries)) (keeps.shown table acted moment rules e s)
given-same party one other known keeps table acted line rules s e = refl

judged-same : (one other : List ℕ) (refusal : Option Reason) → (refusal ≡ None → one ≡ other) → text_unless one refusal ≡ text_unless other refusal
judged-same one other None same = ap Ok (same refl)
judged-same one other (Some why) same = refl

formed-same : (party : Party) (one other : Shows) (known : LifeTable → List Line → Type 0) → KeepsPictures party one other known → (table : LifeTable) (acted : List Line) (form : Option Line) → IsTable table → known table acted
    → formed_answer party one table acted form ≡ formed_answer party other table acted form
formed-same party one other known keeps table acted None rules s = refl
formed-same party one other known keeps table acted (Some line) rules s = judged-same _ _ (refusal_of party table acted line) (given-same party one other known keeps table acted line rules s)

-- under a table of these bytes, after these lines
pub record IsUnder (bytes : List ℕ) (table : LifeTable) : Type 0 where
  pub ranges : LinesHaveRanges
  pub opened : opening_table bytes ≡ Ok table
  pub rules : IsTable table

told-same : (party : Party) (one other : Shows) (known : LifeTable → List Line → Type 0) → KeepsPictures party one other known → (bytes : List ℕ) (table : LifeTable) → IsUnder bytes table → (past : List (List ℕ)) (raw : List ℕ) → known table (lines_of past)
    → answer party one bytes past raw ≡ answer party other bytes past raw
told-same party one other known keeps bytes table u past raw s =
    answer-formed party one bytes past raw table (line_of raw) u.opened refl
    ∙ formed-same party one other known keeps table (lines_of past) (line_of raw) u.rules s
    ∙ sym (answer-formed party other bytes past raw table (line_of raw) u.opened refl)

read-same : (party : Party) (one other : Shows) (known : LifeTable → List Line → Type 0) → KeepsPictures party one other known → (bytes : List ℕ) (table : LifeTable) → IsUnder bytes table → (past : List (List ℕ)) (raw : List ℕ) → known table (lines_of past)
    → reading (answer party one bytes) past raw ≡ reading (answer party other bytes) past raw
read-same party one other known keeps bytes table u past raw s =
    ap (λ told. if nat_lt line_limit (length raw) then Err LineLong else told) (told-same party one other known keeps bytes table u past raw s)

-- a line that was acted on keeps what is known
judged-none : (given said : List ℕ) (refusal : Option Reason) → text_unless given refusal ≡ Ok said → refusal ≡ None
judged-none given said None e = refl
judged-none given said (Some why) e = cc

sound-formed : (party : Party) (one other : Shows) (known : LifeTable → List Line → Type 0) → KeepsPictures party one other known → (bytes : List ℕ) (table : LifeTable) → IsUnder bytes table → (past : List (List ℕ)) (raw said : List ℕ) (form : Option Line) → known table (lines_of past)
    → line_of raw ≡ form → formed_answer party one table (lines_of past) form ≡ Ok said → known table (lines_of (raw ∷ past))
sound-formed party one other known keeps bytes table u past raw said None s is e = cc
sound-formed party one other known keeps bytes table u past raw said (Some line) s is e =
    subst (known table) (sym (lines-more raw past line is))
    (keeps.more table (lines_of past) line (length raw) u.rules (u.ranges raw line is) (judged-none _ said _ e) s)

sound-read : (party : Party) (one other : Shows) (known : LifeTable → List Line → Type 0) → KeepsPictures party one other known → (bytes : List ℕ) (table : LifeTable) → IsUnder bytes table → (past : List (List ℕ)) (raw said : List ℕ) → known table (lines_of past)
    → reading (answer party one bytes) past raw ≡ Ok said → known table (lines_of (raw ∷ past))
sound-read party one other known keeps bytes table u past raw said s e =
    sound-formed party one other known keeps bytes table u past raw said (line_of raw) s refl
    (sym (answer-formed party one bytes past raw table (line_of raw) u.opened refl) ∙ (ok_past_test (nat_lt line_limit (length raw)) LineLong _ said e).1)

fault-with-same : (number start : ℕ) (read : Result (List ℕ) Reason) (one other : Option Fault) → ((said : List ℕ) → read ≡ Ok said → one ≡ other)
    → fault_with number start read one ≡ fault_with number start read other
fault-with-same number start (Ok said) one other same = same said refl
fault-with-same number start (Err why) one other same = refl

given-with-same : (read : Result (List ℕ) Reason) (one other : List ℕ) → ((said : List ℕ) → read ≡ Ok said → one ≡ other) → given_with read one ≡ given_with read other
given-with-same (Ok said) one other same = ap (λ later. said ++ later) (same said refl)
given-with-same (Err why) one other same = refl

faults-same : (party : Party) (one other : Shows) (known : LifeTable → List Line → Type 0) → KeepsPictures party one other known → (bytes : List ℕ) (table : LifeTable) → IsUnder bytes table → (past : List (List ℕ)) (number start : ℕ) (lines : List (List ℕ)) (part : List ℕ) → known table (lines_of past)
    → fault_of (answer party one bytes) past number start lines part ≡ fault_of (answer party other bytes) past number start lines part
faults-same party one other known keeps bytes table u past number start [] part s = refl
faults-same party one other known keeps bytes table u past number start (raw ∷ later) part s =
    fault-with-same number start (reading (answer party one bytes) past raw) _ _
    (λ said e. faults-same party one other known keeps bytes table u (raw ∷ past) (number + 1) (start + (length raw + 1)) later part (sound-read party one other known keeps bytes table u past raw said s e))
    ∙ ap (λ read. fault_with number start read (fault_of (answer party other bytes) (raw ∷ past) (number + 1) (start + (length raw + 1)) later part)) (read-same party one other known keeps bytes table u past raw s)

gives-same : (party : Party) (one other : Shows) (known : LifeTable → List Line → Type 0) → KeepsPictures party one other known → (bytes : List ℕ) (table : LifeTable) → IsUnder bytes table → (past lines : List (List ℕ)) → known table (lines_of past)
    → given_of (answer party one bytes) past lines ≡ given_of (answer party other bytes) past lines
gives-same party one other known keeps bytes table u past [] s = refl
gives-same party one other known keeps bytes table u past (raw ∷ later) s =
    given-with-same (reading (answer party one bytes) past raw) _ _
    (λ said e. gives-same party one other known keeps bytes table u (raw ∷ past) later (sound-read party one other known keeps bytes table u past raw said s e))
    ∙ ap (λ read. given_with read (given_of (answer party other bytes) (raw ∷ past) later)) (read-same party one other known keeps bytes table u past raw s)

-- every table that opens a run keeps the rules
pub record TablesKeepRules : Type 0 where
  pub default : IsTable default_table
  pub read : (bytes : List ℕ) (table : LifeTable) → table_in bytes ≡ Ok table → IsTable table

table-keeps : TablesKeepRules → (bytes : List ℕ) (table : LifeTable) → opening_table bytes ≡ Ok table → IsTable table
table-keeps keeps [] table is = let same : default_table ≡ table = cc in subst IsTable same keeps.default
table-keeps keeps (b ∷ bytes) table is = keeps.read (b ∷ bytes) table is

under : LinesHaveRanges → TablesKeepRules → (bytes : List ℕ) (table : LifeTable) → opening_table bytes ≡ Ok table → IsUnder bytes table
under ranges rules bytes table is = record { ranges = ranges; opened = is; rules = table-keeps rules bytes table is }

table-faults : (party : Party) (one other : Shows) (known : LifeTable → List Line → Type 0) → KeepsPictures party one other known → LinesHaveRanges → TablesKeepRules → (bytes : List ℕ) (number size : ℕ) (lines : List (List ℕ)) (part : List ℕ) (read : Result LifeTable TableFault) → opening_table bytes ≡ read
    → table_fault number (opened_with read) (fault_of (answer party one bytes) [] (number + 1) (size + 4) lines part)
    ≡ table_fault number (opened_with read) (fault_of (answer party other bytes) [] (number + 1) (size + 4) lines part)
table-faults party one other known keeps ranges rules bytes number size lines part (Ok table) is = faults-same party one other known keeps bytes table (under ranges rules bytes table is) [] (number + 1) (size + 4) lines part (keeps.start table)
table-faults party one other known keeps ranges rules bytes number size lines part (Err fault) is = refl

table-gives : (party : Party) (one other : Shows) (known : LifeTable → List Line → Type 0) → KeepsPictures party one other known → LinesHaveRanges → TablesKeepRules → (bytes : List ℕ) (lines : List (List ℕ)) (read : Result LifeTable TableFault) → opening_table bytes ≡ read
    → table_given (opened_with read) (given_of (answer party one bytes) [] lines) ≡ table_given (opened_with read) (given_of (answer party other bytes) [] lines)
table-gives party one other known keeps ranges rules bytes lines (Ok table) is = gives-same party one other known keeps bytes table (under ranges rules bytes table is) [] lines (keeps.start table)
table-gives party one other known keeps ranges rules bytes lines (Err fault) is = refl

opened-faults : (party : Party) (one other : Shows) (known : LifeTable → List Line → Type 0) → KeepsPictures party one other known → LinesHaveRanges → TablesKeepRules → (ended : Bool) (bytes : List ℕ) (opening : Option Opening) → opened_fault (work_of party one) ended bytes opening ≡ opened_fault (work_of party other) ended bytes opening
opened-faults party one other known keeps ranges rules ended bytes None = refl
opened-faults party one other known keeps ranges rules ended bytes (Some o) = table-faults party one other known keeps ranges rules (take o.size bytes) o.number o.size o.later (part_line ended bytes) (opening_table (take o.size bytes)) refl

opened-gives : (party : Party) (one other : Shows) (known : LifeTable → List Line → Type 0) → KeepsPictures party one other known → LinesHaveRanges → TablesKeepRules → (bytes : List ℕ) (opening : Option Opening) → opened_given (work_of party one) bytes opening ≡ opened_given (work_of party other) bytes opening
opened-gives party one other known keeps ranges rules bytes None = refl
opened-gives party one other known keeps ranges rules bytes (Some o) = table-gives party one other known keeps ranges rules (take o.size bytes) o.later (opening_table (take o.size bytes)) refl

first-same : (party : Party) (one other : Shows) (known : LifeTable → List Line → Type 0) → KeepsPictures party one other known → LinesHaveRanges → TablesKeepRules → (ended : Bool) (bytes : List ℕ) → first_fault (work_of party one) ended bytes ≡ first_fault (work_of party other) ended bytes
unfolding first_fault
first-same party one other known keeps ranges rules ended bytes = opened-faults party one other known keeps ranges rules ended bytes (opening_at 0 1 (lines_in ended bytes))

said-same : (party : Party) (one other : Shows) (known : LifeTable → List Line → Type 0) → KeepsPictures party one other known → LinesHaveRanges → TablesKeepRules → (ended : Bool) (bytes : List ℕ) → acted_text (work_of party one) ended bytes ≡ acted_text (work_of party other) ended bytes
unfolding acted_text
said-same party one other known keeps ranges rules ended bytes = opened-gives party one other known keeps ranges rules bytes (opening_at 0 1 (lines_in ended bytes))

pub pictures-agreed : (party : Party) (one other : Shows) (known : LifeTable → List Line → Type 0) → KeepsPictures party one other known → LinesHaveRanges → TablesKeepRules
    → Agrees (task_of (work_of party one)) (task_of (work_of party other))
pictures-agreed party one other known keeps ranges rules = record {
  fault = first-same party one other known keeps ranges rules;
  output = λ ended bytes. ap (λ said. said ++ refused_text (work_of party one) (first_fault (work_of party one) ended bytes)) (said-same party one other known keeps ranges rules ended bytes)
      ∙ ap (λ fault. acted_text (work_of party other) ended bytes ++ refused_text (work_of party other) fault) (first-same party one other known keeps ranges rules ended bytes);
}
