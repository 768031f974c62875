-- What the commands are that act on the lines of a script.
use Rattle.std.specs.Prelude.{ℕ, List, [], ◌∷◌, Option, Some, None, Result, Ok, Err}
use Rattle.life_table.specs.LifeTable.{LifeTable, default_table}
use Rattle.life_table.specs.TableIn.{table_in}
use Rattle.life_table.specs.Fault.{Fault, not_toml, bad_row}
use Rattle.script_core.specs.Script.{Line}
use Rattle.script_core.specs.Fields.{line_of}
use Rattle.refusal_core.specs.Refusal.{refusal_text}
use Rattle.refusal_core.specs.declared.reason.Reason.{Reason}
use Rattle.refusal_core.specs.declared.reason.Reason.TheVariants.{NotToml, BadRow, Syntax}
use Rattle.run_core.specs.Work.{Work}
use Rattle.fisb_app.specs.declared.party.Party.{Party}
use Rattle.fisb_app.specs.declared.party.Party.TheVariants.{Link, Ground, Receive, Gdl}
use Rattle.fisb_app.specs.Past.{lines_of}
use Rattle.fisb_app.specs.Reading.{refusal_of}
use Rattle.fisb_app.specs.Output.{Shows, heard_picture, promised_picture, sent_picture, given_text}
use Rattle.fisb_app.specs.Damage.{all_near}
use Rattle.fisb_app.specs.Origin.{Origin, all_sent, origin_picture}

-- no bytes stand for the default table
abbrev pub opening_table : List ℕ → Result LifeTable Fault
opening_table [] = Ok default_table
opening_table (b ∷ bytes) = table_in (b ∷ bytes)

abbrev pub reason_of_table : Fault → Reason
reason_of_table not_toml = NotToml
reason_of_table (bad_row row why) = BadRow row why

abbrev pub opened_with : Result LifeTable Fault → Option Reason
opened_with (Ok table) = None
opened_with (Err fault) = Some (reason_of_table fault)

-- a text, unless a reason stands against it
abbrev pub text_unless : List ℕ → Option Reason → Result (List ℕ) Reason
text_unless given None = Ok given
text_unless given (Some reason) = Err reason

abbrev pub line_answer : Party → Shows → LifeTable → List Line → Line → Result (List ℕ) Reason
line_answer party shows table acted line =
    text_unless (given_text party shows table acted line) (refusal_of party table acted line)

abbrev pub formed_answer : Party → Shows → LifeTable → List Line → Option Line
    → Result (List ℕ) Reason
formed_answer party shows table acted None = Err Syntax
formed_answer party shows table acted (Some line) = line_answer party shows table acted line

-- no line is acted on without a table
abbrev pub answer_under : Party → Shows → Result LifeTable Fault → List Line → Option Line
    → Result (List ℕ) Reason
answer_under party shows (Ok table) acted line = formed_answer party shows table acted line
answer_under party shows (Err fault) acted line = Err (reason_of_table fault)

unfoldable pub answer : Party → Shows → List ℕ → List (List ℕ) → List ℕ → Result (List ℕ) Reason
answer party shows table past line =
    answer_under party shows (opening_table table) (lines_of past) (line_of line)

-- what is written of a refused line: nothing among bytes for displays
abbrev pub refusal_written : Party → ℕ → Reason → List ℕ
refusal_written Gdl line reason = []
refusal_written party line reason = refusal_text line reason

abbrev pub work_of : Party → Shows → Work
work_of party shows = record {
  opened = λ table. opened_with (opening_table table);
  told = answer party shows;
  refusal = refusal_written party;
}

-- a ground and a receiver with the frames between them; a ground alone; a receiver alone; and what
-- hands frames on to displays
abbrev pub link_work : Work
link_work = work_of Link heard_picture

abbrev pub ground_work : Work
ground_work = work_of Ground heard_picture

abbrev pub receive_work : Work
receive_work = work_of Receive heard_picture

abbrev pub gdl_work : Work
gdl_work = work_of Gdl heard_picture

-- what a link promises: the pictures are told by what was given, sent and heard alone, as long as
-- each block of each frame was heard with at most ten wrong bytes
abbrev pub promised_work : Work
promised_work = work_of Link (promised_picture all_near sent_picture)

-- what a receiver promises: the pictures are told by what was given, sent and heard of a broadcast,
-- as long as each frame came from there
abbrev pub origin_work : Origin → Work
origin_work origin = work_of Receive (promised_picture (all_sent origin) (origin_picture origin))
