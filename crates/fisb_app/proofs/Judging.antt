-- The answer to a line, by its form and by what stands against it.
use Rattle.std.proofs.Common.{◌≡◌, ℕ, List, ◌∷◌, Option, Some, None, Ok, refl, sym, ap, ◌∙◌}
use Rattle.std.specs.Option.{option_or}
use Rattle.std.specs.List.{cons_option}
use Rattle.life_table.specs.LifeTable.{LifeTable}
use Rattle.script_core.specs.Script.{Line}
use Rattle.script_core.specs.Fields.{line_of}
use Rattle.refusal_core.specs.declared.reason.Reason.{Reason}
use Rattle.fisb_app.specs.declared.party.Party.{Party}
use Rattle.fisb_app.specs.Past.{lines_of, receiver_moment, receiver_clock}
use Rattle.fisb_app.specs.Reading.{front_refusal, party_refusal, earlier_refusal, own_refusal}
use Rattle.fisb_app.specs.Output.{Shows, given_text}
use Rattle.fisb_app.specs.Work.{answer, answer_under, formed_answer, line_answer, text_unless, opening_table}

-- a line is one more of those acted on
pub lines-more : (raw : List ℕ) (past : List (List ℕ)) (line : Line) → line_of raw ≡ Some line → lines_of (raw ∷ past) ≡ line ∷ lines_of past
lines-more raw past line is = ap (λ one. cons_option one (lines_of past)) is

pub answer-formed : (party : Party) (shows : Shows) (bytes : List ℕ) (past : List (List ℕ)) (raw : List ℕ) (table : LifeTable) (form : Option Line)
    → opening_table bytes ≡ Ok table → line_of raw ≡ form
    → answer party shows bytes past raw ≡ formed_answer party shows table (lines_of past) form
unfolding answer
answer-formed party shows bytes past raw table form opened is =
    ap (λ t. answer_under party shows t (lines_of past) (line_of raw)) opened
    ∙ ap (formed_answer party shows table (lines_of past)) is

-- the front reasons come before those of the content
pub answer-front : (party : Party) (shows : Shows) (table : LifeTable) (acted : List Line) (line : Line) (front own : Option Reason)
    → front_refusal party (receiver_clock acted) line ≡ front → own_refusal party table acted line ≡ own
    → line_answer party shows table acted line ≡ text_unless (given_text party shows table acted line) (option_or front own)
answer-front party shows table acted line front own is so =
    ap (λ f. text_unless (given_text party shows table acted line) (option_or f (own_refusal party table acted line))) is
    ∙ ap (λ o. text_unless (given_text party shows table acted line) (option_or front o)) so

-- the same front reasons by the clock that is kept
pub front-kept : (party : Party) (acted : List Line) (line : Line) (clock : Option ℕ) (found : Option Reason)
    → clock ≡ receiver_clock acted → found ≡ front_refusal party clock line
    → front_refusal party (receiver_clock acted) line ≡ found
front-kept party acted line clock found c is = ap (λ x. front_refusal party x line) (sym c) ∙ sym is

-- the first of two reasons is none: both are
pub or-none : {A : Type 0} (a b : Option A) → option_or a b ≡ None → (a ≡ None) × (b ≡ None)
or-none None b e = (refl, e)
or-none (Some x) b e = cc

-- a line against which nothing of the front stands
pub record IsClear (party : Party) (acted : List Line) (line : Line) : Type 0 where
  pub here : party_refusal party line ≡ None
  pub clock : earlier_refusal (receiver_moment line) (receiver_clock acted) ≡ None

pub clear : (party : Party) (acted : List Line) (line : Line) → front_refusal party (receiver_clock acted) line ≡ None → IsClear party acted line
clear party acted line e =
    let both = or-none (party_refusal party line) _ e in record { here = both.0; clock = both.1 }
