-- A frame more that was heard, or was not.
use Rattle.std.proofs.Common.{◌≡◌, ℕ, List, map, Option, Some, None, option_map, Result, Ok, Err, refl, sym, ap, subst, ◌∙◌}
use Rattle.std.specs.Option.{option_or}
use Rattle.std.specs.List.{cons_option}
use Rattle.uplink_weave.specs.Functions.{payload_in, counts_in}
use Rattle.uplink_frame.specs.UplinkFrame.{header_in}
use Rattle.life_table.specs.LifeTable.{LifeTable}
use Rattle.receiver_core.specs.Reception.{Reception}
use Rattle.receiver_core.specs.Answers.{HasHeard, HasTakenPayload}
use Rattle.receiver_core.specs.Hearing.{HearRefusal, clock, clock_of, refusal_of_air, unread_view}
use Rattle.segment_core.specs.Store.{last_above}
use Rattle.receiver_core.specs.declared.heard.Heard.{Heard}
use Rattle.refusal_core.specs.declared.reason.Reason.TheVariants.{Clock}
use Rattle.run_core.specs.declared.stop.Stop.{Stop}
use Rattle.run_core.specs.declared.stop.Stop.TheVariants.{Refused, NoMemory}
use Rattle.script_core.specs.Printed.{heard_lines}
use Rattle.fisb_app.specs.Past.{reception_from, reception_by}
use Rattle.fisb_app.specs.Reading.{receiver_refusal}
use Rattle.fisb_app.specs.Output.{heard_text, heard_by, heard_payload}
use Rattle.fisb_app.specs.Stands.{HasTried, HasUnheard}

-- where the first reason is another than the clock, or there is none, the moment is in time
pub no-clock : (last : Option ℕ) (rest found : Option HearRefusal) → ((kept : ℕ) → found ≡ Some (clock kept) → ⊥)
    → option_or (option_map clock last) rest ≡ found → option_map Clock last ≡ None
no-clock None rest found other e = refl
no-clock (Some kept) rest found other e = absurd (other kept (sym e))

-- nothing stands against a frame that is heard; this is its text, and it is one reception more
abbrev pub HasReceived : (List Reception → Type 0) → LifeTable → List Reception → ℕ → List ℕ → List ℕ → Type 0
HasReceived stands table past moment air text =
    (text ≡ heard_text table past moment air) × stands (cons_option (reception_from past moment air) past)

taken : (stands : List Reception → Type 0) (table : LifeTable) (past : List Reception) (moment : ℕ) (air text : List ℕ) (answer : Heard) (payload : Option (List ℕ))
    → payload_in air ≡ payload → refusal_of_air past moment air ≡ None → HasTakenPayload stands table past moment payload (counts_in air) answer
    → text ≡ heard_lines moment answer.header answer.corrected (map unread_view answer.unread)
    → HasReceived stands table past moment air text
taken stands table past moment air text answer None is none h written = absurd h
taken stands table past moment air text answer (Some payload) is none h written =
    let told = h.answered in (
      written
          ∙ ap (λ header. heard_lines moment header answer.corrected (map unread_view answer.unread)) told.header
          ∙ ap (λ counts. heard_lines moment (header_in payload) counts (map unread_view answer.unread)) told.corrected
          ∙ ap (λ parts. heard_lines moment (header_in payload) (counts_in air) parts) told.unread
          ∙ ap (heard_payload table past moment (counts_in air)) (sym is)
          ∙ ap (heard_by table past moment air) (sym none),
      subst stands (sym (ap (λ one. cons_option one past) (ap (λ r. reception_by r moment (payload_in air)) none ∙ ap (reception_by None moment) is))) h.newest,
    )

pub received-heard : (stands : List Reception → Type 0) (table : LifeTable) (past : List Reception) (moment : ℕ) (air text : List ℕ) (answer : Heard)
    → HasHeard stands table past (refusal_of_air past moment air) moment (payload_in air) (counts_in air) (Ok answer)
    → text ≡ heard_lines moment answer.header answer.corrected (map unread_view answer.unread)
    → HasTried (receiver_refusal past moment) (HasReceived stands table past moment air) (Ok text)
received-heard stands table past moment air text answer h written = (
  no-clock (last_above (clock_of past) moment) _ None (λ kept e. cc) h.accepted,
  taken stands table past moment air text answer (payload_in air) refl h.accepted h.taken written,
)

-- what is told of a frame that is not heard, which leaves the receptions as they were
pub received-unheard : (stands : List Reception → Type 0) (table : LifeTable) (past : List Reception) (moment : ℕ) (air : List ℕ) (result : Result (List ℕ) Stop)
    → HasUnheard table past moment air result → stands past → HasTried (receiver_refusal past moment) (HasReceived stands table past moment air) result
received-unheard stands table past moment air (Ok text) u s =
    (u.0, (u.1.0, subst stands (sym (ap (λ one. cons_option one past) u.1.1)) s))
received-unheard stands table past moment air (Err (Refused why)) u s = u
received-unheard stands table past moment air (Err NoMemory) u s = tt
