-- What the calls of a receiver answer, where it stands for some receptions: one that hears a frame,
-- and one that shows.
use Rattle.std.specs.Prelude.{◌≡◌, ℕ, List, ◌∷◌, Option, Some, None, Result, OnOk, OnErr, IfOk}
use Rattle.std.specs.Prelude.{IfErr}
use Rattle.life_table.specs.LifeTable.{LifeTable}
use Rattle.picture_core.specs.declared.entry.Entry.{Entry as ShownEntry}
use Rattle.receiver_core.specs.Hearing.{HearRefusal, IsHearFault, IsHeardOf, IsPictureOf}
use Rattle.receiver_core.specs.Hearing.{IsShowFault, clock_of}
use Rattle.segment_core.specs.Store.{last_above}
use Rattle.receiver_core.specs.Reception.{Reception}
use Rattle.receiver_core.specs.declared.heard.Heard.{Heard}
use Rattle.receiver_core.specs.declared.heard.HearFault.{HearFault}
use Rattle.receiver_core.specs.declared.heard.ShowFault.{ShowFault}

-- a payload that was heard is the newest reception then, and is answered as that one
pub record HasTaken (stands : List Reception → Type 0) (table : LifeTable) (past : List Reception)
    (heard : Reception)
    (counts : List ℕ) (answer : Heard) : Type 0 where
  pub newest : stands (heard ∷ past)
  pub answered : IsHeardOf table past heard counts answer

-- only a frame that has a payload is heard
abbrev pub HasTakenPayload : (List Reception → Type 0) → LifeTable → List Reception → ℕ
    → Option (List ℕ) → List ℕ
    → Heard → Type 0
HasTakenPayload stands table past moment None counts answer = ⊥
HasTakenPayload stands table past moment (Some payload) counts answer =
    HasTaken stands table past (record { moment = moment; payload = payload }) counts answer

-- A frame is heard only where nothing refuses it, and is refused by its refusal alone, or out of
-- memory; what is refused changes nothing. `stands` says for which receptions the receiver stands
-- after the call.
pub record HasHeard (stands : List Reception → Type 0) (table : LifeTable) (past : List Reception)
    (refusal : Option HearRefusal) (moment : ℕ) (payload : Option (List ℕ)) (counts : List ℕ)
    (result : Result Heard HearFault) : Type 0 where
  pub accepted : OnOk result (refusal ≡ None)
  pub taken : IfOk result (HasTakenPayload stands table past moment payload counts)
  pub refused : IfErr result (IsHearFault refusal)
  pub kept : OnErr result (stands past)

-- the picture of these receptions, except at a moment before the last of them
pub record HasShown (table : LifeTable) (past : List Reception) (moment : ℕ)
    (result : Result (List ShownEntry) ShowFault)
    : Type 0 where
  pub accepted : OnOk result (last_above (clock_of past) moment ≡ None)
  pub shown : IfOk result (IsPictureOf table past moment)
  pub refused : IfErr result (IsShowFault (last_above (clock_of past) moment))
