use Rattle.std.proofs.Common.{◌≡◌, ℕ, ◌∷◌, List, Option, Some, subst}
use Rattle.life_table.specs.LifeTable.{LifeTable}
use Rattle.uplink_weave.specs.Functions.{counts_in}
use Rattle.receiver_core.specs.Answers.{HasTakenPayload}
use Rattle.receiver_core.specs.Reception.{Reception}
use Rattle.receiver_core.specs.StandsFor.{StandsFor}
use Rattle.receiver_core.specs.declared.heard.Heard.{Heard}
use Rattle.uses.proofs.receiver.picture_after.Goals as goal

-- the payload of a frame that was heard is the newest reception
newest : (stands : List Reception → Type 0) (table : LifeTable) (past : List Reception) (moment : ℕ)
    (found : Option (List ℕ)) (payload counts : List ℕ) (answer : Heard) → found ≡ Some payload
    → HasTakenPayload stands table past moment found counts answer
    → stands (record { moment = moment; payload = payload } ∷ past)
newest stands table past moment found payload counts answer is taken =
    let heard = subst (λ one. HasTakenPayload stands table past moment one counts answer) is taken in heard.newest

pub returns-in-Ok-picture : goal.returns-in-Ok-picture
returns-in-Ok-picture c = λ table past payload stands is.
    let heard = c.in-Ok.ensures.heard table past stands in
    let shown = c.in-Ok-picture.ensures table (record { moment = c.args.moment; payload = payload } ∷ past)
    (newest (StandsFor table c.hear.new.self) table past c.args.moment _ payload
    (counts_in c.args.air.now) c.in-Ok.field-0 is heard.taken) in
    shown.shown
