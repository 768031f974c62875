-- One line more: what the parts of an actor leave.
use Rattle.std.proofs.Common.{◌≡◌, ℕ, Bool, true, false, if◌then◌else◌, List, ◌∷◌, Option, Some, None, option_map, Result, Ok, Err, sym, ap, subst, ◌∙◌}
use Rattle.std.specs.Option.{option_or, option_and_then}
use Rattle.uplink_weave.specs.Functions.{payload_in, lost_block_in}
use Rattle.life_table.specs.LifeTable.{LifeTable}
use Rattle.dlac_text.specs.declared.text_fault.TextFault.{TextFault}
use Rattle.ground_core.specs.Refusal.{GiveRefusal}
use Rattle.ground_core.specs.Told.{IsToldAt, IsToldOfText}
use Rattle.ground_core.specs.declared.fault.GiveFault.TheVariants.{BadText}
use Rattle.receiver_core.specs.Reception.{Reception}
use Rattle.receiver_core.specs.Hearing.{clock, lost, no_application, clock_of, refusal_of_air, payload_refusal, is_valid}
use Rattle.segment_core.specs.Store.{last_above}
use Rattle.script_core.specs.Script.{Line}
use Rattle.script_core.specs.Fields.{line_of}
use Rattle.refusal_core.specs.declared.reason.Reason.{Reason}
use Rattle.refusal_core.specs.declared.reason.Reason.TheVariants.{Clock}
use Rattle.run_core.specs.Actor.{HasActed}
use Rattle.run_core.specs.declared.stop.Stop.{Stop}
use Rattle.run_core.specs.declared.stop.Stop.TheVariants.{Refused, NoMemory}
use Rattle.fisb_app.specs.declared.in_order.InOrder.{InOrder}
use Rattle.fisb_app.specs.Past.{lines_of, reception_by, receiver_moment, receiver_clock}
use Rattle.fisb_app.specs.Reading.{receiver_refusal, reason_of_update}
use Rattle.fisb_app.specs.Output.{heard_by}
use Rattle.fisb_app.specs.Work.{text_unless}
use Rattle.fisb_app.specs.Stands.{IsInOrder, HasUnheard, TellsRefusal}
use Rattle.fisb_app.proofs.Judging.{lines-more}
use Rattle.fisb_app.proofs.Receiving.{no-clock}

-- a text's fault at a moment that is not too early
pub told-text : (last : Option ℕ) (refusal : Option GiveRefusal) (text : TextFault) (stop : Stop)
    → ((r : Option GiveRefusal) → IsToldOfText r text → TellsRefusal (option_map reason_of_update r) stop)
    → IsToldAt last refusal (BadText text) → TellsRefusal (option_or (option_map Clock last) (option_map reason_of_update refusal)) stop
told-text None refusal text stop tells is = tells refusal is
told-text (Some last) refusal text stop tells is = cc

-- a stop that tells the reason against a line is the answer
pub tells-acted : {G : Type 0} (text : G → List ℕ) (S : Type 0) (told : Result (List ℕ) Reason) (own : Option Reason) (given : List ℕ) (stop : Stop) → told ≡ text_unless given own
    → TellsRefusal own stop → HasActed text told S (Err stop)
tells-acted text S told own given (Refused why) e is = e ∙ ap (text_unless given) is
tells-acted text S told own given NoMemory e is = tt

-- a line that was acted on in its order is one more
pub in-order-more : {P V : Type 0} (holds : List ℕ → List Line → P → Type 0) (bytes : List ℕ) (past : List (List ℕ)) (raw : List ℕ) (line : Line)
    (old new : InOrder P V) (made : P) → line_of raw ≡ Some line → IsInOrder holds bytes past old → holds bytes (line ∷ lines_of past) made
    → new.inner ≡ made → new.clock ≡ option_or (receiver_moment line) old.clock
    → IsInOrder holds bytes (raw ∷ past) new
in-order-more holds bytes past raw line old new made is s h inner clocked =
    let more = lines-more raw past line is in record {
      parts = subst (λ acted. holds bytes acted new.inner) (sym more) (subst (λ p. holds bytes (line ∷ lines_of past) p) (sym inner) h);
      clock = clocked ∙ ap (option_or (receiver_moment line)) s.clock ∙ ap receiver_clock (sym more);
    }

valid-clock : (valid : Bool) (kept : ℕ) → (if valid then None else Some no_application) ≡ Some (clock kept) → ⊥
valid-clock true kept e = cc
valid-clock false kept e = cc

bytes-clock : (block : Option ℕ) (payload : Option (List ℕ)) (kept : ℕ) → option_or (option_map lost block) (option_and_then payload_refusal payload) ≡ Some (clock kept) → ⊥
bytes-clock (Some b) payload kept e = cc
bytes-clock None None kept e = cc
bytes-clock None (Some p) kept e = valid-clock (is_valid p) kept e

only-clock : (last block : Option ℕ) (payload : Option (List ℕ)) (kept : ℕ)
    → option_or (option_map clock last) (option_or (option_map lost block) (option_and_then payload_refusal payload)) ≡ Some (clock kept) → option_map Clock last ≡ Some (Clock kept)
only-clock (Some k) block payload kept e = let same : k ≡ kept = cc in ap (λ x. Some (Clock x)) same
only-clock None block payload kept e = absurd (bytes-clock block payload kept e)

pub unheard-clock : (past : List Reception) (moment kept : ℕ) (air : List ℕ) → refusal_of_air past moment air ≡ Some (clock kept) → receiver_refusal past moment ≡ Some (Clock kept)
unheard-clock past moment kept air e = only-clock (last_above (clock_of past) moment) (lost_block_in air) (payload_in air) kept e

pub unheard-lost : (table : LifeTable) (past : List Reception) (moment block : ℕ) (air text : List ℕ) → refusal_of_air past moment air ≡ Some (lost block)
    → text ≡ heard_by table past moment air (Some (lost block)) → HasUnheard table past moment air (Ok text)
unheard-lost table past moment block air text e is = (
  no-clock (last_above (clock_of past) moment) _ (Some (lost block)) (λ kept f. cc) e,
  (is ∙ ap (heard_by table past moment air) (sym e), ap (λ r. reception_by r moment (payload_in air)) e),
)

pub unheard-invalid : (table : LifeTable) (past : List Reception) (moment : ℕ) (air text : List ℕ) → refusal_of_air past moment air ≡ Some no_application
    → text ≡ heard_by table past moment air (Some no_application) → HasUnheard table past moment air (Ok text)
unheard-invalid table past moment air text e is = (
  no-clock (last_above (clock_of past) moment) _ (Some no_application) (λ kept f. cc) e,
  (is ∙ ap (heard_by table past moment air) (sym e), ap (λ r. reception_by r moment (payload_in air)) e),
)
