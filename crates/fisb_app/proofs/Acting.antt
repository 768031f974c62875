-- A line more: a frame that is heard, a picture that is shown, and an empty line.
use Rattle.std.proofs.Common.{◌≡◌, ℕ, List, ◌∷◌, map, Some, option_map, Result, Ok, Err, sym, ap, subst, ◌∙◌, slice_get}
use Rattle.std.specs.Option.{option_or}
use Rattle.std.specs.List.{cons_option}
use Rattle.picture_core.specs.Views.{entry_view, shown_value}
use Rattle.picture_core.specs.declared.entry.Entry.{Entry as ShownEntry}
use Rattle.life_table.specs.LifeTable.{LifeTable}
use Rattle.receiver_core.specs.Reception.{Reception, received_picture}
use Rattle.receiver_core.specs.Answers.{HasShown}
use Rattle.script_core.specs.Script.{Line, empty, hear, show}
use Rattle.script_core.specs.Printed.{picture_text}
use Rattle.refusal_core.specs.declared.reason.Reason.{Reason}
use Rattle.refusal_core.specs.declared.reason.Reason.TheVariants.{Clock}
use Rattle.run_core.specs.declared.stop.Stop.{Stop}
use Rattle.run_core.specs.declared.stop.Stop.TheVariants.{Refused, NoMemory}
use Rattle.fisb_app.specs.declared.link.Link.{Link}
use Rattle.fisb_app.specs.declared.party.Party.TheVariants.{Link as LinkParty}
use Rattle.fisb_app.specs.Past.{sent_frames, air_heard, reception_from, received_frame, receptions}
use Rattle.fisb_app.specs.Reading.{frame_refusal, receiver_refusal, own_refusal}
use Rattle.fisb_app.specs.Output.{heard_text, heard_frame, heard_picture, given_text}
use Rattle.fisb_app.specs.Stands.{Sends, Hears, Holds, LinkHolds, HasTried, IsFound, sent_view, aired_view}
use Rattle.fisb_app.proofs.Receiving.{HasReceived}
use Rattle.fisb_app.proofs.Grounds.{quiet-holds, hear-quiet, show-quiet, empty-quiet}

-- what a link has done for a line
abbrev pub HasLinked : {G E : Type 0} → Sends G → Hears E → List ℕ → List Line → Line → Link G E → Link G E → List ℕ → Type 0
HasLinked sends hears bytes acted line old new given =
    (given ≡ given_text LinkParty heard_picture old.sending.table acted line) × LinkHolds sends hears bytes (line ∷ acted) new

-- one frame more is heard
heard-holds : {G E : Type 0} (sends : Sends G) (hears : Hears E) (bytes : List ℕ) (acted : List Line) (moment number : ℕ) (wrong : List (ℕ × ℕ)) (old new : Link G E)
    → LinkHolds sends hears bytes acted old → new.sending ≡ old.sending → new.sent ≡ old.sent
    → hears old.sending.table (receptions old.sending.table (hear moment number wrong ∷ acted)) new.ear
    → LinkHolds sends hears bytes (hear moment number wrong ∷ acted) new
heard-holds sends hears bytes acted moment number wrong old new h sending sent ear =
    let line = hear moment number wrong in record {
      holds = subst (λ s. Holds sends bytes (line ∷ acted) s) (sym sending) (quiet-holds sends bytes acted line old.sending (hear-quiet moment number wrong) h.holds);
      sent = ap (λ s. map sent_view s.items) sent ∙ h.sent ∙ ap (λ s. map aired_view (sent_frames s.table acted)) (sym sending);
      ear = subst (λ s. hears s.table (receptions s.table (line ∷ acted)) new.ear) (sym sending) ear;
    }

pub heard-line : {G E : Type 0} (sends : Sends G) (hears : Hears E) (bytes : List ℕ) (acted : List Line) (moment number : ℕ) (wrong : List (ℕ × ℕ)) (old new : Link G E)
    (air heard : List ℕ) (result : Result (List ℕ) Stop) → LinkHolds sends hears bytes acted old → new.sending ≡ old.sending → new.sent ≡ old.sent
    → IsFound old.sending.table.late moment (slice_get (sent_frames old.sending.table acted) number) (Ok air) → heard ≡ air_heard wrong air
    → HasTried (receiver_refusal (receptions old.sending.table acted) moment)
    (HasReceived (λ past. hears old.sending.table past new.ear) old.sending.table (receptions old.sending.table acted) moment heard) result
    → HasTried (own_refusal LinkParty old.sending.table acted (hear moment number wrong)) (HasLinked sends hears bytes acted (hear moment number wrong) old new) result
heard-line sends hears bytes acted moment number wrong old new air heard (Ok text) h sending sent (frame, found, time, is) put t =
    let table = old.sending.table in
    let past = receptions table acted in
    let same = put ∙ ap (air_heard wrong) is in (
      ap (λ r. option_or r (receiver_refusal past moment)) time ∙ t.0,
      (
        t.1.0 ∙ ap (heard_text table past moment) same ∙ sym (ap (heard_frame table past moment wrong) found),
        heard-holds sends hears bytes acted moment number wrong old new h sending sent
            (subst (λ r. hears table (cons_option r past) new.ear) (ap (reception_from past moment) same ∙ sym (ap (received_frame past moment wrong) found)) t.1.1),
      ),
    )
heard-line sends hears bytes acted moment number wrong old new air heard (Err (Refused why)) h sending sent (frame, found, time, is) put t =
    ap (λ r. option_or r (receiver_refusal (receptions old.sending.table acted) moment)) time ∙ t
heard-line sends hears bytes acted moment number wrong old new air heard (Err NoMemory) h sending sent f put t = tt

-- no frame is heard
pub unfound-line : (table : LifeTable) (acted : List Line) (moment number : ℕ) (wrong : List (ℕ × ℕ)) (why : Reason)
    → frame_refusal table.late moment (slice_get (sent_frames table acted) number) ≡ Some why → own_refusal LinkParty table acted (hear moment number wrong) ≡ Some why
unfound-line table acted moment number wrong why e = ap (λ r. option_or r (receiver_refusal (receptions table acted) moment)) e

-- a picture is shown
pub shown-text : (table : LifeTable) (past : List Reception) (moment : ℕ) (entries : List ShownEntry) (text : List ℕ)
    → HasShown table past moment (Ok entries) → text ≡ picture_text moment (map entry_view entries)
    → HasTried (receiver_refusal past moment) (λ text. text ≡ picture_text moment (map shown_value (received_picture table past moment))) (Ok text)
shown-text table past moment entries text h written = (ap (option_map Clock) h.accepted, written ∙ ap (picture_text moment) h.shown)

-- a line that changes nothing
still-holds : {G E : Type 0} (sends : Sends G) (hears : Hears E) (bytes : List ℕ) (acted : List Line) (moment : ℕ) (link : Link G E)
    → LinkHolds sends hears bytes acted link → LinkHolds sends hears bytes (show moment ∷ acted) link
still-holds sends hears bytes acted moment link h =
    record { holds = quiet-holds sends bytes acted (show moment) link.sending (show-quiet moment) h.holds; sent = h.sent; ear = h.ear }

pub shown-line : {G E : Type 0} (sends : Sends G) (hears : Hears E) (bytes : List ℕ) (acted : List Line) (moment : ℕ) (link : Link G E)
    (result : Result (List ℕ) Stop) → LinkHolds sends hears bytes acted link
    → HasTried (receiver_refusal (receptions link.sending.table acted) moment)
    (λ text. text ≡ picture_text moment (map shown_value (received_picture link.sending.table (receptions link.sending.table acted) moment))) result
    → HasTried (own_refusal LinkParty link.sending.table acted (show moment)) (HasLinked sends hears bytes acted (show moment) link link) result
shown-line sends hears bytes acted moment link (Ok text) h t = (t.0, (t.1, still-holds sends hears bytes acted moment link h))
shown-line sends hears bytes acted moment link (Err (Refused why)) h t = t
shown-line sends hears bytes acted moment link (Err NoMemory) h t = tt

pub empty-line : {G E : Type 0} (sends : Sends G) (hears : Hears E) (bytes : List ℕ) (acted : List Line) (link : Link G E)
    → LinkHolds sends hears bytes acted link → LinkHolds sends hears bytes (empty ∷ acted) link
empty-line sends hears bytes acted link h =
    record { holds = quiet-holds sends bytes acted empty link.sending empty-quiet h.holds; sent = h.sent; ear = h.ear }
