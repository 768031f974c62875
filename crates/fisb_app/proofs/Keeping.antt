-- A line that sends and hears nothing leaves the frames and the receptions as they were.
use Rattle.std.proofs.Common.{◌≡◌, ℕ, List, ◌∷◌, length, map, sym, ap, subst, ◌∙◌}
use Rattle.life_table.specs.LifeTable.{LifeTable}
use Rattle.script_core.specs.Script.{Line}
use Rattle.fisb_app.specs.declared.link.Link.{Link}
use Rattle.fisb_app.specs.declared.ground_alone.GroundAlone.{GroundAlone}
use Rattle.fisb_app.specs.Past.{sent_frames, receptions}
use Rattle.fisb_app.specs.Stands.{Sends, Hears, Holds, LinkHolds, AloneHolds, sent_view, aired_view}

pub link-kept : {G E : Type 0} (sends : Sends G) (hears : Hears E) (bytes : List ℕ) (acted : List Line) (line : Line) (old new : Link G E)
    → Holds sends bytes (line ∷ acted) new.sending → new.sending.table ≡ old.sending.table → new.sent ≡ old.sent → new.ear ≡ old.ear
    → ((t : LifeTable) → sent_frames t (line ∷ acted) ≡ sent_frames t acted) → ((t : LifeTable) → receptions t (line ∷ acted) ≡ receptions t acted)
    → LinkHolds sends hears bytes acted old → LinkHolds sends hears bytes (line ∷ acted) new
link-kept sends hears bytes acted line old new holds table sent ear frames received h = record {
  holds = holds;
  sent = ap (λ s. map sent_view s.items) sent ∙ h.sent ∙ ap (λ t. map aired_view (sent_frames t acted)) (sym table) ∙ ap (map aired_view) (sym (frames new.sending.table));
  ear = subst (λ r. hears new.sending.table r new.ear) (sym (received new.sending.table))
      (subst (λ t. hears t (receptions t acted) new.ear) (sym table)
      (subst (λ e. hears old.sending.table (receptions old.sending.table acted) e) (sym ear) h.ear));
}

pub alone-kept : {G : Type 0} (sends : Sends G) (bytes : List ℕ) (acted : List Line) (line : Line) (old new : GroundAlone G)
    → Holds sends bytes (line ∷ acted) new.sending → new.sending.table ≡ old.sending.table → new.sent ≡ old.sent
    → ((t : LifeTable) → sent_frames t (line ∷ acted) ≡ sent_frames t acted)
    → AloneHolds sends bytes acted old → AloneHolds sends bytes (line ∷ acted) new
alone-kept sends bytes acted line old new holds table sent frames h = record {
  holds = holds;
  sent = sent ∙ h.sent ∙ ap (λ t. length (sent_frames t acted)) (sym table) ∙ ap length (sym (frames new.sending.table));
}
