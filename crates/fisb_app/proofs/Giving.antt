-- A line that gives the ground an update.
use Rattle.std.proofs.Common.{◌≡◌, ℕ, true, List, [], ◌∷◌, option_map, Result, Ok, Err, OnErr, ap, ◌∙◌, append-nil, refl}
use Rattle.std.specs.Option.{option_or}
use Rattle.segment_core.specs.Store.{last_above}
use Rattle.life_table.specs.LifeTable.{LifeTable}
use Rattle.uplink_frame.specs.declared.station.StationId.{StationId}
use Rattle.ground_core.specs.Update.{Update}
use Rattle.ground_core.specs.History.{Event, accepted, items}
use Rattle.ground_core.specs.OnAir.{history_clock}
use Rattle.ground_core.specs.Refusal.{give_refusal}
use Rattle.ground_core.specs.declared.fault.GiveFault.{GiveFault}
use Rattle.script_core.specs.Script.{Line, text, radar, blank}
use Rattle.refusal_core.specs.declared.reason.Reason.TheVariants.{Clock}
use Rattle.run_core.specs.declared.stop.Stop.{Stop}
use Rattle.fisb_app.specs.declared.party.Party.{Party}
use Rattle.fisb_app.specs.Past.{sent_frames, receptions}
use Rattle.fisb_app.specs.Reading.{is_update, reason_of_update}
use Rattle.fisb_app.specs.Output.{Shows, given_text}
use Rattle.fisb_app.specs.Stands.{Sends, HasGiven, HasAnsweredUpdate, HasTried}

-- what is answered to an update that was given
pub update-answered : {G A B : Type 0} (sends : Sends G) (table : LifeTable) (station : StationId) (history : List Event) (old new : G) (moment : ℕ) (update : Update)
    (given : Result A GiveFault) (result : Result B Stop) (Done : Type 0) → HasGiven sends old new moment update given → HasAnsweredUpdate given result → sends table station history old
    → (sends table station (accepted moment update ∷ history) new → Done)
    → HasTried (option_or (option_map Clock (last_above (history_clock history) moment)) (option_map reason_of_update (give_refusal table (items table station history) moment update)))
    (λ done. Done) result
update-answered sends table station history old new moment update (Ok given) (Ok done) Done h a s more =
    let against = h.nothing_against table station history s in (
      ap (λ last. option_or (option_map Clock last) (option_map reason_of_update (give_refusal table (items table station history) moment update))) against.0
          ∙ ap (option_map reason_of_update) against.1,
      more (h.newest table station history s),
    )
update-answered sends table station history old new moment update (Ok given) (Err stop) Done h a s more = absurd a
update-answered sends table station history old new moment update (Err fault) (Ok done) Done h a s more = absurd a
update-answered sends table station history old new moment update (Err fault) (Err stop) Done h a s more =
    a _ _ (h.refused table station history s)

-- an update that is refused leaves the history
pub update-same : {G A B : Type 0} (sends : Sends G) (table : LifeTable) (station : StationId) (history : List Event) (old new : G) (moment : ℕ) (update : Update)
    (given : Result A GiveFault) (result : Result B Stop) (Same : Type 0) → HasGiven sends old new moment update given → HasAnsweredUpdate given result → sends table station history old
    → (sends table station history new → Same) → OnErr result Same
update-same sends table station history old new moment update (Ok given) (Ok done) Same h a s more = tt
update-same sends table station history old new moment update (Ok given) (Err stop) Same h a s more = absurd a
update-same sends table station history old new moment update (Err fault) (Ok done) Same h a s more = tt
update-same sends table station history old new moment update (Err fault) (Err stop) Same h a s more = more (h.same table station history s)

-- it sends and hears nothing, and writes nothing
pub update-frames : (acted : List Line) (line : Line) → is_update line ≡ true → (table : LifeTable) → sent_frames table (line ∷ acted) ≡ sent_frames table acted
update-frames acted (text moment version chars) is table = append-nil (sent_frames table acted)
update-frames acted (radar moment version key cells) is table = append-nil (sent_frames table acted)
update-frames acted (blank moment version product scale south numbers) is table = append-nil (sent_frames table acted)
update-frames acted line is table = cc

pub update-receptions : (acted : List Line) (line : Line) → is_update line ≡ true → (table : LifeTable) → receptions table (line ∷ acted) ≡ receptions table acted
update-receptions acted (text moment version chars) is table = refl
update-receptions acted (radar moment version key cells) is table = refl
update-receptions acted (blank moment version product scale south numbers) is table = refl
update-receptions acted line is table = cc

pub update-text : (party : Party) (shows : Shows) (table : LifeTable) (acted : List Line) (line : Line) → is_update line ≡ true → given_text party shows table acted line ≡ []
update-text party shows table acted (text moment version chars) is = refl
update-text party shows table acted (radar moment version key cells) is = refl
update-text party shows table acted (blank moment version product scale south numbers) is = refl
update-text party shows table acted line is = cc
