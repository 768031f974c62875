-- A step more of a workload: what stands against its line, and what was made with it.
use Rattle.std.proofs.Common.{◌≡◌, ℕ, ◌+◌, true, false, List, ◌∷◌, length, Option, Some, None, option_map, is_some, Result, Ok, Err, OnOk, refl, sym, ap, subst, ◌∙◌, arith, append-nil}
use Rattle.std.specs.Option.{option_or}
use Rattle.life_table.specs.LifeTable.{LifeTable}
use Rattle.ground_core.specs.Update as updates
use Rattle.ground_core.specs.Update.{Update}
use Rattle.ground_core.specs.History.{accepted}
use Rattle.ground_core.specs.Sent.{HistoriesGrow}
use Rattle.ground_core.specs.declared.fault.GiveFault.{GiveFault}
use Rattle.script_core.specs.Script.{Line, text, radar, blank}
use Rattle.refusal_core.specs.declared.reason.Reason.{Reason}
use Rattle.refusal_core.specs.declared.reason.Reason.TheVariants.{Clock}
use Rattle.run_core.specs.declared.stop.Stop.{Stop}
use Rattle.run_core.specs.declared.stop.Stop.TheVariants.{Refused, NoMemory}
use Rattle.workload.specs.declared.step.Step.{Step}
use Rattle.workload.specs.declared.step.Step.TheVariants as steps
use Rattle.fisb_app.specs.declared.making.Making.{Making}
use Rattle.fisb_app.specs.declared.counts.Counts.{Counts}
use Rattle.fisb_app.specs.Past.{broadcast, events, station_after, sent_frames, receptions, receiver_clock, receiver_moment}
use Rattle.fisb_app.specs.Reading.{update_refusal, earlier_than}
use Rattle.fisb_app.specs.Stands.{Sends, Hears, HasGiven, HasAnsweredUpdate, HasTried}
use Rattle.fisb_app.specs.Make.{acted_unless, after_step, block_named, total, updates_by, corrected_by, entries_by, last_frame}
use Rattle.fisb_app.specs.MakingHolds.{MakingHolds, IsCounted, with_update, aired_one}
use Rattle.fisb_app.proofs.Giving.{update-answered}

-- what stands against a line of a moment: the clock, and then its own reason
abbrev pub against : Option ℕ → Option Reason → Option Reason
against early own = option_or (option_map Clock early) own

pub early-kept : (early : Option ℕ) (own : Option Reason) (line : Line) (acted : List Line) → is_some early ≡ true → acted_unless (against early own) line acted ≡ acted
early-kept (Some kept) own line acted e = refl
early-kept None own line acted e = cc

pub timely : (early : Option ℕ) (own : Option Reason) (line : Line) (acted : List Line) → is_some early ≡ false → acted_unless (against early own) line acted ≡ acted_unless own line acted
timely (Some kept) own line acted e = cc
timely None own line acted e = refl

pub refused-kept : (own : Option Reason) (why : Reason) (line : Line) (acted : List Line) → own ≡ Some why → acted_unless own line acted ≡ acted
refused-kept own why line acted e = ap (λ r. acted_unless r line acted) e

pub free-acted : (own : Option Reason) (line : Line) (acted : List Line) → own ≡ None → acted_unless own line acted ≡ line ∷ acted
free-acted own line acted e = ap (λ r. acted_unless r line acted) e

-- the line of a step of the receiver is the next one, unless a reason stands against it
pub record IsNextStep (table : LifeTable) (acted : List Line) (step : Step) (moment : ℕ) (line : Line) (own : Option Reason) : Type 0 where
  pub after : after_step table acted step ≡ acted_unless (against (earlier_than (Some moment) (receiver_clock acted)) own) line acted
  pub moment_is : receiver_moment line ≡ Some moment

pub early-step : {G E : Type 0} (sends : Sends G) (hears : Hears E) (table : LifeTable) (acted : List Line) (step : Step) (moment : ℕ) (line : Line) (own : Option Reason) (making : Making G E)
    → IsNextStep table acted step moment line own → MakingHolds sends hears table acted making → is_some (earlier_than (Some moment) making.clock) ≡ true
    → MakingHolds sends hears table (after_step table acted step) making
early-step sends hears table acted step moment line own making next h early =
    subst (λ lines. MakingHolds sends hears table lines making)
    (sym (next.after ∙ early-kept (earlier_than (Some moment) (receiver_clock acted)) own line acted (ap (λ c. is_some (earlier_than (Some moment) c)) (sym h.clock) ∙ early))) h

-- a step in time
pub timely-step : {G E : Type 0} (sends : Sends G) (hears : Hears E) (table : LifeTable) (acted : List Line) (step : Step) (moment : ℕ) (line : Line) (own : Option Reason) (making : Making G E)
    → IsNextStep table acted step moment line own → MakingHolds sends hears table acted making → is_some (earlier_than (Some moment) making.clock) ≡ false
    → after_step table acted step ≡ acted_unless own line acted
timely-step sends hears table acted step moment line own making next h early =
    next.after ∙ timely (earlier_than (Some moment) (receiver_clock acted)) own line acted (ap (λ c. is_some (earlier_than (Some moment) c)) (sym h.clock) ∙ early)

pub refused-step : {G E : Type 0} (sends : Sends G) (hears : Hears E) (table : LifeTable) (acted after : List Line) (line : Line) (own : Option Reason) (why : Reason) (making : Making G E)
    → after ≡ acted_unless own line acted → own ≡ Some why → MakingHolds sends hears table acted making → MakingHolds sends hears table after making
refused-step sends hears table acted after line own why making is so h =
    subst (λ lines. MakingHolds sends hears table lines making) (sym (is ∙ refused-kept own why line acted so)) h

pub acted-step : {G E : Type 0} (sends : Sends G) (hears : Hears E) (table : LifeTable) (acted after : List Line) (line : Line) (own : Option Reason) (making : Making G E)
    → after ≡ acted_unless own line acted → own ≡ None → MakingHolds sends hears table (line ∷ acted) making → MakingHolds sends hears table after making
acted-step sends hears table acted after line own making is so h =
    subst (λ lines. MakingHolds sends hears table lines making) (sym (is ∙ free-acted own line acted so)) h

pub same-counts : (a b : Counts) → a.updates ≡ b.updates → a.turns ≡ b.turns → a.heard ≡ b.heard → a.corrected ≡ b.corrected → a.entries ≡ b.entries → a ≡ b
same-counts a b u t h c e =
    ap (λ x. record { updates = x; turns = a.turns; heard = a.heard; corrected = a.corrected; entries = a.entries }) u
    ∙ ap (λ x. record { updates = b.updates; turns = x; heard = a.heard; corrected = a.corrected; entries = a.entries }) t
    ∙ ap (λ x. record { updates = b.updates; turns = b.turns; heard = x; corrected = a.corrected; entries = a.entries }) h
    ∙ ap (λ x. record { updates = b.updates; turns = b.turns; heard = b.heard; corrected = x; entries = a.entries }) c
    ∙ ap (λ x. record { updates = b.updates; turns = b.turns; heard = b.heard; corrected = b.corrected; entries = x }) e

-- a line that gives an update
pub record IsUpdateStep (table : LifeTable) (acted : List Line) (step : Step) (moment : ℕ) (line : Line) (update : Update) : Type 0 where
  pub after : after_step table acted step ≡ acted_unless (update_refusal table acted moment update) line acted
  pub clock_is : receiver_clock (line ∷ acted) ≡ receiver_clock acted
  pub station : station_after (line ∷ acted) ≡ station_after acted
  pub events_are : events (line ∷ acted) ≡ accepted moment update ∷ events acted
  pub frames_are : sent_frames table (line ∷ acted) ≡ sent_frames table acted
  pub receptions_are : receptions table (line ∷ acted) ≡ receptions table acted
  pub updates_are : updates_by table acted line ≡ 1
  pub corrected_are : corrected_by table acted line ≡ 0
  pub entries_are : entries_by table acted line ≡ 0

pub text-step : HistoriesGrow → (table : LifeTable) (acted : List Line) (moment : ℕ) (chars : List ℕ)
    → IsUpdateStep table acted (steps.Text moment chars) moment (text moment moment chars) (updates.text moment chars)
unfolding after_step
text-step grow table acted moment chars = record {
  after = refl;
  clock_is = refl;
  station = refl;
  events_are = (grow (record { station = station_after acted; event = accepted moment (updates.text moment chars) }) (broadcast acted)).own;
  frames_are = append-nil (sent_frames table acted);
  receptions_are = refl;
  updates_are = refl;
  corrected_are = refl;
  entries_are = refl;
}

pub block-step : HistoriesGrow → (table : LifeTable) (acted : List Line) (moment number : ℕ) (cells : List ℕ)
    → IsUpdateStep table acted (steps.Block moment number cells) moment (radar moment moment (block_named number) cells) (updates.block moment (block_named number) cells)
unfolding after_step
block-step grow table acted moment number cells = record {
  after = refl;
  clock_is = refl;
  station = refl;
  events_are = (grow (record { station = station_after acted; event = accepted moment (updates.block moment (block_named number) cells) }) (broadcast acted)).own;
  frames_are = append-nil (sent_frames table acted);
  receptions_are = refl;
  updates_are = refl;
  corrected_are = refl;
  entries_are = refl;
}

pub blanks-step : HistoriesGrow → (table : LifeTable) (acted : List Line) (moment : ℕ) (numbers : List ℕ)
    → IsUpdateStep table acted (steps.Blanks moment numbers) moment (blank moment moment 63 0 false numbers) (updates.blanks moment 63 0 false numbers)
unfolding after_step
blanks-step grow table acted moment numbers = record {
  after = refl;
  clock_is = refl;
  station = refl;
  events_are = (grow (record { station = station_after acted; event = accepted moment (updates.blanks moment 63 0 false numbers) }) (broadcast acted)).own;
  frames_are = append-nil (sent_frames table acted);
  receptions_are = refl;
  updates_are = refl;
  corrected_are = refl;
  entries_are = refl;
}

-- what was made with an update more
update-made : {G E : Type 0} (sends : Sends G) (hears : Hears E) (table : LifeTable) (acted : List Line) (step : Step) (moment : ℕ) (line : Line) (update : Update) (old : Making G E) (ground : G)
    → IsUpdateStep table acted step moment line update → MakingHolds sends hears table acted old → sends table (station_after acted) (accepted moment update ∷ events acted) ground
    → MakingHolds sends hears table (line ∷ acted) (with_update (record old { ground = ground }))
update-made sends hears table acted step moment line update old ground is h s = record {
  ground = subst (λ place. sends table place (events (line ∷ acted)) ground) (sym is.station) (subst (λ past. sends table (station_after acted) past ground) (sym is.events_are) s);
  ear = subst (λ past. hears table past old.ear) (sym is.receptions_are) h.ear;
  late = h.late;
  clock = h.clock ∙ sym is.clock_is;
  last = h.last ∙ ap (λ frames. aired_one (last_frame frames)) (sym is.frames_are);
  counts = same-counts _ _
      (ap (λ (c : Counts). c.updates + 1) h.counts ∙ ap (λ n. total updates_by table acted + n) (sym is.updates_are))
      (ap (λ (c : Counts). c.turns) h.counts ∙ ap length (sym is.frames_are))
      (ap (λ (c : Counts). c.heard) h.counts ∙ ap length (sym is.receptions_are))
      (ap (λ (c : Counts). c.corrected) h.counts ∙ no-more _ _ is.corrected_are)
      (ap (λ (c : Counts). c.entries) h.counts ∙ no-more _ _ is.entries_are);
}
  where
    no-more : (sum share : ℕ) → share ≡ 0 → sum ≡ sum + share
    no-more sum share e = omega (arith, e)

update-tried : {G E A B C : Type 0} (sends : Sends G) (hears : Hears E) (table : LifeTable) (acted : List Line) (step : Step) (moment : ℕ) (line : Line) (update : Update) (old new : Making G E) (ground : G)
    (given : Result A GiveFault) (tried : Result B Stop) (result : Result (Unit {0}) C)
    → IsUpdateStep table acted step moment line update → after_step table acted step ≡ acted_unless (update_refusal table acted moment update) line acted → MakingHolds sends hears table acted old
    → HasGiven sends old.ground ground moment update given → HasAnsweredUpdate given tried
    → HasTried (update_refusal table acted moment update) (λ done. sends table (station_after acted) (accepted moment update ∷ events acted) ground) tried
    → IsCounted (record old { ground = ground }) new tried result
    → OnOk result (MakingHolds sends hears table (after_step table acted step) new)
update-tried sends hears table acted step moment line update old new ground given tried (Err fault) is after h g a t counted = tt
update-tried sends hears table acted step moment line update old new ground (Ok done) (Ok b) (Ok u) is after h g a t counted =
    subst (MakingHolds sends hears table (after_step table acted step)) (sym counted)
    (acted-step sends hears table acted _ line _ _ after t.0 (update-made sends hears table acted step moment line update old ground is h t.1))
update-tried sends hears table acted step moment line update old new ground (Ok done) (Err stop) (Ok u) is after h g a t counted = absurd a
update-tried sends hears table acted step moment line update old new ground (Err fault) (Ok b) (Ok u) is after h g a t counted = absurd a
update-tried sends hears table acted step moment line update old new ground (Err fault) (Err NoMemory) (Ok u) is after h g a t counted = absurd counted
update-tried sends hears table acted step moment line update old new ground (Err fault) (Err (Refused why)) (Ok u) is after h g a t counted =
    subst (MakingHolds sends hears table (after_step table acted step)) (sym counted)
    (refused-step sends hears table acted _ line _ why (record old { ground = ground }) after t
    (record { ground = g.same table (station_after acted) (events acted) h.ground; ear = h.ear; late = h.late; clock = h.clock; last = h.last; counts = h.counts }))

-- an update in time, which is counted where it is given
pub update-taken : {G E A B C : Type 0} (sends : Sends G) (hears : Hears E) (table : LifeTable) (acted : List Line) (step : Step) (moment : ℕ) (line : Line) (update : Update) (old new : Making G E) (ground : G)
    (given : Result A GiveFault) (tried : Result B Stop) (result : Result (Unit {0}) C)
    → IsUpdateStep table acted step moment line update
    → HasGiven sends old.ground ground moment update given → HasAnsweredUpdate given tried
    → IsCounted (record old { ground = ground }) new tried result
    → MakingHolds sends hears table acted old
    → OnOk result (MakingHolds sends hears table (after_step table acted step) new)
update-taken sends hears table acted step moment line update old new ground given tried result is g a counted h =
    update-tried sends hears table acted step moment line update old new ground given tried result is is.after h g a
    (update-answered sends table (station_after acted) (events acted) old.ground ground moment update given tried
    (sends table (station_after acted) (accepted moment update ∷ events acted) ground) g a h.ground (λ s. s))
    counted
