-- The grounds of several stations: what an event of one leaves of the others, and what naming a station leaves of all.
use Rattle.std.proofs.Common.{◌≡◌, ℕ, ◌+◌, ◌||◌, ◌&&◌, ◌==◌, nat_lt, nat_le, ◌⊎◌, Bool, true, false, if◌then◌else◌, List, [], ◌∷◌, length, Option, Some, None, is_some, Result, Ok, Err, OnOk, OnErr, IfErr, refl, sym, ap, subst, ◌∙◌, arith, inl, inr}
use Rattle.std.specs.Bool.{beq}
use Rattle.std.specs.Cmp.{tied_then}
use Rattle.std.specs.Ordering.{nat_cmp, bool_cmp, is_eq}
use Rattle.std.specs.BTreeMap.{is_at}
use Rattle.std.specs.Map.{lookup}
use Rattle.std.proofs.lemmas.Bool.{cases_Bool}
use Rattle.std.proofs.lemmas.Bool.Decides.{nat_tests}
use Rattle.list_members.specs.Tests.{tied_numbers}
use Rattle.uplink_frame.specs.declared.station.StationId.{StationId}
use Rattle.uplink_frame.specs.contracts.station.StationIdOrd.TheImpl as station_order
use Rattle.uplink_frame.specs.Station.{same_flag, same_station}
use Rattle.uplink_frame.specs.Ties.{tied_flags}
use Rattle.uplink_frame.specs.Laws.{StationsAreTold}
use Rattle.life_table.specs.LifeTable.{LifeTable}
use Rattle.radar_core.specs.declared.key.BlockKey.{BlockKey}
use Rattle.ground_core.specs.Update as updates
use Rattle.ground_core.specs.History.{Event, accepted, fill}
use Rattle.ground_core.specs.Broadcast.{history_of}
use Rattle.ground_core.specs.Sent.{HistoriesGrow}
use Rattle.script_core.specs.Script.{Line, empty, station, text, radar, blank, turn, hear, rx, show}
use Rattle.refusal_core.specs.declared.reason.Reason.TheVariants.{Station}
use Rattle.run_core.specs.declared.stop.Stop.{Stop}
use Rattle.run_core.specs.declared.stop.Stop.TheVariants.{NoMemory}
use Rattle.fisb_app.specs.declared.sending.Sending.{Sending}
use Rattle.fisb_app.specs.Past.{at_station, broadcast, events, is_one_of, station_after, stations}
use Rattle.fisb_app.specs.Reading.{station_refusal}
use Rattle.fisb_app.specs.Stands.{Sends, HasTried, Holds, IsGroundOf, IsChangedTo, IsSameSending, TellsRefusal, ground_at, ground_or}

-- stations are told apart by the order of the map
flag_equal : (a b : Bool) → beq a b ≡ same_flag a b
flag_equal true true = refl
flag_equal true false = refl
flag_equal false true = refl
flag_equal false false = refl

regrouped : (p q r s : Bool) → (p && (q && (r && s))) ≡ (((p && q) && r) && s)
regrouped true true r s = refl
regrouped true false r s = refl
regrouped false q r s = refl

pub order-same : (a b : StationId) → is_at (station_order.ghosts.cmp a) b ≡ same_station a b
order-same a b =
    sym (tied_then (nat_cmp a.lat b.lat) _)
    ∙ ap (λ x. is_eq (nat_cmp a.lat b.lat) && x) (sym (tied_then (nat_cmp a.lon b.lon) _))
    ∙ ap (λ x. is_eq (nat_cmp a.lat b.lat) && (is_eq (nat_cmp a.lon b.lon) && x)) (sym (tied_then (bool_cmp a.position_valid b.position_valid) _))
    ∙ ap (λ x. x && (is_eq (nat_cmp a.lon b.lon) && (is_eq (bool_cmp a.position_valid b.position_valid) && is_eq (nat_cmp a.site b.site)))) (sym (tied_numbers a.lat b.lat))
    ∙ ap (λ x. (a.lat == b.lat) && (x && (is_eq (bool_cmp a.position_valid b.position_valid) && is_eq (nat_cmp a.site b.site)))) (sym (tied_numbers a.lon b.lon))
    ∙ ap (λ x. (a.lat == b.lat) && ((a.lon == b.lon) && (x && is_eq (nat_cmp a.site b.site)))) (sym (tied_flags a.position_valid b.position_valid))
    ∙ ap (λ x. (a.lat == b.lat) && ((a.lon == b.lon) && (same_flag a.position_valid b.position_valid && x))) (sym (tied_numbers a.site b.site))
    ∙ regrouped (a.lat == b.lat) (a.lon == b.lon) (same_flag a.position_valid b.position_valid) (a.site == b.site)

pub equal-same : (a b : StationId) → ((a.lat == b.lat) && ((a.lon == b.lon) && (beq a.position_valid b.position_valid && (a.site == b.site)))) ≡ same_station a b
equal-same a b =
    ap (λ x. (a.lat == b.lat) && ((a.lon == b.lon) && (x && (a.site == b.site)))) (flag_equal a.position_valid b.position_valid)
    ∙ regrouped (a.lat == b.lat) (a.lon == b.lon) (same_flag a.position_valid b.position_valid) (a.site == b.site)

pub same-back : StationsAreTold → (a b : StationId) → same_station a b ≡ false → same_station b a ≡ false
same-back told a b other = elim (cases_Bool (same_station b a)) [
  | inl same ↦ (let is : b ≡ a = (told b a).0 same in let bad : same_station a b ≡ true = (told a b).1 (sym is) in absurd (cc))
  | inr not ↦ not
]

-- a station whose ground is there is among the stations
pub named-among : StationsAreTold → (acted : List Line) → is_one_of (station_after acted) (stations acted) ≡ true
named-among told [] = refl
named-among told (station named ∷ past) = elim (cases_Bool (is_one_of named (stations past))) [
  | inl there ↦ rw there there
  | inr new ↦ rw (new, (told named named).1 refl) refl
]
named-among told (empty ∷ past) = named-among told past
named-among told (text moment version chars ∷ past) = named-among told past
named-among told (radar moment version key cells ∷ past) = named-among told past
named-among told (blank moment version product scale south numbers ∷ past) = named-among told past
named-among told (turn moment slot ∷ past) = named-among told past
named-among told (hear moment frame wrong ∷ past) = named-among told past
named-among told (rx moment air ∷ past) = named-among told past
named-among told (show moment ∷ past) = named-among told past

-- a line that gives an event to the station that was named last
pub record IsEventLine (line : Line) (event : Event) : Type 0 where
  pub broadcast_is : (acted : List Line) → broadcast (line ∷ acted) ≡ at_station (station_after acted) event ∷ broadcast acted
  pub station_is : (acted : List Line) → station_after (line ∷ acted) ≡ station_after acted
  pub stations_are : (acted : List Line) → stations (line ∷ acted) ≡ stations acted

pub text-event : (moment version : ℕ) (chars : List ℕ) → IsEventLine (text moment version chars) (accepted moment (updates.text version chars))
text-event moment version chars = record { broadcast_is = λ acted. refl; station_is = λ acted. refl; stations_are = λ acted. refl }

pub radar-event : (moment version : ℕ) (key : BlockKey) (cells : List ℕ) → IsEventLine (radar moment version key cells) (accepted moment (updates.block version key cells))
radar-event moment version key cells = record { broadcast_is = λ acted. refl; station_is = λ acted. refl; stations_are = λ acted. refl }

pub blank-event : (moment version product scale : ℕ) (south : Bool) (numbers : List ℕ)
    → IsEventLine (blank moment version product scale south numbers) (accepted moment (updates.blanks version product scale south numbers))
blank-event moment version product scale south numbers = record { broadcast_is = λ acted. refl; station_is = λ acted. refl; stations_are = λ acted. refl }

pub turn-event : (moment slot : ℕ) → IsEventLine (turn moment slot) (fill moment slot)
turn-event moment slot = record { broadcast_is = λ acted. refl; station_is = λ acted. refl; stations_are = λ acted. refl }

-- the ground of another station stands as before
other-ground : {G : Type 0} (sends : Sends G) (table : LifeTable) (acted after : List Line) (place : StationId) (found : Option G)
    → stations after ≡ stations acted → history_of place (broadcast after) ≡ history_of place (broadcast acted)
    → IsGroundOf sends table acted place found → IsGroundOf sends table after place found
other-ground sends table acted after place None same past is = (ap (is_one_of place) same ∙ is.0, past ∙ is.1)
other-ground sends table acted after place (Some ground) same past is =
    (ap (is_one_of place) same ∙ is.0, subst (λ h. sends table place h ground) (sym past) is.1)

pub event-holds : HistoriesGrow → {G : Type 0} (sends : Sends G) (bytes : List ℕ) (acted : List Line) (line : Line) (event : Event) (old new : Sending G)
    → IsEventLine line event → Holds sends bytes acted old → new.table ≡ old.table → new.station ≡ old.station → new.others ≡ old.others
    → sends old.table (station_after acted) (event ∷ events acted) new.ground → Holds sends bytes (line ∷ acted) new
event-holds grow sends bytes acted line event old new is h table place others s =
    let now = station_after acted in
    let b = at_station now event in
    let grows = grow b (broadcast acted) in
    let own : history_of now (broadcast (line ∷ acted)) ≡ event ∷ events acted = ap (history_of now) (is.broadcast_is acted) ∙ grows.own in record {
      opened = h.opened ∙ ap Ok (sym table);
      station_is = place ∙ h.station_is ∙ sym (is.station_is acted);
      ground = subst (λ t. sends t (station_after (line ∷ acted)) (events (line ∷ acted)) new.ground) (sym table)
          (subst (λ (p : StationId). sends old.table p (history_of p (broadcast (line ∷ acted))) new.ground) (sym (is.station_is acted))
          (subst (λ past. sends old.table now past new.ground) (sym own) s));
      apart = ap (λ m. ground_at m (station_after (line ∷ acted))) others ∙ ap (ground_at old.others) (is.station_is acted) ∙ h.apart;
      others = λ other apart.
          let apart_now : same_station now other ≡ false = ap (λ p. same_station p other) (sym (is.station_is acted)) ∙ apart in
          subst (λ t. IsGroundOf sends t (line ∷ acted) other (ground_at new.others other)) (sym table)
          (subst (λ m. IsGroundOf sends old.table (line ∷ acted) other (ground_at m other)) (sym others)
          (other-ground sends old.table acted (line ∷ acted) other (ground_at old.others other) (is.stations_are acted)
          (ap (history_of other) (is.broadcast_is acted) ∙ grows.others other apart_now) (h.others other apart_now)));
      count = ap (λ m. length m.entries + 1) others ∙ h.count ∙ ap length (sym (is.stations_are acted));
    }

-- a line that gives no station anything, and names none
pub record IsQuietLine (line : Line) : Type 0 where
  pub broadcast_is : (acted : List Line) → broadcast (line ∷ acted) ≡ broadcast acted
  pub station_is : (acted : List Line) → station_after (line ∷ acted) ≡ station_after acted
  pub stations_are : (acted : List Line) → stations (line ∷ acted) ≡ stations acted

pub quiet-holds : {G : Type 0} (sends : Sends G) (bytes : List ℕ) (acted : List Line) (line : Line) (s : Sending G)
    → IsQuietLine line → Holds sends bytes acted s → Holds sends bytes (line ∷ acted) s
quiet-holds sends bytes acted line s is h =
    let now = station_after acted in record {
      opened = h.opened;
      station_is = h.station_is ∙ sym (is.station_is acted);
      ground = subst (λ (p : StationId). sends s.table p (history_of p (broadcast (line ∷ acted))) s.ground) (sym (is.station_is acted))
          (subst (λ past. sends s.table now (history_of now past) s.ground) (sym (is.broadcast_is acted)) h.ground);
      apart = ap (ground_at s.others) (is.station_is acted) ∙ h.apart;
      others = λ other apart.
          other-ground sends s.table acted (line ∷ acted) other (ground_at s.others other) (is.stations_are acted)
          (ap (history_of other) (is.broadcast_is acted)) (h.others other (ap (λ p. same_station p other) (sym (is.station_is acted)) ∙ apart));
      count = h.count ∙ ap length (sym (is.stations_are acted));
    }

pub hear-quiet : (moment frame : ℕ) (wrong : List (ℕ × ℕ)) → IsQuietLine (hear moment frame wrong)
hear-quiet moment frame wrong = record { broadcast_is = λ acted. refl; station_is = λ acted. refl; stations_are = λ acted. refl }

pub show-quiet : (moment : ℕ) → IsQuietLine (show moment)
show-quiet moment = record { broadcast_is = λ acted. refl; station_is = λ acted. refl; stations_are = λ acted. refl }

pub empty-quiet : IsQuietLine empty
empty-quiet = record { broadcast_is = λ acted. refl; station_is = λ acted. refl; stations_are = λ acted. refl }

pub rx-quiet : (moment : ℕ) (air : List ℕ) → IsQuietLine (rx moment air)
rx-quiet moment air = record { broadcast_is = λ acted. refl; station_is = λ acted. refl; stations_are = λ acted. refl }

-- the station that was named last is named again
pub again-holds : StationsAreTold → {G : Type 0} (sends : Sends G) (bytes : List ℕ) (acted : List Line) (named : StationId) (s : Sending G)
    → named ≡ s.station → Holds sends bytes acted s → Holds sends bytes (station named ∷ acted) s
again-holds told sends bytes acted named s is h =
    let same : named ≡ station_after acted = is ∙ h.station_is in
    let there : is_one_of named (stations acted) ≡ true = ap (λ p. is_one_of p (stations acted)) same ∙ named-among told acted in
    let all : stations (station named ∷ acted) ≡ stations acted = ap (λ b. if b then stations acted else named ∷ stations acted) there in record {
      opened = h.opened;
      station_is = sym is;
      ground = subst (λ (p : StationId). sends s.table p (history_of p (broadcast acted)) s.ground) (sym same) h.ground;
      apart = ap (ground_at s.others) same ∙ h.apart;
      others = λ other apart.
          other-ground sends s.table acted (station named ∷ acted) other (ground_at s.others other) all refl
          (h.others other (ap (λ p. same_station p other) (sym same) ∙ apart));
      count = h.count ∙ ap length (sym all);
    }

pub again-free : StationsAreTold → {G : Type 0} (sends : Sends G) (bytes : List ℕ) (acted : List Line) (named : StationId) (s : Sending G)
    → named ≡ s.station → Holds sends bytes acted s → station_refusal (stations acted) named ≡ None
again-free told sends bytes acted named s is h =
    let there : is_one_of named (stations acted) ≡ true = ap (λ p. is_one_of p (stations acted)) (is ∙ h.station_is) ∙ named-among told acted in
    ap (λ b. if b || nat_le (length (stations acted)) 16 then None else Some Station) there

-- a station that is named first, and one that was named before: whether it may be named
pub first-refusal : {G : Type 0} (sends : Sends G) (table : LifeTable) (acted : List Line) (named : StationId) (many : ℕ) (found : Option G)
    → many + 1 ≡ length (stations acted) → IsGroundOf sends table acted named found
    → station_refusal (stations acted) named ≡ (if is_some found || nat_lt many 16 then None else Some Station)
first-refusal sends table acted named many (Some ground) count h =
    ap (λ b. if b || nat_le (length (stations acted)) 16 then None else Some Station) h.0
first-refusal sends table acted named many None count h =
    let test : nat_le (length (stations acted)) 16 ≡ nat_lt many 16 = subst (λ n. nat_le n 16 ≡ nat_lt many 16) count (within many) in
    ap (λ b. if b || nat_le (length (stations acted)) 16 then None else Some Station) h.0 ∙ ap (λ b. if b then None else Some Station) test
  where
    within : (n : ℕ) → nat_le (n + 1) 16 ≡ nat_lt n 16
    within n = elim (cases_Bool (nat_lt n 16)) [
      | inl below ↦ (let yes_it_is : nat_le (n + 1) 16 ≡ true = grind (arith, nat_tests) in yes_it_is ∙ sym below)
      | inr above ↦ (let no_it_is : nat_le (n + 1) 16 ≡ false = grind (arith, nat_tests) in no_it_is ∙ sym above)
    ]

-- for what its ground stands
named-ground : {G : Type 0} (sends : Sends G) (table : LifeTable) (acted : List Line) (named : StationId) (first : G) (found : Option G)
    → IsGroundOf sends table acted named found → sends table named [] first → sends table named (history_of named (broadcast acted)) (ground_or first found)
named-ground sends table acted named first None h s = subst (λ past. sends table named past first) (sym h.1) s
named-ground sends table acted named first (Some ground) h s = h.1

-- and how many stations there are then
named-count : {G : Type 0} (sends : Sends G) (table : LifeTable) (acted : List Line) (named : StationId) (found : Option G)
    → IsGroundOf sends table acted named found → length (stations (station named ∷ acted)) + (if is_some found then 1 else 0) ≡ length (stations acted) + 1
named-count sends table acted named None h =
    let all = ap (λ b. length (if b then stations acted else named ∷ stations acted)) h.0 in omega (arith, all)
named-count sends table acted named (Some ground) h =
    let all = ap (λ b. length (if b then stations acted else named ∷ stations acted)) h.0 in omega (arith, all)

-- another station is named, and its ground takes the place of the one before, which goes to the others
changed-holds : StationsAreTold → {G : Type 0} (sends : Sends G) (bytes : List ℕ) (acted : List Line) (named : StationId) (old new : Sending G) (first : G)
    → same_station (station_after acted) named ≡ false → Holds sends bytes acted old → sends old.table named [] first
    → IsChangedTo named first old new → Holds sends bytes (station named ∷ acted) new
changed-holds told {G = G} sends bytes acted named old new first other h s c =
    let found = ground_at old.others named in
    let was = h.others named other in
    let old_is : same_station old.station named ≡ false = ap (λ p. same_station p named) h.station_is ∙ other in
    let old_apart : ground_at old.others old.station ≡ None = ap (ground_at old.others) h.station_is ∙ h.apart in record {
      opened = h.opened ∙ ap Ok (sym c.table_is);
      station_is = c.station_is;
      ground = subst (λ x. sends x named (history_of named (broadcast acted)) new.ground) (sym c.table_is)
          (subst (λ x. sends old.table named (history_of named (broadcast acted)) x) (sym (c.ground old_is))
          (named-ground sends old.table acted named first found was s));
      apart = c.apart;
      others = λ p apart.
          subst (λ x. IsGroundOf sends x (station named ∷ acted) p (ground_at new.others p)) (sym c.table_is)
          (subst (IsGroundOf sends old.table (station named ∷ acted) p) (sym (c.others p apart)) (either p apart (cases_Bool (same_station old.station p))));
      count = (let more = c.count old_is old_apart in let many = h.count in let all = named-count sends old.table acted named found was in omega (arith, more, many, all));
    }
  where
    now : StationId
    now = station_after acted

    -- the others are those of before
    among : (p : StationId) → same_station named p ≡ false → is_one_of p (stations (station named ∷ acted)) ≡ is_one_of p (stations acted)
    among p apart = elim (cases_Bool (is_one_of named (stations acted))) [
      | inl there ↦ ap (λ b. is_one_of p (if b then stations acted else named ∷ stations acted)) there
      | inr new ↦ ap (λ b. is_one_of p (if b then stations acted else named ∷ stations acted)) new
          ∙ ap (λ b. b || is_one_of p (stations acted)) (same-back told named p apart)
    ]

    kept : (p : StationId) (found : Option G) → same_station named p ≡ false → IsGroundOf sends old.table acted p found → IsGroundOf sends old.table (station named ∷ acted) p found
    kept p None apart is = (among p apart ∙ is.0, is.1)
    kept p (Some ground) apart is = (among p apart ∙ is.0, is.1)

    either : (p : StationId) → same_station named p ≡ false → (same_station old.station p ≡ true) ⊎ (same_station old.station p ≡ false)
        → IsGroundOf sends old.table (station named ∷ acted) p (if same_station old.station p then Some old.ground else ground_at old.others p)
    either p apart (inl same) =
        let at_old : now ≡ p = sym h.station_is ∙ (told old.station p).0 same in
        let mine : IsGroundOf sends old.table acted now (Some old.ground) = (named-among told acted, h.ground) in
        subst (λ b. IsGroundOf sends old.table (station named ∷ acted) p (if b then Some old.ground else ground_at old.others p)) (sym same)
        (kept p (Some old.ground) apart (subst (λ (x : StationId). IsGroundOf sends old.table acted x (Some old.ground)) at_old mine))
    either p apart (inr differs) =
        let not_now : same_station now p ≡ false = ap (λ x. same_station x p) (sym h.station_is) ∙ differs in
        subst (λ b. IsGroundOf sends old.table (station named ∷ acted) p (if b then Some old.ground else ground_at old.others p)) (sym differs)
        (kept p (ground_at old.others p) apart (h.others p not_now))

pub changed-tried : StationsAreTold → {G : Type 0} (sends : Sends G) (bytes : List ℕ) (acted : List Line) (named : StationId) (old new : Sending G) (first : G) (result : Result (Unit {0}) Stop)
    → same_station old.station named ≡ false → Holds sends bytes acted old
    → HasTried (if is_some (ground_at old.others named) || nat_lt (length old.others.entries) 16 then None else Some Station) (sends old.table named []) (Ok first)
    → OnOk result (IsChangedTo named first old new) → IfErr result (λ stop. stop ≡ NoMemory)
    → HasTried (station_refusal (stations acted) named) (λ done. Holds sends bytes (station named ∷ acted) new) result
changed-tried told sends bytes acted named old new first (Err stop) other h t changed stops =
    subst (TellsRefusal (station_refusal (stations acted) named)) (sym stops) tt
changed-tried told sends bytes acted named old new first (Ok done) other h t changed stops =
    let apart : same_station (station_after acted) named ≡ false = ap (λ p. same_station p named) (sym h.station_is) ∙ other in (
      first-refusal sends old.table acted named (length old.others.entries) (ground_at old.others named) h.count (h.others named apart) ∙ t.0,
      changed-holds told sends bytes acted named old new first apart h t.1 changed,
    )

-- a station that may not be named, or no memory for its ground
pub first-stopped : {G : Type 0} (sends : Sends G) (bytes : List ℕ) (acted : List Line) (named : StationId) (s : Sending G) (stop : Stop)
    → same_station s.station named ≡ false → Holds sends bytes acted s
    → TellsRefusal (if is_some (ground_at s.others named) || nat_lt (length s.others.entries) 16 then None else Some Station) stop
    → TellsRefusal (station_refusal (stations acted) named) stop
first-stopped sends bytes acted named s stop other h t =
    let apart : same_station (station_after acted) named ≡ false = ap (λ p. same_station p named) (sym h.station_is) ∙ other in
    subst (λ r. TellsRefusal r stop) (sym (first-refusal sends s.table acted named (length s.others.entries) (ground_at s.others named) h.count (h.others named apart))) t

-- where nothing was changed, and where a ground stands for the same history
same-holds : {G : Type 0} (sends : Sends G) (bytes : List ℕ) (acted : List Line) (old new : Sending G)
    → Holds sends bytes acted old → IsSameSending old new → Holds sends bytes acted new
same-holds sends bytes acted old new h is = record {
  opened = h.opened ∙ ap Ok (sym is.table_is);
  station_is = is.station_is ∙ h.station_is;
  ground = subst (λ t. sends t (station_after acted) (events acted) new.ground) (sym is.table_is)
      (subst (λ g. sends old.table (station_after acted) (events acted) g) (sym is.ground) h.ground);
  apart = at (station_after acted) ∙ h.apart;
  others = λ p apart.
      subst (λ t. IsGroundOf sends t acted p (ground_at new.others p)) (sym is.table_is)
      (subst (IsGroundOf sends old.table acted p) (sym (at p)) (h.others p apart));
  count = ap (λ es. length es + 1) is.others ∙ h.count;
}
  where
    at : (p : StationId) → ground_at new.others p ≡ ground_at old.others p
    at p = ap (lookup (is_at (station_order.ghosts.cmp p))) is.others

pub same-tried : {G A : Type 0} (sends : Sends G) (bytes : List ℕ) (acted : List Line) (old new : Sending G) (result : Result A Stop)
    → Holds sends bytes acted old → OnErr result (IsSameSending old new) → OnErr result (Holds sends bytes acted new)
same-tried sends bytes acted old new (Ok done) h is = tt
same-tried sends bytes acted old new (Err stop) h is = same-holds sends bytes acted old new h is

pub ground-holds : {G : Type 0} (sends : Sends G) (bytes : List ℕ) (acted : List Line) (s : Sending G) (ground : G)
    → Holds sends bytes acted s → sends s.table (station_after acted) (events acted) ground → Holds sends bytes acted (record s { ground = ground })
ground-holds sends bytes acted s ground h stands =
    record { opened = h.opened; station_is = h.station_is; ground = stands; apart = h.apart; others = h.others; count = h.count }
