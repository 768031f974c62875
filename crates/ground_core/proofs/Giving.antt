-- What a call that gives an update leaves, and what it tells.
use Rattle.std.proofs.Common.{◌≡◌, ℕ, List, ◌∷◌, Option, Some, None, sym, subst, ◌∙◌}
use Rattle.fisb_time.specs.Moment.{IsMoment}
use Rattle.life_table.specs.Longest.{TextsAreWithin}
use Rattle.life_table.specs.LifeTable.{LifeTable}
use Rattle.life_table.specs.Rules.{IsTable}
use Rattle.uplink_frame.specs.declared.station.StationId.{StationId}
use Rattle.picture_core.specs.Contents.{life_of, payload_entries}
use Rattle.picture_core.specs.Kept.{HaveLife}
use Rattle.segment_core.specs.Store.{last_above}
use Rattle.ground_core.specs.Update.{Update, IsUpdate, weather_of}
use Rattle.ground_core.specs.History.{Event, accepted, items}
use Rattle.ground_core.specs.Refusal.{GiveRefusal, give_refusal}
use Rattle.ground_core.specs.Sound.{AcceptedIsGiven}
use Rattle.ground_core.specs.Putting.{IsPut, AreItemsOf}
use Rattle.ground_core.specs.StandsFor.{StandsFor, history_clock}
use Rattle.ground_core.specs.Told.{IsTold, IsToldAt, refusal_by}
use Rattle.ground_core.specs.Views.{latest_at, count_at}
use Rattle.ground_core.specs.declared.fault.GiveFault.{GiveFault}
use Rattle.ground_core.specs.declared.item.SentItem.{SentItem}
use Rattle.ground_core.specs.declared.ground.Ground.{Ground}
use Rattle.ground_core.proofs.KeyLemmas.{KeyLaws}
use Rattle.ground_core.proofs.Versions.{GroundLaws}
use Rattle.ground_core.proofs.State.{give_stands, clock_below, refusal_same}

-- what the crates below promise, and the rules of the table that is kept
pub record GivenLaws (kept : LifeTable) : Type 0 where
  pub keys : KeyLaws
  pub given : AcceptedIsGiven
  pub rules : IsTable kept
  pub lives : (table : LifeTable) (product version : ℕ) (payload : List ℕ) → HaveLife (life_of table) (payload_entries table product version payload)
  pub longest : TextsAreWithin

laws_of : (kept table : LifeTable) → GivenLaws kept → kept ≡ table → GroundLaws table
laws_of kept table laws e =
    record { keys = laws.keys; given = laws.given; is_table = subst IsTable e laws.rules; lives = laws.lives table }

pub same_refusal : (sender : Ground) → GivenLaws sender.table → (table : LifeTable) (station : StationId) (history : List Event) (moment : ℕ) (update : Update)
    → StandsFor table station sender history → last_above (history_clock history) moment ≡ None
    → refusal_by sender.table (latest_at sender.newest) (count_at sender.files) moment update ≡ give_refusal table (items table station history) moment update
same_refusal sender laws table station history moment update s e =
    refusal_same table (laws_of sender.table table laws s.table_is) station history moment update sender laws.longest s (clock_below history moment e)

pub none_against : (sender : Ground) → GivenLaws sender.table → (table : LifeTable) (station : StationId) (history : List Event) (moment : ℕ) (update : Update)
    → StandsFor table station sender history → last_above (history_clock history) moment ≡ None
    → refusal_by sender.table (latest_at sender.newest) (count_at sender.files) moment update ≡ None
    → give_refusal table (items table station history) moment update ≡ None
none_against sender laws table station history moment update s e none =
    sym (same_refusal sender laws table station history moment update s e) ∙ none

pub stands_given : (old : Ground) → GivenLaws old.table → (table : LifeTable) (station : StationId) (history : List Event) (moment : ℕ) (update : Update) (new : Ground) (items_put : List SentItem)
    → StandsFor table station old history → last_above (history_clock history) moment ≡ None → IsMoment moment → IsUpdate update
    → refusal_by old.table (latest_at old.newest) (count_at old.files) moment update ≡ None
    → AreItemsOf (count_at old.files) old.given (weather_of old.table update) items_put → IsPut old moment items_put new
    → StandsFor table station new (accepted moment update ∷ history)
stands_given old laws table station history moment update new items_put s e m u none are p =
    give_stands table (laws_of old.table table laws s.table_is) station history moment update old new items_put s e m
    (u, none_against old laws table station history moment update s e none)
    (subst (λ t. AreItemsOf (count_at old.files) old.given (weather_of t update) items_put) s.table_is are) p

told_in_time : (last : Option ℕ) (refusal : Option GiveRefusal) (fault : GiveFault) → last ≡ None → IsTold refusal fault → IsToldAt last refusal fault
told_in_time None refusal fault e h = h
told_in_time (Some last) refusal fault e h = absurd (cc)

pub told_given : (sender : Ground) → GivenLaws sender.table → (table : LifeTable) (station : StationId) (history : List Event) (moment : ℕ) (update : Update) (fault : GiveFault)
    → StandsFor table station sender history → last_above (history_clock history) moment ≡ None
    → IsTold (refusal_by sender.table (latest_at sender.newest) (count_at sender.files) moment update) fault
    → IsToldAt (last_above (history_clock history) moment) (give_refusal table (items table station history) moment update) fault
told_given sender laws table station history moment update fault s e told =
    told_in_time (last_above (history_clock history) moment) (give_refusal table (items table station history) moment update) fault e
    (subst (λ r. IsTold r fault) (same_refusal sender laws table station history moment update s e) told)
