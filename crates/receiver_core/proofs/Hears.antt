-- A receiver that hears one more frame.
use Rattle.std.proofs.Common.{◌≡◌, ℕ, ◌≤◌, Bool, true, if◌then◌else◌, List, ◌∷◌, Option, Some, None, Ok, length, sym, ap, subst, ◌∙◌, arith}
use Rattle.std.specs.Option.{option_or, option_map, option_and_then, unwrap_or}
use Rattle.bit_fields.specs.Bits.{AreBytes}
use Rattle.fisb_time.specs.Moment.{IsMoment}
use Rattle.life_table.specs.LifeTable.{LifeTable}
use Rattle.uplink_weave.specs.Functions.{payload_in, lost_block_in}
use Rattle.segment_core.specs.InTime.{in_time}
use Rattle.segment_core.specs.Store.{IsNotBefore, StandsFor as StandsForArrivals}
use Rattle.picture_core.specs.Kept.{IsStore, live_entries, put_all}
use Rattle.receiver_core.specs.Answers.{HasHeard}
use Rattle.receiver_core.specs.Hearing.{HearRefusal, IsHeardOf, clock_of, clock, is_valid, lost, no_application, payload_refusal, refusal_of_air}
use Rattle.receiver_core.specs.Laws.{FramesAreReception, KeepsReception, arrivals_heard, entries_heard}
use Rattle.receiver_core.specs.Reception.{Reception, contents}
use Rattle.receiver_core.specs.StandsFor.{Held, StandsFor, moment_now}
use Rattle.receiver_core.specs.declared.heard.Heard.{Heard}

last_below : (clock : Option ℕ) (moment : ℕ) → IsNotBefore clock moment → unwrap_or clock 0 ≤ moment
last_below None moment below = omega arith
last_below (Some kept) moment below = below

-- what is known of a payload that is taken
pub record IsTaken (table : LifeTable) (before after : Held) (past : List Reception) (moment : ℕ)
    (payload : List ℕ) : Type 0 where
  pub moment_is : IsMoment moment
  pub below : IsNotBefore before.joiner.store.clock moment
  pub size : length payload ≡ 432
  pub bytes : AreBytes payload
  pub valid : is_valid payload ≡ true
  pub same_table : after.table ≡ before.table
  pub clock : after.joiner.store.clock ≡ Some moment
  pub joins : StandsForArrivals after.joiner.store (arrivals_heard table past (record { moment = moment; payload = payload }))
  pub entries : after.picture.entries
      ≡ live_entries moment (put_all (entries_heard table past (record { moment = moment; payload = payload }))
      before.picture.entries)

pub stands_after : FramesAreReception → KeepsReception → (table : LifeTable) (before after : Held)
    (past : List Reception) (moment : ℕ) (payload : List ℕ)
    → StandsFor table before past → IsTaken table before after past moment payload
    → StandsFor table after (record { moment = moment; payload = payload } ∷ past)
stands_after frames keeps table before after past moment payload s t =
    let heard : Reception = record { moment = moment; payload = payload } in
    let below : IsNotBefore (clock_of past) moment = subst (λ k. IsNotBefore k moment) s.clock t.below in
    record {
      reads_by = t.same_table ∙ s.reads_by;
      receptions = (
        record {
          moment_is = t.moment_is;
          in_time = in_time
              (clock_of past) moment below;
          size = t.size;
          bytes = t.bytes;
          valid = t.valid;
        },
        s.receptions,
      );
      clock = t.clock;
      joins = subst (StandsForArrivals after.joiner.store) (frames table past heard) t.joins;
      shows = subst (IsStore moment (contents table (heard ∷ past))) (sym t.entries)
          (keeps table past heard (moment_now past) before.picture.entries (last_below (clock_of past) moment below) s.shows);
    }

abbrev application_refusal : Bool → Option HearRefusal
application_refusal valid = if valid then None else Some no_application

pub hears : (stands : List Reception → Type 0) (table : LifeTable) (past : List Reception) (moment : ℕ)
    (payload counts : List ℕ) (answer : Heard)
    → is_valid payload ≡ true → stands (record { moment = moment; payload = payload } ∷ past)
    → IsHeardOf table past (record { moment = moment; payload = payload }) counts answer
    → HasHeard stands table past (payload_refusal payload) moment (Some payload) counts (Ok answer)
hears stands table past moment payload counts answer valid newest answered = record {
  accepted = ap application_refusal valid;
  taken = record { newest = newest; answered = answered };
  refused = tt;
  kept = tt;
}

pub air_refusal : (past : List Reception) (moment : ℕ) (air payload : List ℕ) → IsNotBefore (clock_of past) moment
    → payload_in air ≡ Some payload → lost_block_in air ≡ None → payload_refusal payload ≡ refusal_of_air past moment air
air_refusal past moment air payload below found none =
    sym (ap (λ l. option_or (option_map clock l) (option_or (option_map lost (lost_block_in air))
    (option_and_then payload_refusal (payload_in air)))) (in_time (clock_of past) moment below)
    ∙ ap (λ l. option_or (option_map lost l) (option_and_then payload_refusal (payload_in air))) none
    ∙ ap (option_and_then payload_refusal) found)
