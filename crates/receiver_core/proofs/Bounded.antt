-- A receiver that was purged holds little for each reception of which something may live.
use Rattle.std.proofs.Common.{◌≡◌, ℕ, ◌*◌, ◌≤◌, List, length, filter, sym, ap, subst, ◌∙◌, arith}
use Rattle.std.specs.List.{sum_by}
use Rattle.std.specs.Option.{unwrap_or}
use Rattle.uplink_frame.specs.Laws.{StationsAreTold}
use Rattle.life_table.specs.LifeTable.{LifeTable}
use Rattle.life_table.specs.Longest.{RadarsAreWithin, TextsAreWithin}
use Rattle.life_table.specs.Rules.{IsTable}
use Rattle.segment_core.specs.Arrival.{Arrival, whole_payloads}
use Rattle.segment_core.specs.Bound.{StoresAreBounded, live_arrivals, pieces_size}
use Rattle.segment_core.specs.Store.{is_in_life}
use Rattle.picture_core.specs.Entry.{Entry}
use Rattle.picture_core.specs.Kept.{IsStore, live_entries}
use Rattle.receiver_core.specs.Bound.{IsBounded, IsFewFor, IsPurgedAt, number_alive}
use Rattle.receiver_core.specs.Reception.{Reception, arrivals, contents}
use Rattle.receiver_core.specs.StandsFor.{Held, StandsFor, moment_now, longest_lives}
use Rattle.receiver_core.proofs.Completing.{completed_weight}
use Rattle.receiver_core.proofs.FewBlocks.{lives_now}
use Rattle.receiver_core.proofs.FewEntries.{live_contents}
use Rattle.receiver_core.proofs.FrameArrivals.{ReadsFrames}
use Rattle.receiver_core.proofs.ReceptionSums.{are_numbered, bytes_sum, room_sum, segments_sum}
use Rattle.receiver_core.proofs.Segmented.{is_segment, length_of_both, stands_for_segments}
use Rattle.receiver_core.proofs.Weights.{sum_of_filter}

-- what is kept is no more than what lives of all that came
abbrev pub EntriesAreBounded : Type 0
EntriesAreBounded = (now : ℕ) (contents kept : List Entry) → IsStore now contents kept
    → length (live_entries now kept) ≤ length (live_entries now contents)

-- the laws of the crates below that this rests on
pub record HasLaws : Type 0 where
  pub frames : ReadsFrames
  pub texts : TextsAreWithin
  pub radars : RadarsAreWithin
  pub told : StationsAreTold
  pub stores : StoresAreBounded
  pub entries : EntriesAreBounded

module _ (laws : HasLaws) (table : LifeTable) (heard : List Reception) (held : Held) (moment : ℕ)
    (stands : StandsFor table held heard) (purged : IsPurgedAt held moment) where
  lives : held.joiner.store.longest ≡ longest_lives table
  lives = purged.settled.longest ∙ ap longest_lives stands.reads_by

  rules : IsTable table
  rules = subst IsTable stands.reads_by purged.settled.rules

  abbrev alive : ℕ
  alive = number_alive table moment heard

  few_bytes : pieces_size held.joiner.store.pieces ≤ 424 * alive
  few_bytes =
      let bound = (laws.stores held.joiner.store moment (arrivals table heard) stands.joins purged.segments).bytes in
      let same = ap (λ l. sum_by (λ (a : Arrival). length a.payload) (live_arrivals l moment (arrivals table heard))) lives in
      let weighs = sum_of_filter (λ (a : Arrival). length a.payload)
      (λ a. is_in_life (longest_lives table) moment a.product a.version) (arrivals table heard) in
      let most = bytes_sum laws.frames table moment heard stands.receptions in
      omega (arith, bound, same, weighs, most)

  few_numbers : length held.joiner.store.pieces ≤ 47 * alive
  few_numbers =
      let segments = filter is_segment (arrivals table heard) in
      let bound = (laws.stores held.joiner.store moment segments
      (stands_for_segments (arrivals table heard) held.joiner.store stands.joins) purged.segments).numbers in
      let same = ap (λ l. length (live_arrivals l moment segments)) lives in
      let weighs = length_of_both (λ a. is_in_life (longest_lives table) moment a.product a.version) is_segment
      (arrivals table heard) in
      let most = segments_sum laws.frames table moment heard stands.receptions in
      omega (arith, bound, same, weighs, most)

  last_is : moment_now heard ≡ moment
  last_is = ap (λ o. unwrap_or o 0) (sym stands.clock ∙ purged.segments.clock)

  few_entries : length held.picture.entries ≤ 2120 * alive
  few_entries =
      let shows : IsStore moment (contents table heard) held.picture.entries =
      subst (λ now. IsStore now (contents table heard) held.picture.entries) last_is stands.shows in
      let bound = laws.entries moment (contents table heard) held.picture.entries shows in
      let kept = ap length purged.entries in
      let whole = live_contents laws.texts laws.radars table rules moment (whole_payloads (arrivals table heard)) in
      let once = completed_weight laws.told (lives_now table moment) (arrivals table heard)
      (are_numbered laws.frames table heard) in
      let most = room_sum laws.frames table moment heard stands.receptions in
      omega (arith, bound, kept, whole, once, most)

  pub receiver-bounded : IsBounded table heard held
  receiver-bounded = subst (λ now. IsFewFor held (number_alive table now heard)) (sym last_is) record {
    bytes = few_bytes;
    numbers = few_numbers;
    entries = few_entries;
    settled = purged.settled;
  }
