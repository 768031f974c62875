-- What the arrivals of receptions weigh together: of each reception no more than its payload has room for, and nothing where
-- nothing of it can live.
use Rattle.std.proofs.Common.{◌≡◌, ℕ, ◌+◌, ◌*◌, ◌≤◌, Bool, true, false, cond, List, [], ◌∷◌, length, filter, filter_map, max, Option, Some, None, is_some, Result, Ok, Err, refl, ap, inl, inr, arith}
use Rattle.std.specs.Prelude.{◌==◌}
use Rattle.std.specs.List.{cons_option, sum_by}
use Rattle.std.specs.Result.{result_ok}
use Rattle.std.proofs.lemmas.Bool.{cases_Bool, cond-true, cond-false, ltb-true, lt-ltb}
use Rattle.std.proofs.lemmas.List.Sums.{sum_by-append, sum_by-cons}
use Rattle.list_members.specs.Each.{AllByRecursion-append}
use Rattle.life_table.specs.LifeTable.{LifeTable, greatest_life}
use Rattle.uplink_frame.specs.UplinkFrame.{InformationFrame, information_frames}
use Rattle.segment_core.specs.Arrival.{Arrival}
use Rattle.segment_core.specs.Store.{longest_of}
use Rattle.segment_core.specs.declared.arrived.Longest.{Longest}
use Rattle.receiver_core.specs.Bound.{may_live, number_alive}
use Rattle.receiver_core.specs.Hearing.{AreReceptions}
use Rattle.receiver_core.specs.Reception.{Reception, arrival_in, arrivals, arrivals_in, station_heard}
use Rattle.receiver_core.specs.StandsFor.{longest_lives}
use Rattle.receiver_core.proofs.Completing.{AreNumbered, IsNumbered}
use Rattle.receiver_core.proofs.FewBlocks.{lives_now}
use Rattle.receiver_core.proofs.FrameArrivals.{ReadsFrames, arrives_of_frame}
use Rattle.receiver_core.proofs.FrameSizes.{frame_size, frames_size}
use Rattle.receiver_core.proofs.Weights.{sum_none}

sum_made_one : {B : Type 0} (o : Option B) (k : ℕ) (w : B → ℕ) (most left : ℕ) (rest : List B)
    → ((y : B) → o ≡ Some y → k * w y ≤ most) → k * sum_by w rest ≤ left
    → k * sum_by w (cons_option o rest) ≤ most + left
sum_made_one None k w most left rest each few = omega (arith, few)
sum_made_one (Some y) k w most left rest each few =
    let here = each y refl in
    let whole = ap (λ n. k * n) (sum_by-cons w y rest) in
    omega (arith, here, few, whole)

-- of what is made of the elements, at most one of each
sum_made : {A B : Type 0} (f : A → Option B) (k : ℕ) (w : B → ℕ) (v : A → ℕ) (xs : List A)
    → ((x : A) (y : B) → f x ≡ Some y → k * w y ≤ v x) → k * sum_by w (filter_map f xs) ≤ sum_by v xs
sum_made f k w v [] each = omega arith
sum_made f k w v (x ∷ xs) each =
    let more = sum_made f k w v xs each in
    let both = sum_made_one (f x) k w (v x) (sum_by v xs) (filter_map f xs) (each x) more in
    omega (arith, both, sum_by-cons v x xs)

-- a size that counts where something lives is no more than one that counts where something may live
gate : (k : ℕ) (live may : Bool) (x y : ℕ) → (live ≡ true → may ≡ true) → k * x ≤ y → k * cond live x 0 ≤ cond may y 0
gate k true true x y each few = few
gate k true false x y each few = let same : false ≡ true = each refl in absurd (cc)
gate k false may x y each few = omega arith

sum_gated : (may : Bool) (xs : List InformationFrame) → sum_by (λ x. cond may (frame_size x) 0) xs
    ≡ cond may (sum_by frame_size xs) 0
sum_gated true xs = refl
sum_gated false xs = sum_none (λ x. 0) xs (λ x. refl)

ok_from : {A E : Type 0} (r : Result A E) (x : A) → result_ok r ≡ Some x → r ≡ Ok x
ok_from (Ok y) x is = (let same : y ≡ x = cc in ap Ok same)
ok_from (Err e) x is = absurd (cc)

longest_by : (lives : Longest) (p q : Bool)
    → cond p lives.regional (cond q lives.conus lives.text) ≤ max lives.regional (max lives.conus lives.text)
longest_by lives true q = omega arith
longest_by lives false true = omega arith
longest_by lives false false = omega arith

module _ (laws : ReadsFrames) (table : LifeTable) (moment : ℕ) where
  -- a version that lives was named by a reception of which something may live
  pub lives_by : (heard : Reception) (product version : ℕ) → version ≤ heard.moment + 60
      → lives_now table moment product version ≡ true → may_live table moment heard ≡ true
  lives_by heard product version near lives =
      let below = ltb-true moment (version + longest_of (longest_lives table) product) lives in
      let most = longest_by (longest_lives table) (product == 63) (product == 64) in
      lt-ltb moment (heard.moment + greatest_life table + 60) (omega (arith, below, most, near))

  -- a part of each frame that lives
  pub reception_sum : (heard : Reception) (k : ℕ) (w : Arrival → ℕ) → length heard.payload ≡ 432
      → ((frame : InformationFrame) (a : Arrival) → 4 + length a.payload ≤ length frame.body
      → (is_some a.segmentation ≡ true → 7 ≤ length frame.body) → k * w a ≤ frame_size frame)
      → k * sum_by (λ a. cond (lives_now table moment a.product a.version) (w a) 0) (arrivals_in table heard)
      ≤ cond (may_live table moment heard) 424 0
  reception_sum heard k w size each =
      let frames = information_frames heard.payload in
      let may = may_live table moment heard in
      let sum = sum_made (λ frame. result_ok (arrival_in table (station_heard heard) heard.moment frame)) k
      (λ a. cond (lives_now table moment a.product a.version) (w a) 0) (λ frame. cond may (frame_size frame) 0) frames
      (λ frame a is.
      let of = arrives_of_frame laws (station_heard heard) heard.moment frame a table
      (ok_from (arrival_in table (station_heard heard) heard.moment frame) a is) in
      gate k (lives_now table moment a.product a.version) may (w a) (frame_size frame)
      (lives_by heard a.product a.version of.near) (each frame a of.payload_fits of.header_fits)) in
      let room = gate 1 may may (sum_by frame_size frames) 424 (λ h. h) (let few = frames_size heard.payload size in omega arith) in
      omega (arith, sum, room, sum_gated may frames)

  alive_more : (heard : Reception) (past : List Reception) (most : ℕ)
      → most * number_alive table moment (heard ∷ past)
      ≡ cond (may_live table moment heard) most 0 + most * number_alive table moment past
  alive_more heard past most = elim (cases_Bool (may_live table moment heard)) [
    | inl may ↦
        let more : filter (may_live table moment) (heard ∷ past) ≡ heard ∷ filter (may_live table moment) past
        = cond-true (may_live table moment heard) _ _ may in
        omega (arith, ap (λ rs. most * length rs) more, cond-true (may_live table moment heard) most 0 may)
    | inr dead ↦
        let same : filter (may_live table moment) (heard ∷ past) ≡ filter (may_live table moment) past
        = cond-false (may_live table moment heard) _ _ dead in
        omega (arith, ap (λ rs. most * length rs) same, cond-false (may_live table moment heard) most 0 dead)
  ]

  pub receptions_sum : (w : Arrival → ℕ) (most : ℕ)
      → ((heard : Reception) → length heard.payload ≡ 432 → sum_by w (arrivals_in table heard)
      ≤ cond (may_live table moment heard) most 0)
      → (past : List Reception) → AreReceptions past → sum_by w (arrivals table past) ≤ most * number_alive table moment past
  receptions_sum w most each [] are = omega arith
  receptions_sum w most each (heard ∷ past) are =
      let more = receptions_sum w most each past are.1 in
      let here = each heard are.0.size in
      let split = sum_by-append w (arrivals table past) (arrivals_in table heard) in
      omega (arith, more, here, split, alive_more heard past most)

  -- bytes, the same with the six at least before a payload, and arrivals with segment fields
  abbrev pub byte_weight : Arrival → ℕ
  byte_weight a = cond (lives_now table moment a.product a.version) (length a.payload) 0

  abbrev pub room_weight : Arrival → ℕ
  room_weight a = cond (lives_now table moment a.product a.version) (6 + length a.payload) 0

  abbrev pub segment_weight : Arrival → ℕ
  segment_weight a = cond (lives_now table moment a.product a.version) (cond (is_some a.segmentation) 1 0) 0

  front_of_segment : (segmented : Bool) (size : ℕ) → (segmented ≡ true → 7 ≤ size) → 9 * cond segmented 1 0 ≤ 2 + size
  front_of_segment true size long = let least = long refl in omega arith
  front_of_segment false size long = omega arith

  few_by : (may : Bool) (n : ℕ) → 9 * n ≤ cond may 424 0 → n ≤ cond may 47 0
  few_by true n few = omega arith
  few_by false n few = omega arith

  pub bytes_sum : (past : List Reception) → AreReceptions past → sum_by byte_weight (arrivals table past)
      ≤ 424 * number_alive table moment past
  bytes_sum = receptions_sum byte_weight 424 (λ heard size.
      let one = reception_sum heard 1 (λ a. length a.payload) size (λ frame a fits long. omega (arith, fits)) in
      omega (arith, one))

  pub room_sum : (past : List Reception) → AreReceptions past → sum_by room_weight (arrivals table past)
      ≤ 424 * number_alive table moment past
  room_sum = receptions_sum room_weight 424 (λ heard size.
      let one = reception_sum heard 1 (λ a. 6 + length a.payload) size (λ frame a fits long. omega (arith, fits)) in
      omega (arith, one))

  pub segments_sum : (past : List Reception) → AreReceptions past → sum_by segment_weight (arrivals table past)
      ≤ 47 * number_alive table moment past
  segments_sum = receptions_sum segment_weight 47 (λ heard size.
      few_by (may_live table moment heard) _
      (reception_sum heard 9 (λ a. cond (is_some a.segmentation) 1 0) size (λ frame a fits long.
      front_of_segment (is_some a.segmentation) (length frame.body) long)))

-- the numbers of segments are from 1 to the count
numbered_one : (o : Option Arrival) (rest : List Arrival) → ((a : Arrival) → o ≡ Some a → IsNumbered a.segmentation)
    → AreNumbered rest → AreNumbered (cons_option o rest)
numbered_one None rest each later = later
numbered_one (Some a) rest each later = (each a refl, later)

numbered_made : {A : Type 0} (f : A → Option Arrival) (xs : List A)
    → ((x : A) (a : Arrival) → f x ≡ Some a → IsNumbered a.segmentation) → AreNumbered (filter_map f xs)
numbered_made f [] each = tt
numbered_made f (x ∷ xs) each = numbered_one (f x) (filter_map f xs) (each x) (numbered_made f xs each)

pub are_numbered : ReadsFrames → (table : LifeTable) (past : List Reception) → AreNumbered (arrivals table past)
are_numbered laws table [] = tt
are_numbered laws table (heard ∷ past) =
    AllByRecursion-append (λ (a : Arrival). IsNumbered a.segmentation) (arrivals table past) (arrivals_in table heard) (are_numbered laws table past)
    (numbered_made (λ frame. result_ok (arrival_in table (station_heard heard) heard.moment frame))
    (information_frames heard.payload) (λ frame a is.
    (arrives_of_frame laws (station_heard heard) heard.moment frame a table
    (ok_from (arrival_in table (station_heard heard) heard.moment frame) a is)).numbered))
