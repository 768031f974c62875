-- A payload of radar says no more than five blocks for each of its bytes and of the six at least that stand before them, and
-- none that outlives its version.
use Rattle.std.proofs.Common.{◌≡◌, ℕ, zero, suc, ◌+◌, ◌-◌, ◌*◌, ◌/◌, ◌%◌, ◌<◌, ◌≤◌, Bool, true, false, cond, ◌==◌, max, List, [], ◌∷◌, length, take, drop, map, filter, slice_index, Option, Some, None, Result, Ok, Err, refl, sym, ap, ◌∙◌, inl, inr, arith}
use Rattle.std.specs.Prelude.{nat_le, nat_lt}
use Rattle.std.specs.Int.{bit_at}
use Rattle.std.specs.List.{range_with_len}
use Rattle.std.specs.Option.{unwrap_or}
use Rattle.std.proofs.lemmas.Bool.{cases_Bool, cond-true, cond-false, eqb-true, ltb-true, ltb-false, lt-ltb}
use Rattle.std.proofs.lemmas.List.{get_or_past, length-drop, length-map, length-take}
use Rattle.std.proofs.lemmas.List.Sums.{count_by-le-length, length-filter}
use Rattle.std.proofs.lemmas.Nat.Bits.{bit_at-zero}
use Rattle.list_members.specs.Finding.{find-passes}
use Rattle.life_table.specs.LifeTable.{LifeTable, RadarRow, longest, radar_row}
use Rattle.life_table.specs.Longest.{RadarsAreWithin}
use Rattle.life_table.specs.Rules.{IsTable}
use Rattle.radar_core.specs.declared.fault.RadarFault.{RadarFault}
use Rattle.radar_core.specs.Blanks.{bitmap_length, is_named, named_offsets}
use Rattle.radar_core.specs.Keys.{is_run_in, key_in, scale_in}
use Rattle.radar_core.specs.Radar.{Block, blank_block, radar_blocks, read_bitmap, read_runs}
use Rattle.radar_core.specs.Runs.{cells_in}
use Rattle.radar_core.specs.declared.key.BlockKey.{BlockKey}
use Rattle.segment_core.specs.Store.{is_in_life}
use Rattle.picture_core.specs.Contents.{block_entries, block_entry, entries_by_blocks, radar_entries}
use Rattle.picture_core.specs.Entry.{Entry}
use Rattle.picture_core.specs.Kept.{live_entries}
use Rattle.receiver_core.specs.StandsFor.{longest_lives}

-- of numbers in a row no more pass a test than lie below what passes
filter_below : (p : ℕ → Bool) (k first count : ℕ) → ((n : ℕ) → p n ≡ true → n < k)
    → length (filter p (range_with_len first count)) ≤ k - first
filter_below p k first zero each = omega arith
filter_below p k first (suc count) each =
    let rest = filter p (range_with_len (first + 1) count) in
    let more = filter_below p k (first + 1) count each in
    elim (cases_Bool (p first)) [
      | inl passes ↦
          let below = each first passes in
          let kept = cond-true (p first) (first ∷ rest) rest passes in
          omega (arith, more, below, ap length kept)
      | inr fails ↦
          let kept = cond-false (p first) (first ∷ rest) rest fails in
          omega (arith, more, ap length kept)
    ]

filter_front : (p : ℕ → Bool) (k count : ℕ) → ((n : ℕ) → p n ≡ true → n < k) → length (filter p (range_with_len 0 count)) ≤ k
filter_front p k count each = let below = filter_below p k 0 count each in omega (arith, below)

filter_within : (p : ℕ → Bool) (first count : ℕ) → length (filter p (range_with_len first count)) ≤ count
filter_within p first zero = omega arith
filter_within p first (suc count) =
    let rest = filter p (range_with_len (first + 1) count) in
    let more = filter_within p (first + 1) count in
    elim (cases_Bool (p first)) [
      | inl passes ↦
          let kept = cond-true (p first) (first ∷ rest) rest passes in omega (arith, more, ap length kept)
      | inr fails ↦
          let kept = cond-false (p first) (first ∷ rest) rest fails in omega (arith, more, ap length kept)
    ]

-- the base aside, a bitmap names no offset that none of its bits stands for
named_below : (bitmap : List ℕ) (offset : ℕ) → is_named bitmap offset ≡ true → offset < max 1 (8 * length bitmap - 3)
named_below bitmap offset named = elim (cases_Bool (offset == 0)) [
  | inl base ↦ let at = eqb-true offset 0 base in omega (arith, at)
  | inr further ↦
      let place = (offset + 3) / 8 in
      let set : (bit_at (slice_index bitmap place) ((offset + 3) % 8) == 1) ≡ true = rw further at named in
      elim (cases_Bool (nat_lt place (length bitmap))) [
        | inl within ↦ let inside = ltb-true place (length bitmap) within in omega (arith, inside)
        | inr past ↦
            let outside = ltb-false place (length bitmap) past in
            let none : slice_index bitmap place ≡ 0 = get_or_past bitmap place 0 outside in
            let unset : (bit_at (slice_index bitmap place) ((offset + 3) % 8) == 1) ≡ false =
            ap (λ byte. bit_at byte ((offset + 3) % 8) == 1) none
            ∙ ap (λ bit. bit == 1) (bit_at-zero ((offset + 3) % 8)) in
            let wrong : true ≡ false = sym set ∙ unset in
            absurd (cc)
      ]
]

pub few_named : (bitmap : List ℕ) → length (named_offsets bitmap) ≤ max 1 (8 * length bitmap - 3)
unfolding named_offsets
few_named bitmap = filter_front (is_named bitmap) (max 1 (8 * length bitmap - 3)) 117 (named_below bitmap)

pub named_within : (bitmap : List ℕ) → length (named_offsets bitmap) ≤ 117
unfolding named_offsets
named_within bitmap = filter_within (is_named bitmap) 0 117

-- as many blocks as a payload of so many bytes may say
abbrev AreFewFor : ℕ → Result (List Block) RadarFault → Type 0
AreFewFor size (Ok blocks) = length blocks ≤ 5 * (6 + size)
AreFewFor size (Err fault) = Unit {0}

few_by : (size : ℕ) (one other : Result (List Block) RadarFault) (first : Bool) → AreFewFor size one → AreFewFor size other
    → AreFewFor size (cond first one other)
few_by size one other true p q = p
few_by size one other false p q = q

few_of_runs : (size : ℕ) (key : BlockKey) (runs : List ℕ) → AreFewFor size (read_runs key runs)
few_of_runs size key runs = few_by size _ _ (length (cells_in runs) == 128) (omega arith) tt

few_of_bitmap : (size : ℕ) (base : BlockKey) (bytes : List ℕ) → 3 + length bytes ≤ size → AreFewFor size (read_bitmap base bytes)
few_of_bitmap size base bytes room =
    let bitmap = take (bitmap_length bytes) bytes in
    let few = few_named bitmap in
    let within = named_within bitmap in
    let count = length-map (named_offsets bitmap) (blank_block base) in
    let cut = length-take (bitmap_length bytes) bytes in
    few_by size _ _ (nat_le 405000 base.number) tt
    (few_by size _ _ (nat_lt (length bytes) (bitmap_length bytes)) tt (omega (arith, few, within, count, cut, room)))

few_blocks : (product : ℕ) (payload : List ℕ) → AreFewFor (length payload) (radar_blocks product payload)
unfolding radar_blocks
few_blocks product payload = elim (cases_Bool (nat_lt (length payload) 4)) [
  | inl short ↦ rw short tt
  | inr long ↦
      let least = ltb-false (length payload) 4 long in
      let key = key_in product payload in
      let bytes = drop 3 payload in
      let size = length-drop 3 payload in
      rw long
      (few_by (length payload) _ _ (scale_in payload == 3) tt
      (few_by (length payload) (read_runs key bytes) (read_bitmap key bytes) (is_run_in payload)
      (few_of_runs (length payload) key bytes)
      (few_of_bitmap (length payload) key bytes (omega (arith, least, size)))))
]

-- what is made of elements passes a test no more often than there are elements, and never where none passes
few_mapped : {A B : Type 0} (p : B → Bool) (f : A → B) (own : Bool) (xs : List A) → ((x : A) → p (f x) ≡ own)
    → length (filter p (map f xs)) ≤ cond own (length xs) 0
few_mapped p f true xs each =
    omega (arith, length-filter p (map f xs), count_by-le-length p (map f xs), length-map xs f)
few_mapped p f false [] each = omega arith
few_mapped p f false (x ∷ xs) each = rw (each x) (few_mapped p f false xs each)

few_lives : (own lives : Bool) (count most : ℕ) → (own ≡ true → lives ≡ true) → count ≤ 5 * most
    → cond own count 0 ≤ 5 * cond lives most 0
few_lives true true count most each few = few
few_lives true false count most each few = let same : false ≡ true = each refl in absurd (cc)
few_lives false lives count most each few = omega arith

-- that a version of a product lives at a moment
abbrev pub lives_now : LifeTable → ℕ → ℕ → ℕ → Bool
lives_now table moment product version = is_in_life (longest_lives table) moment product version

module _ (radars : RadarsAreWithin) (table : LifeTable) (rules : IsTable table) (moment : ℕ) where
  -- a block that lives is of a product and version that lives
  row_lives : (product version : ℕ) (row : RadarRow) → radar_row table product ≡ Some row
      → nat_lt moment (version + row.life) ≡ true → lives_now table moment product version ≡ true
  row_lives product version row is own =
      let most = radars table product row rules is in
      let below = ltb-true moment (version + row.life) own in
      let longest_is : unwrap_or (longest table product) 0 ≡ most.0 = ap (λ o. unwrap_or o 0) most.1 in
      let within = most.2 in
      let product_is : row.product ≡ product = eqb-true row.product product (find-passes (λ r. r.product == product) table.radars row is) in
      elim (rules.radars product row is).product [
        | inl regional ↦
            let at : product ≡ 63 = sym product_is ∙ regional in
            rw at (lt-ltb moment (version + unwrap_or (longest table 63) 0)
            (omega (arith, below, longest_is, within, ap (λ p. unwrap_or (longest table p) 0) at)))
        | inr conus ↦
            let at : product ≡ 64 = sym product_is ∙ conus in
            rw at (lt-ltb moment (version + unwrap_or (longest table 64) 0)
            (omega (arith, below, longest_is, within, ap (λ p. unwrap_or (longest table p) 0) at)))
      ]

  live_row : (product version size : ℕ) (blocks : List Block) (row : Option RadarRow) → radar_row table product ≡ row
      → length blocks ≤ 5 * (6 + size)
      → length (live_entries moment (block_entries version row blocks)) ≤ 5 * cond (lives_now table moment product version) (6 + size) 0
  live_row product version size blocks None is few = omega arith
  live_row product version size blocks (Some row) is few =
      let own = nat_lt moment (version + row.life) in
      let some = few_mapped (λ (entry : Entry). nat_lt moment entry.until) (block_entry version row.life) own blocks (λ block. refl) in
      let most = few_lives own (lives_now table moment product version) (length blocks) (6 + size) (row_lives product version row is) few in
      omega (arith, some, most)

  live_blocks : (product version size : ℕ) (blocks : Result (List Block) RadarFault) → AreFewFor size blocks
      → length (live_entries moment (entries_by_blocks version (radar_row table product) blocks))
      ≤ 5 * cond (lives_now table moment product version) (6 + size) 0
  live_blocks product version size (Err fault) few = omega arith
  live_blocks product version size (Ok blocks) few =
      live_row product version size blocks (radar_row table product) refl few

  pub live_radar : (product version : ℕ) (payload : List ℕ)
      → length (live_entries moment (radar_entries table product version payload))
      ≤ 5 * cond (lives_now table moment product version) (6 + length payload) 0
  live_radar product version payload =
      live_blocks product version (length payload) (radar_blocks product payload) (few_blocks product payload)
