-- What is written of a record reads back.
use Rattle.std.proofs.Common.{◌≡◌, ℕ, zero, suc, ◌+◌, ◌-◌, ◌*◌, ◌/◌, ◌%◌, ◌^◌, ◌<◌, ◌≤◌, Bool, true, false, ◌&&◌, ◌==◌, nat_lt, List, [], ◌∷◌, ◌++◌, length, take, drop, map, replicate, Ok, refl, sym, ap, subst, ◌∙◌, arith, inl, inr}
use Rattle.std.specs.List.{All, flat_map}
use Rattle.std.proofs.lemmas.Bool.{cond-true, cond-false, cases_Bool, and_parts, eqb-true, ltb-true, eq-eqb}
use Rattle.std.proofs.lemmas.List.{take_at, drop_at, drop-drop, length-append, length-map}
use Rattle.std.proofs.lemmas.List.Elements.{All-nil, All-cons, All-head, All-tail}
use Rattle.std.proofs.Math.Seq.{drop-append-add}
use Rattle.bit_fields.specs.Bits.{field_at}
use Rattle.radar_core.specs.declared.key.BlockKey.{BlockKey}
use Rattle.radar_core.specs.declared.run.Run.{Run}
use Rattle.bit_fields.specs.Bits.{bit}
use Rattle.bit_fields.specs.BitsBack.{bit_below, bit_back}
use Rattle.radar_core.specs.Keys.{FitsKey, front_bytes, is_run_in, scale_in, key_in}
use Rattle.radar_core.specs.Cells.{IsCells}
use Rattle.radar_core.specs.Runs.{FitsRun, run_byte, run_cells, run_in, cells_in, runs_from, longest_runs, run_record}
use Rattle.radar_core.specs.Radar.{radar_blocks, read_runs, read_bitmap, run_blocks}
use Rattle.radar_core.proofs.FrontLemmas.{is_run, is_bitmap}
use Rattle.radar_core.proofs.RunsLemmas.{one_cell, longer}

-- the fields of a front, side by side
abbrev front_number : ℕ → ℕ → ℕ → ℕ → ℕ
front_number flag south scale number = (((0 + flag) * 2 + south) * 4 + scale) * 2 ^ 20 + number

abbrev three_bytes : ℕ → List ℕ
three_bytes n = n / 2 ^ 16 % 256 ∷ n / 2 ^ 8 % 256 ∷ n % 256 ∷ []

record HasFields (flag south scale number : ℕ) : Type 0 where
  flag_is : field_at (three_bytes (front_number flag south scale number)) 0 1 ≡ flag
  south_is : field_at (three_bytes (front_number flag south scale number)) 1 1 ≡ south
  scale_is : field_at (three_bytes (front_number flag south scale number)) 2 2 ≡ scale
  number_is : field_at (three_bytes (front_number flag south scale number)) 4 20 ≡ number

has_fields : (flag south scale number : ℕ) → flag < 2 → south < 2 → scale ≤ 2 → number < 2 ^ 20 → HasFields flag south scale number
has_fields flag south scale number p q r s = record { flag_is = omega arith; south_is = omega arith; scale_is = omega arith; number_is = omega arith }

front_is : (is_run : Bool) (key : BlockKey) → front_bytes is_run key ≡ three_bytes (front_number (bit is_run) (bit key.south) key.scale key.number)
front_is is_run key = refl

-- the front of what is written, and what stands behind it
pub record ReadsFront (is_run : Bool) (key : BlockKey) (body : List ℕ) : Type 0 where
  pub flag : is_run_in (front_bytes is_run key ++ body) ≡ is_run
  pub scale : scale_in (front_bytes is_run key ++ body) ≡ key.scale
  pub key_back : key_in key.product (front_bytes is_run key ++ body) ≡ key
  pub body_back : drop 3 (front_bytes is_run key ++ body) ≡ body
  pub size : length (front_bytes is_run key ++ body) ≡ 3 + length body

made_key : ℕ → ℕ → Bool → ℕ → BlockKey
made_key product scale south number = record { product = product; scale = scale; south = south; number = number }

pub reads_front : (is_run : Bool) (key : BlockKey) (body : List ℕ) → FitsKey key → ReadsFront is_run key body
unfolding made_key
reads_front is_run key body fits =
    let front : List ℕ = front_bytes is_run key in
    let taken : take 3 (front ++ body) ≡ front = take_at front body 3 refl in
    let has = has_fields (bit is_run) (bit key.south) key.scale key.number (bit_below is_run) (bit_below key.south) fits.scale fits.number in
    let south_back : (field_at front 1 1 == 1) ≡ key.south = bit_back key.south (field_at front 1 1) has.south_is in
    record {
      flag = ap (λ (f : List ℕ). field_at f 0 1 == 1) taken ∙ bit_back is_run (field_at front 0 1) has.flag_is;
      scale = ap (λ (f : List ℕ). field_at f 2 2) taken ∙ has.scale_is;
      key_back =
          ap (λ (f : List ℕ). made_key key.product (field_at f 2 2) (field_at f 1 1 == 1) (field_at f 4 20)) taken
          ∙ ap (λ n. made_key key.product n (field_at front 1 1 == 1) (field_at front 4 20)) has.scale_is
          ∙ ap (λ b. made_key key.product key.scale b (field_at front 4 20)) south_back
          ∙ ap (λ n. made_key key.product key.scale key.south n) has.number_is;
      body_back = drop_at front body 3 refl;
      size = length-append front body;
    }

-- what is read behind a front
pub run_record_read : (key : BlockKey) (body : List ℕ) → FitsKey key → 1 ≤ length body
    → radar_blocks key.product (front_bytes true key ++ body) ≡ read_runs key body
run_record_read key body fits some =
    let reads = reads_front true key body fits in
    is_run key.product (front_bytes true key ++ body) (omega (arith, reads.size)) (λ bad. absurd (omega (arith, bad, reads.scale, fits.scale))) reads.flag
    ∙ ap (λ (k : BlockKey). read_runs k (drop 3 (front_bytes true key ++ body))) reads.key_back
    ∙ ap (λ (b : List ℕ). read_runs key b) reads.body_back

pub bitmap_record_read : (key : BlockKey) (body : List ℕ) → FitsKey key → 1 ≤ length body
    → radar_blocks key.product (front_bytes false key ++ body) ≡ read_bitmap key body
bitmap_record_read key body fits some =
    let reads = reads_front false key body fits in
    is_bitmap key.product (front_bytes false key ++ body) (omega (arith, reads.size)) (λ bad. absurd (omega (arith, bad, reads.scale, fits.scale))) reads.flag
    ∙ ap (λ (k : BlockKey). read_bitmap k (drop 3 (front_bytes false key ++ body))) reads.key_back
    ∙ ap (λ (b : List ℕ). read_bitmap key b) reads.body_back

-- a run reads back from its byte
length_back : (length intensity : ℕ) → 1 ≤ length → length ≤ 32 → intensity < 8 → field_at (((0 * 2 ^ 5 + (length - 1)) * 2 ^ 3 + intensity) ∷ []) 0 5 + 1 ≡ length
length_back length intensity p q r = omega arith

intensity_back : (length intensity : ℕ) → 1 ≤ length → length ≤ 32 → intensity < 8 → field_at (((0 * 2 ^ 5 + (length - 1)) * 2 ^ 3 + intensity) ∷ []) 5 3 ≡ intensity
intensity_back length intensity p q r = omega arith

run_back : (run : Run) → FitsRun run → run_cells (run_in (run_byte run)) ≡ run_cells run
run_back run fits =
    ap (λ n. replicate n (field_at (run_byte run ∷ []) 5 3)) (length_back run.length run.intensity fits.some fits.length fits.intensity)
    ∙ ap (λ n. replicate run.length n) (intensity_back run.length run.intensity fits.some fits.length fits.intensity)

pub cells_back : (runs : List Run) → All FitsRun runs → cells_in (map run_byte runs) ≡ flat_map run_cells runs
cells_back [] fits = refl
cells_back (run ∷ runs) fits =
    ap (λ (b : List ℕ). b ++ cells_in (map run_byte runs)) (run_back run (All-head FitsRun run runs fits))
    ∙ ap (λ (b : List ℕ). run_cells run ++ b) (cells_back runs (All-tail FitsRun run runs fits))

-- the longest runs of some cells spell them, each fits, and there are at most as many as cells
pub record SpellCells (runs : List Run) (cells : List ℕ) : Type 0 where
  pub spell : flat_map run_cells runs ≡ cells
  pub fit : All FitsRun runs

pub replicate-more : (n cell : ℕ) (cells : List ℕ) → replicate (n + 1) cell ++ cells ≡ replicate n cell ++ cell ∷ cells
replicate-more zero cell cells = refl
replicate-more (suc n) cell cells =
    let e : suc n + 1 ≡ suc (n + 1) = omega arith in
    ap (λ m. replicate m cell ++ cells) e ∙ ap (λ (b : List ℕ). cell ∷ b) (replicate-more n cell cells)

runs_from-cells : (run : Run) (cells : List ℕ) → FitsRun run → All (λ cell. cell < 8) cells → SpellCells (runs_from run cells) (run_cells run ++ cells)
runs_from-cells run [] fits small = record { spell = refl; fit = All-cons FitsRun run [] fits (All-nil FitsRun) }
runs_from-cells run (cell ∷ cells) fits small =
    let head : cell < 8 = All-head (λ n. n < 8) cell cells small in
    let tail : All (λ n. n < 8) cells = All-tail (λ n. n < 8) cell cells small in
    let test : Bool = (cell == run.intensity) && nat_lt run.length 32 in
    elim (cases_Bool test) [
      | inl goes_on ↦
          let parts = and_parts (cell == run.intensity) (nat_lt run.length 32) goes_on in
          let same : cell ≡ run.intensity = eqb-true cell run.intensity parts.0 in
          let short : run.length < 32 = ltb-true run.length 32 parts.1 in
          let rest = runs_from-cells (longer run) cells (record { some = omega arith; length = omega arith; intensity = fits.intensity }) tail in
          subst (λ (runs : List Run). SpellCells runs (run_cells run ++ cell ∷ cells))
          (sym (cond-true test (runs_from (longer run) cells) (run ∷ runs_from (one_cell cell) cells) goes_on))
          (record {
            spell = rest.spell ∙ replicate-more run.length run.intensity cells ∙ ap (λ n. run_cells run ++ n ∷ cells) (sym same);
            fit = rest.fit;
          })
      | inr ends ↦
          let rest = runs_from-cells (one_cell cell) cells (record { some = omega arith; length = omega arith; intensity = head }) tail in
          subst (λ (runs : List Run). SpellCells runs (run_cells run ++ cell ∷ cells))
          (sym (cond-false test (runs_from (longer run) cells) (run ∷ runs_from (one_cell cell) cells) ends))
          (record {
            spell = ap (λ (b : List ℕ). run_cells run ++ b) rest.spell;
            fit = All-cons FitsRun run (runs_from (one_cell cell) cells) fits rest.fit;
          })
    ]

pub longest_runs-cells : (cells : List ℕ) → All (λ cell. cell < 8) cells → SpellCells (longest_runs cells) cells
unfolding longest_runs
longest_runs-cells [] small = record { spell = refl; fit = All-nil FitsRun }
longest_runs-cells (cell ∷ cells) small =
    runs_from-cells (one_cell cell) cells
    (record { some = omega arith; length = omega arith; intensity = All-head (λ n. n < 8) cell cells small })
    (All-tail (λ n. n < 8) cell cells small)

runs_from-size : (run : Run) (cells : List ℕ) → (1 ≤ length (runs_from run cells)) × (length (runs_from run cells) ≤ 1 + length cells)
runs_from-size run [] = (omega arith, omega arith)
runs_from-size run (cell ∷ cells) =
    let test : Bool = (cell == run.intensity) && nat_lt run.length 32 in
    let on = runs_from-size (longer run) cells in
    let next = runs_from-size (one_cell cell) cells in
    elim (cases_Bool test) [
      | inl goes_on ↦
          let e = ap length (cond-true test (runs_from (longer run) cells) (run ∷ runs_from (one_cell cell) cells) goes_on) in
          (omega (arith, e, on.0), omega (arith, e, on.1))
      | inr ends ↦
          let e = ap length (cond-false test (runs_from (longer run) cells) (run ∷ runs_from (one_cell cell) cells) ends) in
          (omega (arith, e, next.0), omega (arith, e, next.1))
    ]

pub longest_runs-size : (cells : List ℕ) → 1 ≤ length cells → (1 ≤ length (longest_runs cells)) × (length (longest_runs cells) ≤ length cells)
unfolding longest_runs
longest_runs-size [] some = absurd (omega arith)
longest_runs-size (cell ∷ cells) some =
    let sizes = runs_from-size (one_cell cell) cells in (sizes.0, omega (arith, sizes.1))

-- a run record reads back as its block
pub run_record-back : (key : BlockKey) (cells : List ℕ) → FitsKey key → IsCells cells → radar_blocks key.product (run_record key cells) ≡ Ok ((key, cells) ∷ [])
unfolding run_record
run_record-back key cells fits are =
    let spelled = longest_runs-cells cells are.intensities in
    let body : List ℕ = map run_byte (longest_runs cells) in
    let back : cells_in body ≡ cells = cells_back (longest_runs cells) spelled.fit ∙ spelled.spell in
    let sizes = longest_runs-size cells (omega (arith, are.count)) in
    run_record_read key body fits (omega (arith, sizes.0, length-map (longest_runs cells) run_byte))
    ∙ cond-true (length (cells_in body) == 128) (Ok (run_blocks key body)) _ (eq-eqb (length (cells_in body)) 128 (ap length back ∙ are.count))
    ∙ ap (λ (b : List ℕ). Ok ((key, b) ∷ [])) back

pub run_record-size : (key : BlockKey) (cells : List ℕ) → IsCells cells
    → (length (run_record key cells) ≡ 3 + length (longest_runs cells)) × ((4 ≤ length (run_record key cells)) × (length (run_record key cells) ≤ 131))
unfolding run_record
run_record-size key cells are =
    let sizes = longest_runs-size cells (omega (arith, are.count)) in
    let all : length (run_record key cells) ≡ 3 + length (longest_runs cells) =
    length-append (front_bytes true key) (map run_byte (longest_runs cells)) ∙ ap (λ n. 3 + n) (length-map (longest_runs cells) run_byte)
    in
    (all, (omega (arith, sizes.0), omega (arith, sizes.1, are.count)))

-- a record that is written in front of a room
pub record IsRecord (old new written : List ℕ) (size : ℕ) : Type 0 where
  pub size_is : size ≡ length written
  pub bytes : take size new ≡ written
  pub rest : drop size new ≡ drop size old

pub recorded : (old middle new front body : List ℕ) (size : ℕ) → length front ≡ 3 → middle ≡ front ++ drop 3 old → size ≡ 3 + length body
    → take size new ≡ take 3 middle ++ body → drop size new ≡ drop size middle → IsRecord old new (front ++ body) size
recorded old middle new front body size three middle_is size_is bytes rest =
    let back : size ≡ length front + length body = omega arith in
    record {
      size_is = back ∙ sym (length-append front body);
      bytes = bytes ∙ ap (λ (b : List ℕ). take 3 b ++ body) middle_is ∙ ap (λ (b : List ℕ). b ++ body) (take_at front (drop 3 old) 3 three);
      rest =
          rest ∙ ap (drop size) middle_is ∙ ap (λ n. drop n (front ++ drop 3 old)) back ∙ drop-append-add front (drop 3 old) (length body)
          ∙ drop-drop (length body) 3 old ∙ ap (λ n. drop n old) (sym size_is);
    }
