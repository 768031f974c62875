-- The longest runs of some cells, written one after another.
use Rattle.std.proofs.Common.{◌≡◌, ℕ, ◌+◌, ◌<◌, ◌≤◌, List, [], ◌∷◌, ◌++◌, length, take, drop, get_or, set, map, refl, sym, ap, subst, ◌∙◌, arith, append_assoc, inl, inr}
use Rattle.std.proofs.lemmas.Bool.{cond-true, cond-false, and_from, and_left, and_right, eq-eqb, ne_eqb, lt-ltb, le-ltb, cases_eq}
use Rattle.std.proofs.lemmas.List.{append-nil, take_more_set, length-set, length-append, length-take-le, length-map, drop_more, drop_all, drop-drop, drop-set-lt}
use Rattle.radar_core.specs.declared.run.Run.{Run}
use Rattle.radar_core.specs.Cells.{IsCells}
use Rattle.radar_core.specs.Runs.{FitsRun, run_byte, runs_from, longest_runs}

abbrev pub one_cell : ℕ → Run
one_cell cell = record { length = 1; intensity = cell }

abbrev pub longer : Run → Run
longer run = record { length = run.length + 1; intensity = run.intensity }

-- the runs behind a run, where it goes on and where it ends
pub runs_from-longer : (run : Run) (cell : ℕ) (cells : List ℕ) → cell ≡ run.intensity → run.length < 32
    → runs_from run (cell ∷ cells) ≡ runs_from (longer run) cells
runs_from-longer run cell cells same short =
    cond-true _ (runs_from (longer run) cells) (run ∷ runs_from (one_cell cell) cells)
    (and_from _ _ (eq-eqb cell run.intensity same) (lt-ltb run.length 32 short))

pub runs_from-other : (run : Run) (cell : ℕ) (cells : List ℕ) → (cell ≡ run.intensity → ⊥) → runs_from run (cell ∷ cells) ≡ run ∷ runs_from (one_cell cell) cells
runs_from-other run cell cells other =
    cond-false _ (runs_from (longer run) cells) (run ∷ runs_from (one_cell cell) cells)
    (and_left _ _ (ne_eqb cell run.intensity other))

pub runs_from-full : (run : Run) (cell : ℕ) (cells : List ℕ) → 32 ≤ run.length → runs_from run (cell ∷ cells) ≡ run ∷ runs_from (one_cell cell) cells
runs_from-full run cell cells full =
    cond-false _ (runs_from (longer run) cells) (run ∷ runs_from (one_cell cell) cells)
    (and_right _ _ (le-ltb run.length 32 full))

-- the runs while they are written: those before the place are in the room, but for one that is begun
pub record IsUnderway (cells old room : List ℕ) (used place : ℕ) (run : Run) : Type 0 where
  pub runs : take used room ++ map run_byte (runs_from run (drop place cells)) ≡ take 3 old ++ map run_byte (longest_runs cells)
  pub rest : drop used room ≡ drop used old
  pub size : length room ≡ 131
  pub used_least : 3 ≤ used
  pub used_most : used ≤ 2 + place
  pub fits : FitsRun run

pub underway-first : (cells old : List ℕ) (place : ℕ) → place ≡ 1 → length cells ≡ 128 → get_or cells 0 0 < 8 → length old ≡ 131
    → IsUnderway cells old old 3 place (one_cell (get_or cells 0 0))
unfolding longest_runs
underway-first [] old place first size small long = absurd (omega arith)
underway-first (cell ∷ cells) old place first size small long = record {
  runs = ap (λ n. take 3 old ++ map run_byte (runs_from (one_cell cell) (drop n (cell ∷ cells)))) first;
  rest = refl;
  size = long;
  used_least = omega arith;
  used_most = omega arith;
  fits = record { some = omega arith; length = omega arith; intensity = small };
}

pub underway-longer : (cells old room : List ℕ) (used place : ℕ) (run : Run) → IsUnderway cells old room used place run → place < length cells
    → get_or cells place 0 ≡ run.intensity → run.length < 32 → IsUnderway cells old room used (place + 1) (longer run)
underway-longer cells old room used place run so_far inside same short = record {
  runs = ap (λ rs. take used room ++ map run_byte rs)
      (sym (ap (runs_from run) (drop_more cells place 0 inside) ∙ runs_from-longer run (get_or cells place 0) (drop (place + 1) cells) same short))
      ∙ so_far.runs;
  rest = so_far.rest;
  size = so_far.size;
  used_least = so_far.used_least;
  used_most = omega (arith, so_far.used_most);
  fits = record { some = omega arith; length = omega arith; intensity = so_far.fits.intensity };
}

-- a run is written, and the runs behind it follow
put_run : (old room : List ℕ) (used : ℕ) (run : Run) (more : List Run) (all : List ℕ) → used < length room
    → take used room ++ map run_byte (run ∷ more) ≡ all → take (used + 1) (set room used (run_byte run)) ++ map run_byte more ≡ all
put_run old room used run more all inside so_far =
    ap (λ (b : List ℕ). b ++ map run_byte more) (take_more_set room used (run_byte run) inside)
    ∙ append_assoc (take used room) (run_byte run ∷ []) (map run_byte more) ∙ so_far

put_rest : (old room : List ℕ) (used byte : ℕ) → drop used room ≡ drop used old → drop (used + 1) (set room used byte) ≡ drop (used + 1) old
put_rest old room used byte rest =
    drop-set-lt (used + 1) room used byte (omega arith) ∙ sym (drop-drop 1 used room) ∙ ap (drop 1) rest ∙ drop-drop 1 used old

pub underway-next : (cells old room : List ℕ) (used place byte : ℕ) (run : Run) → IsUnderway cells old room used place run → place < length cells
    → length cells ≡ 128 → byte ≡ run_byte run → get_or cells place 0 < 8 → (get_or cells place 0 ≡ run.intensity → 32 ≤ run.length)
    → IsUnderway cells old (set room used byte) (used + 1) (place + 1) (one_cell (get_or cells place 0))
underway-next cells old room used place byte run so_far inside whole byte_is small ends =
    let cell : ℕ = get_or cells place 0 in
    let more : List Run = runs_from (one_cell cell) (drop (place + 1) cells) in
    let split : runs_from run (drop place cells) ≡ run ∷ more =
    ap (runs_from run) (drop_more cells place 0 inside)
    ∙ (elim (cases_eq cell run.intensity) [
      | inl same ↦ runs_from-full run cell (drop (place + 1) cells) (ends same)
      | inr other ↦ runs_from-other run cell (drop (place + 1) cells) other
    ])
    in
    record {
      runs = ap (λ b. take (used + 1) (set room used b) ++ map run_byte more) byte_is
          ∙ put_run old room used run more (take 3 old ++ map run_byte (longest_runs cells)) (omega (arith, so_far.size, so_far.used_most))
          (ap (λ rs. take used room ++ map run_byte rs) (sym split) ∙ so_far.runs);
      rest = put_rest old room used byte so_far.rest;
      size = length-set room used byte ∙ so_far.size;
      used_least = omega (arith, so_far.used_least);
      used_most = omega (arith, so_far.used_most);
      fits = record { some = omega arith; length = omega arith; intensity = small };
    }

-- all runs are written
pub record AreWritten (cells old room : List ℕ) (used : ℕ) : Type 0 where
  pub runs : take used room ≡ take 3 old ++ map run_byte (longest_runs cells)
  pub rest : drop used room ≡ drop used old
  pub size : used ≡ 3 + length (longest_runs cells)

pub all_written : (cells old room : List ℕ) (used place byte : ℕ) (run : Run) → IsUnderway cells old room used place run → length cells ≤ place
    → place ≤ 128 → length old ≡ 131 → byte ≡ run_byte run → AreWritten cells old (set room used byte) (used + 1)
all_written cells old room used place byte run so_far end most long byte_is =
    let inside : used < length room = omega (arith, so_far.size, so_far.used_most) in
    let last : runs_from run (drop place cells) ≡ run ∷ [] = ap (runs_from run) (drop_all place cells end) in
    let runs_are : take (used + 1) (set room used byte) ≡ take 3 old ++ map run_byte (longest_runs cells) =
    ap (λ b. take (used + 1) (set room used b)) byte_is
    ∙ sym (append-nil (take (used + 1) (set room used (run_byte run))))
    ∙ put_run old room used run [] (take 3 old ++ map run_byte (longest_runs cells)) inside
    (ap (λ rs. take used room ++ map run_byte rs) (sym last) ∙ so_far.runs)
    in
    record {
      runs = runs_are;
      rest = put_rest old room used byte so_far.rest;
      size =
          sym (length-take-le (used + 1) (set room used byte) (omega (arith, length-set room used byte)))
          ∙ ap length runs_are ∙ length-append (take 3 old) (map run_byte (longest_runs cells))
          ∙ omega (arith, length-take-le 3 old (omega arith), length-map (longest_runs cells) run_byte);
    }

-- the same, as the code has it
pub underway-same : (cells old room again : List ℕ) (used now place : ℕ) (run other : Run) → again ≡ room → now ≡ used → other ≡ run
    → IsUnderway cells old room used place run → IsUnderway cells old again now place other
underway-same cells old room again used now place run other p q r so_far =
    subst (λ (b : List ℕ). IsUnderway cells old b now place other) (sym p)
    (subst (λ (n : ℕ). IsUnderway cells old room n place other) (sym q)
    (subst (λ (x : Run). IsUnderway cells old room used place x) (sym r) so_far))

pub first_by : (cells old : List ℕ) (cell : ℕ) → cell ≡ get_or cells 0 0 → IsCells cells → length old ≡ 131
    → IsUnderway cells old old 3 1 (one_cell cell)
first_by cells old cell cell_is are long =
    subst (λ (n : ℕ). IsUnderway cells old old 3 1 (one_cell n)) (sym cell_is)
    (underway-first cells old 1 refl are.count (are.intensities 0 0 (omega (arith, are.count))) long)

pub longer_by : (cells old room : List ℕ) (used place cell : ℕ) (run : Run) → IsUnderway cells old room used place run → place < 128
    → IsCells cells → cell ≡ get_or cells place 0 → cell ≡ run.intensity → run.length < 32
    → IsUnderway cells old room used (place + 1) (longer run)
longer_by cells old room used place cell run so_far inside are cell_is same short =
    underway-longer cells old room used place run so_far (omega (arith, are.count)) (sym cell_is ∙ same) short

pub next_by : (cells old room : List ℕ) (used place cell byte : ℕ) (run : Run) → IsUnderway cells old room used place run → place < 128
    → IsCells cells → cell ≡ get_or cells place 0 → byte ≡ run_byte run → (cell ≡ run.intensity → 32 ≤ run.length)
    → IsUnderway cells old (set room used byte) (used + 1) (place + 1) (one_cell cell)
next_by cells old room used place cell byte run so_far inside are cell_is byte_is ends =
    subst (λ (n : ℕ). IsUnderway cells old (set room used byte) (used + 1) (place + 1) (one_cell n)) (sym cell_is)
    (underway-next cells old room used place byte run so_far (omega (arith, are.count)) are.count byte_is
    (are.intensities place 0 (omega (arith, are.count))) (λ e. ends (cell_is ∙ e)))
