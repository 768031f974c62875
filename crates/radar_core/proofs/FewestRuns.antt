-- No fewer runs spell some cells than the longest ones.
use Rattle.std.proofs.Common.{◌≡◌, ℕ, zero, suc, ◌-◌, ◌<◌, ◌≤◌, Bool, ◌&&◌, ◌==◌, nat_lt, List, [], ◌∷◌, ◌++◌, length, replicate, sym, ap, ◌∙◌, arith, inl, inr}
use Rattle.std.specs.List.{All, flat_map}
use Rattle.std.proofs.lemmas.Bool.{cond-true, cond-false, cases_Bool, and_parts, and_cases, eqb-true, eqb-false, ltb-true, ltb-false, cases_lt}
use Rattle.std.proofs.lemmas.List.Elements.{All-cons, All-head, All-tail}
use Rattle.list_members.specs.ListMembers.{heads}
use Rattle.radar_core.specs.declared.run.Run.{Run}
use Rattle.radar_core.specs.Runs.{FitsRun, run_cells, runs_from, longest_runs}
use Rattle.radar_core.specs.Laws.{AreFewestRuns}
use Rattle.radar_core.proofs.ReadBack.{longest_runs-cells, replicate-more}
use Rattle.radar_core.proofs.RunsLemmas.{one_cell, longer}

-- at most so many runs spell some cells
pub record Spellable (cells : List ℕ) (most : ℕ) : Type 0 where
  pub runs : List Run
  pub fit : All FitsRun runs
  pub spell : flat_map run_cells runs ≡ cells
  pub few : length runs ≤ most

abbrev count : List Run → ℕ
count runs = length runs

-- a run less its first cell, where it has more than one
shorter_by : (size intensity : ℕ) (runs : List Run) (cell : ℕ) (cells : List ℕ) (most : ℕ) → FitsRun (record { length = size; intensity = intensity })
    → All FitsRun runs → replicate size intensity ++ flat_map run_cells runs ≡ cell ∷ cells → suc (count runs) ≤ most → Spellable cells most
shorter_by zero intensity runs cell cells most fits fit spell few = absurd (omega (arith, fits.some))
shorter_by (suc zero) intensity runs cell cells most fits fit spell few =
    record { runs = runs; fit = fit; spell = (heads intensity cell (flat_map run_cells runs) cells spell).1; few = omega arith }
shorter_by (suc (suc n)) intensity runs cell cells most fits fit spell few =
    let run : Run = record { length = suc n; intensity = intensity } in
    record {
      runs = run ∷ runs;
      fit = All-cons FitsRun run runs (record { some = omega arith; length = omega (arith, fits.length); intensity = fits.intensity }) fit;
      spell = (heads intensity cell (replicate (suc n) intensity ++ flat_map run_cells runs) cells spell).1;
      few = few;
    }

shorter_of : (runs : List Run) (cell : ℕ) (cells : List ℕ) (most : ℕ) → All FitsRun runs → flat_map run_cells runs ≡ cell ∷ cells → count runs ≤ most
    → Spellable cells most
shorter_of [] cell cells most fit spell few = absurd (cc)
shorter_of (run ∷ runs) cell cells most fit spell few =
    shorter_by run.length run.intensity runs cell cells most (All-head FitsRun run runs fit) (All-tail FitsRun run runs fit) spell few

pub shorter : (cell : ℕ) (cells : List ℕ) (most : ℕ) → Spellable (cell ∷ cells) most → Spellable cells most
shorter cell cells most given = shorter_of given.runs cell cells most given.fit given.spell given.few

-- a front of cells left out
pub behind : (n cell : ℕ) (cells : List ℕ) (most : ℕ) → Spellable (replicate n cell ++ cells) most → Spellable cells most
behind zero cell cells most given = given
behind (suc n) cell cells most given = behind n cell cells most (shorter cell (replicate n cell ++ cells) most given)

-- the first cell, and the one behind n cells
first_same : (m n other intensity : ℕ) (xs ys : List ℕ) → replicate m other ++ xs ≡ replicate n intensity ++ ys → 1 ≤ m → 1 ≤ n → other ≡ intensity
first_same zero n other intensity xs ys same some any = absurd (omega arith)
first_same (suc m) zero other intensity xs ys same some any = absurd (omega arith)
first_same (suc m) (suc n) other intensity xs ys same some any = (heads other intensity (replicate m other ++ xs) (replicate n intensity ++ ys) same).0

cell_at : (n m other intensity cell : ℕ) (xs ys : List ℕ) → replicate m other ++ xs ≡ replicate n intensity ++ cell ∷ ys → n < m → other ≡ cell
cell_at zero zero other intensity cell xs ys same inside = absurd (omega arith)
cell_at zero (suc m) other intensity cell xs ys same inside = (heads other cell (replicate m other ++ xs) ys same).0
cell_at (suc n) zero other intensity cell xs ys same inside = absurd (omega arith)
cell_at (suc n) (suc m) other intensity cell xs ys same inside =
    cell_at n m other intensity cell xs ys (heads other intensity (replicate m other ++ xs) (replicate n intensity ++ cell ∷ ys) same).1 (omega arith)

-- a run that begins cells of one intensity is no longer than they are, where other cells follow or they are as many as a run can be
first_fits : (n m intensity cell other : ℕ) (xs ys : List ℕ) → (cell ≡ intensity → 32 ≤ n) → m ≤ 32 → replicate m other ++ xs ≡ replicate n intensity ++ cell ∷ ys
    → 1 ≤ n → m ≤ n
first_fits n m intensity cell other xs ys ends most same some =
    elim (cases_lt n m) [
      | inl longer ↦
          let is : other ≡ intensity = first_same m n other intensity xs (cell ∷ ys) same (omega arith) some in
          let next : other ≡ cell = cell_at n m other intensity cell xs ys same longer in
          let full = ends (sym next ∙ is) in
          omega arith
      | inr enough ↦ enough
    ]

-- what stands behind the first run
rest_of : (m n intensity : ℕ) (xs ys : List ℕ) → m ≤ n → replicate m intensity ++ xs ≡ replicate n intensity ++ ys → xs ≡ replicate (n - m) intensity ++ ys
rest_of zero n intensity xs ys within same = let all : n ≡ n - 0 = omega arith in same ∙ ap (λ k. replicate k intensity ++ ys) all
rest_of (suc m) zero intensity xs ys within same = absurd (omega arith)
rest_of (suc m) (suc n) intensity xs ys within same =
    let less : n - m ≡ suc n - suc m = omega arith in
    rest_of m n intensity xs ys (omega arith) (heads intensity intensity (replicate m intensity ++ xs) (replicate n intensity ++ ys) same).1
    ∙ ap (λ k. replicate k intensity ++ ys) less

-- a run has a cell, so no run spells none
no_cells : (size intensity : ℕ) (cells : List ℕ) → 1 ≤ size → [] ≡ replicate size intensity ++ cells → ⊥
no_cells zero intensity cells some none = absurd (omega arith)
no_cells (suc n) intensity cells some none = cc

some_run : (run : Run) (cells : List ℕ) (runs : List Run) → FitsRun run → flat_map run_cells runs ≡ run_cells run ++ cells → 1 ≤ count runs
some_run run cells [] fits spell = absurd (no_cells run.length run.intensity cells fits.some spell)
some_run run cells (first ∷ runs) fits spell = omega arith

-- fewer runs for the cells behind a run that ends
one_less : (run : Run) (cell : ℕ) (cells : List ℕ) (runs : List Run) → FitsRun run → (cell ≡ run.intensity → 32 ≤ run.length) → All FitsRun runs
    → flat_map run_cells runs ≡ run_cells run ++ cell ∷ cells → Spellable (cell ∷ cells) (count runs - 1)
one_less run cell cells [] fits ends fit spell = absurd (no_cells run.length run.intensity (cell ∷ cells) fits.some spell)
one_less run cell cells (first ∷ runs) fits ends fit spell =
    let head = All-head FitsRun first runs fit in
    let within : first.length ≤ run.length =
    first_fits run.length first.length run.intensity cell first.intensity (flat_map run_cells runs) cells ends head.length spell fits.some
    in
    let same : first.intensity ≡ run.intensity =
    first_same first.length run.length first.intensity run.intensity (flat_map run_cells runs) (cell ∷ cells) spell head.some fits.some
    in
    let rest : flat_map run_cells runs ≡ replicate (run.length - first.length) run.intensity ++ cell ∷ cells =
    rest_of first.length run.length run.intensity (flat_map run_cells runs) (cell ∷ cells) within
    (ap (λ n. replicate first.length n ++ flat_map run_cells runs) (sym same) ∙ spell)
    in
    behind (run.length - first.length) run.intensity (cell ∷ cells) (count (first ∷ runs) - 1)
    (record { runs = runs; fit = All-tail FitsRun first runs fit; spell = rest; few = omega arith })

-- no fewer runs spell a run and the cells behind it
fewest_from : (run : Run) (cells : List ℕ) (runs : List Run) → FitsRun run → All (λ cell. cell < 8) cells → All FitsRun runs
    → flat_map run_cells runs ≡ run_cells run ++ cells → count (runs_from run cells) ≤ count runs
fewest_from run [] runs fits small fit spell = some_run run [] runs fits spell
fewest_from run (cell ∷ cells) runs fits small fit spell =
    let head : cell < 8 = All-head (λ n. n < 8) cell cells small in
    let tail : All (λ n. n < 8) cells = All-tail (λ n. n < 8) cell cells small in
    let test : Bool = (cell == run.intensity) && nat_lt run.length 32 in
    elim (cases_Bool test) [
      | inl goes_on ↦
          let parts = and_parts (cell == run.intensity) (nat_lt run.length 32) goes_on in
          let same : cell ≡ run.intensity = eqb-true cell run.intensity parts.0 in
          let short : run.length < 32 = ltb-true run.length 32 parts.1 in
          let rest = fewest_from (longer run) cells runs (record { some = omega arith; length = omega arith; intensity = fits.intensity }) tail fit
          (spell ∙ ap (λ n. run_cells run ++ n ∷ cells) same ∙ sym (replicate-more run.length run.intensity cells))
          in
          let e : count (runs_from run (cell ∷ cells)) ≡ count (runs_from (longer run) cells) =
          ap count (cond-true test (runs_from (longer run) cells) (run ∷ runs_from (one_cell cell) cells) goes_on)
          in
          omega (arith, e, rest)
      | inr ends ↦
          let full : cell ≡ run.intensity → 32 ≤ run.length =
          λ same. elim (and_cases (cell == run.intensity) (nat_lt run.length 32) ends) [
            | inl other ↦ absurd (eqb-false cell run.intensity other same)
            | inr long ↦ ltb-false run.length 32 long
          ]
          in
          let less = one_less run cell cells runs fits full fit spell in
          let rest = fewest_from (one_cell cell) cells less.runs (record { some = omega arith; length = omega arith; intensity = head }) tail less.fit less.spell in
          let some = some_run run (cell ∷ cells) runs fits spell in
          let e : count (runs_from run (cell ∷ cells)) ≡ suc (count (runs_from (one_cell cell) cells)) =
          ap count (cond-false test (runs_from (longer run) cells) (run ∷ runs_from (one_cell cell) cells) ends)
          in
          omega (arith, e, rest, less.few, some)
    ]

fewest : (cells : List ℕ) (runs : List Run) → All (λ cell. cell < 8) cells → All FitsRun runs → flat_map run_cells runs ≡ cells
    → count (longest_runs cells) ≤ count runs
unfolding longest_runs
fewest [] runs small fit spell = omega arith
fewest (cell ∷ cells) runs small fit spell =
    fewest_from (one_cell cell) cells runs (record { some = omega arith; length = omega arith; intensity = All-head (λ n. n < 8) cell cells small })
    (All-tail (λ n. n < 8) cell cells small) fit spell

pub are_fewest : (cells : List ℕ) → All (λ cell. cell < 8) cells → AreFewestRuns cells
are_fewest cells small =
    let spelled = longest_runs-cells cells small in
    record { spell = spelled.spell; fit = spelled.fit; fewest = λ runs fit spell. fewest cells runs small fit spell }
