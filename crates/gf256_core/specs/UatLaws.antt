-- The tables of the uplink's field have the laws of tables. They are computed over the whole table.
use Rattle.std.specs.Prelude.{◌&&◌, ◌==◌, nat_lt, slice_index}
use Rattle.std.proofs.Common.{◌≡◌, ℕ, zero, suc, ◌+◌, ◌<◌, ◌≤◌, List, [], ◌∷◌, Bool, true, refl}
use Rattle.std.proofs.Common.{◌∙◌, ap, length, get_or, drop, arith, lit<, lit≤}
use Rattle.std.proofs.lemmas.Bool.{and_parts, eqb-true, ltb-true}
use Rattle.gf256_core.specs.declared.tables.TheConstants.{UAT_MODULUS, UAT_POWERS, UAT_LOGARITHMS}
use Rattle.gf256_core.specs.Field.{product, remainder, plain_product}
use Rattle.gf256_core.specs.Tables.{AreTables}

-- each row is the one before it times x
has_next : ℕ → ℕ → List ℕ → Bool
has_next modulus row [] = true
has_next modulus row (next ∷ more) = (next == product modulus row 2) && has_next modulus next more

-- no row is 0
has_no_zero : List ℕ → Bool
has_no_zero [] = true
has_no_zero (row ∷ more) = nat_lt 0 row && has_no_zero more

-- the logarithm of the row at each place from `place` on is its place
has_places : List ℕ → ℕ → List ℕ → Bool
has_places logarithms place [] = true
has_places logarithms place (row ∷ more) =
    (slice_index logarithms row == place) && has_places logarithms (suc place) more

next_from_test :
    (modulus row : ℕ) (more : List ℕ) → has_next modulus row more ≡ true → (i : ℕ) → i < length more
    → get_or (row ∷ more) (suc i) 0 ≡ product modulus (get_or (row ∷ more) i 0) 2
unfolding has_next
next_from_test modulus row [] e i h = absurd (omega arith)
next_from_test modulus row (next ∷ more) e zero h =
    eqb-true next (product modulus row 2) (and_parts _ _ e).0
next_from_test modulus row (next ∷ more) e (suc i) h =
    next_from_test modulus next more (and_parts _ _ e).1 i (omega arith)

not_zero_from_test : (rows : List ℕ) → has_no_zero rows ≡ true → (i : ℕ) → i < length rows
    → 0 < get_or rows i 0
unfolding has_no_zero
not_zero_from_test [] e i h = absurd (omega arith)
not_zero_from_test (row ∷ more) e zero h = ltb-true 0 row (and_parts _ _ e).0
not_zero_from_test (row ∷ more) e (suc i) h =
    not_zero_from_test more (and_parts _ _ e).1 i (omega arith)

places_from_test :
    (logarithms : List ℕ) (place : ℕ) (rows : List ℕ) → has_places logarithms place rows ≡ true
    → (i : ℕ) → i < length rows
    → get_or logarithms (get_or rows i 0) 0 ≡ place + i
unfolding has_places
places_from_test logarithms place [] e i h = absurd (omega arith)
places_from_test logarithms place (row ∷ more) e zero h =
    eqb-true (get_or logarithms row 0) place (and_parts _ _ e).0
    ∙ (let z : place ≡ place + 0 = omega arith in z)
places_from_test logarithms place (row ∷ more) e (suc i) h =
    places_from_test logarithms (suc place) more (and_parts _ _ e).1 i (omega arith)
    ∙ (let z : suc place + i ≡ place + suc i = omega arith in z)

-- the tests give the laws
tables_from_tests :
    (modulus row : ℕ) (more logarithms : List ℕ) → 256 ≤ modulus → modulus < 512 → row ≡ 1
    → length more ≡ 254
    → has_next modulus row more ≡ true → has_no_zero (row ∷ more) ≡ true
    → has_places logarithms 0 (row ∷ more) ≡ true
    → slice_index logarithms 0 ≡ 0 → AreTables modulus (row ∷ more) logarithms
tables_from_tests modulus row more logarithms low high first count next not_zero places of_zero =
    record {
      low = low;
      high = high;
      first = first;
      next = λ i h.
          ap (λ (k : ℕ). get_or (row ∷ more) k 0) (let e : i + 1 ≡ suc i = omega arith in e)
          ∙ next_from_test modulus row more next i (omega arith);
      not_zero = λ i h. not_zero_from_test (row ∷ more) not_zero i (omega arith);
      logarithm = λ i h. places_from_test logarithms 0 (row ∷ more) places i (omega arith)
          ∙ (let z : 0 + i ≡ i = omega arith in z);
      of_zero = of_zero;
    }

pub uat_laws : AreTables UAT_MODULUS UAT_POWERS UAT_LOGARITHMS
unfolding has_next has_no_zero has_places product remainder plain_product
uat_laws =
    tables_from_tests UAT_MODULUS (slice_index UAT_POWERS 0) (drop 1 UAT_POWERS) UAT_LOGARITHMS
    (lit≤ tt) (lit< tt) refl refl refl refl
    refl refl
