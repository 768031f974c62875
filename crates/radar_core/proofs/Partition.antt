-- The groups of rising numbers, one after another, are those numbers.
use Rattle.std.proofs.Common.{◌≡◌, ℕ, zero, suc, ◌+◌, ◌<◌, ◌≤◌, Bool, true, false, not, List, [], ◌∷◌, ◌++◌, length, take, drop, get_or, refl, sym, ap, subst, ◌∙◌, arith, inl, inr}
use Rattle.std.specs.List.{All, filter, concat}
use Rattle.std.specs.List.Sorted.{IsStrictlyIncreasing}
use Rattle.std.proofs.lemmas.Bool.{cases_Bool}
use Rattle.std.proofs.lemmas.Grind.{get_or_default_zero}
use Rattle.std.proofs.lemmas.List.{length-drop, get_or-take, length-take-le, take-append-drop}
use Rattle.std.proofs.lemmas.List.Elements.{All-nil, All-cons, All-head, All-drop}
use Rattle.radar_core.specs.Blanks.{IsGroup}
use Rattle.radar_core.specs.Groups.{is_joined, groups_at_most, blank_groups}
use Rattle.radar_core.specs.Laws.{IsOneRecord, IsGrouping}
use Rattle.radar_core.proofs.GroupLemmas.{IsSplit, joined_from, near_from, split_by, joined_front, apart_back, rises_behind}

-- how many numbers at the front pass a test
record HasPrefix (p : ℕ → Bool) (xs : List ℕ) (n : ℕ) : Type 0 where
  most : n ≤ length xs
  pass : (k : ℕ) → k < n → p (get_or xs k 0) ≡ true
  stop : n < length xs → p (get_or xs n 0) ≡ false

pass_more : (p : ℕ → Bool) (x : ℕ) (xs : List ℕ) (n : ℕ) → p x ≡ true → HasPrefix p xs n → (k : ℕ) → k < suc n → p (get_or (x ∷ xs) k 0) ≡ true
pass_more p x xs n passes rest zero below = passes
pass_more p x xs n passes rest (suc k) below = rest.pass k (omega arith)

longer : (p : ℕ → Bool) (x : ℕ) (xs : List ℕ) (n : ℕ) → p x ≡ true → HasPrefix p xs n → HasPrefix p (x ∷ xs) (suc n)
longer p x xs n passes rest = record { most = omega (arith, rest.most); pass = pass_more p x xs n passes rest; stop = λ below. rest.stop (omega arith) }

prefix_of : (p : ℕ → Bool) (xs : List ℕ) → (n : ℕ) × HasPrefix p xs n
prefix_of p [] = (0, record { most = omega arith; pass = λ k below. absurd (omega arith); stop = λ below. absurd (omega arith) })
prefix_of p (x ∷ xs) =
    let rest = prefix_of p xs in
    elim (cases_Bool (p x)) [
      | inl passes ↦ (suc rest.0, longer p x xs rest.0 passes rest.1)
      | inr fails ↦ (0, record { most = omega arith; pass = λ k below. absurd (omega arith); stop = λ below. fails })
    ]

-- the first group, and the numbers behind it
joined_at : (base : ℕ) (more : List ℕ) (m : ℕ) → HasPrefix (is_joined base) more m → (k : ℕ) → k < suc m → is_joined base (get_or (base ∷ more) k 0) ≡ true
joined_at base more m prefix zero below = joined_from base base (omega arith) refl
joined_at base more m prefix (suc k) below = prefix.pass k (omega arith)

first_split : (base : ℕ) (more : List ℕ) (m : ℕ) → IsStrictlyIncreasing (base ∷ more) → HasPrefix (is_joined base) more m → IsSplit base more m
first_split base more m rises prefix =
    split_by base more m rises prefix.most
    (λ k below. joined_at base more m prefix k below)
    (λ below. prefix.stop (omega arith))

joined_in : (base : ℕ) (more : List ℕ) (m : ℕ) → IsSplit base more m → (k d : ℕ) → k < m → is_joined base (get_or (take m more) k d) ≡ true
joined_in base more m split k d below =
    ap (is_joined base) (get_or-take m more k d below ∙ get_or_default_zero more k d (omega (arith, split.most))) ∙ split.joined k below

front_rises : (base : ℕ) (more : List ℕ) (m : ℕ) → IsStrictlyIncreasing (base ∷ more) → m ≤ length more → IsStrictlyIncreasing (base ∷ take m more)
front_rises base more m rises most k below =
    let size = length-take-le m more most in
    let step = rises k (omega (arith, size)) in
    let one = get_or-take (suc m) (base ∷ more) k 0 (omega (arith, size)) in
    let other = get_or-take (suc m) (base ∷ more) (k + 1) 0 (omega (arith, size)) in
    omega (arith, step, one, other)

first_group : (base : ℕ) (more : List ℕ) (m : ℕ) → IsStrictlyIncreasing (base ∷ more) → IsSplit base more m → IsGroup base (take m more)
first_group base more m rises split =
    let size = length-take-le m more split.most in
    record {
      rises = front_rises base more m rises split.most;
      near = λ k d below. (near_from base (get_or (take m more) k d) (joined_in base more m split k d (omega (arith, size)))).near;
      in_ring = λ k d below. (near_from base (get_or (take m more) k d) (joined_in base more m split k d (omega (arith, size)))).ring;
    }

record AreGroups (groups : List (List ℕ)) (numbers : List ℕ) : Type 0 where
  all : concat groups ≡ numbers
  records : All IsOneRecord groups

are_groups : (most : ℕ) (numbers : List ℕ) → length numbers ≤ most → IsStrictlyIncreasing numbers → All (λ number. number < 405000) numbers
    → AreGroups (groups_at_most most numbers) numbers
are_groups zero [] few rises fits = record { all = refl; records = All-nil IsOneRecord }
are_groups zero (base ∷ more) few rises fits = absurd (omega arith)
are_groups (suc most) [] few rises fits = record { all = refl; records = All-nil IsOneRecord }
are_groups (suc most) (base ∷ more) few rises fits =
    let prefix = prefix_of (is_joined base) more in
    let m : ℕ = prefix.0 in
    let split = first_split base more m rises prefix.1 in
    let size = length-drop m more in
    let rest = are_groups most (drop m more) (omega (arith, size)) (rises_behind (base ∷ more) (suc m) rises) (All-drop (λ number. number < 405000) (suc m) (base ∷ more) fits) in
    let same : groups_at_most (suc most) (base ∷ more) ≡ (base ∷ take m more) ∷ groups_at_most most (drop m more) =
    ap (λ (b : List ℕ). (base ∷ b) ∷ groups_at_most most (filter (λ n. not (is_joined base n)) more)) (joined_front base more m split)
    ∙ ap (λ (b : List ℕ). (base ∷ take m more) ∷ groups_at_most most b) (apart_back base more m split)
    in
    subst (λ (groups : List (List ℕ)). AreGroups groups (base ∷ more)) (sym same)
    (record {
      all = ap (λ (b : List ℕ). base ∷ (take m more ++ b)) rest.all ∙ ap (λ (b : List ℕ). base ∷ b) (take-append-drop m more);
      records =
          All-cons IsOneRecord (base ∷ take m more) (groups_at_most most (drop m more))
          (All-head (λ number. number < 405000) base more fits, first_group base more m rises split) rest.records;
    })

pub is_grouping : (numbers : List ℕ) → IsStrictlyIncreasing numbers → All (λ number. number < 405000) numbers → IsGrouping numbers
unfolding blank_groups
is_grouping numbers rises fits =
    let groups = are_groups (length numbers) numbers (omega arith) rises fits in record { all = groups.all; records = groups.records }
