-- The groups of rising numbers, each cut off the front.
use Rattle.std.proofs.Common.{◌≡◌, ℕ, zero, suc, ◌+◌, ◌/◌, ◌<◌, ◌≤◌, Bool, true, false, not, ◌==◌, nat_le, List, [], ◌∷◌, ◌++◌, length, take, drop, get_or, refl, sym, ap, subst, ◌∙◌, arith, append_assoc, inl, inr}
use Rattle.std.specs.List.{All, AllByRecursion, filter}
use Rattle.std.specs.List.Sorted.{IsStrictlyIncreasing}
use Rattle.std.proofs.lemmas.Bool.{and_from, and_parts, and_cases, and_left, and_right, eq-eqb, ne_eqb, eqb-true, eqb-false, le-leb, lt-leb, leb-true, leb-false, cases_eq}
use Rattle.std.proofs.lemmas.List.{append-nil, length-drop, get_or-drop, take-append-drop, get_or-take, length-take-le}
use Rattle.std.proofs.lemmas.List.Elements.{filter-append, All-drop, All-from_get_or, recursion_from_All}
use Rattle.std.proofs.lemmas.List.Kept.{AllPairs-from_increasing}
use Rattle.list_members.specs.Each.{filter_all, filter_none}
use Rattle.list_members.specs.ListMembers.{filter_shorter}
use Rattle.radar_core.specs.Groups.{is_joined, groups_at_most, blank_groups}

-- which numbers are joined to a base
pub joined_from : (base number : ℕ) → number ≤ base + 116 → number / 450 ≡ base / 450 → is_joined base number ≡ true
joined_from base number near ring = and_from _ _ (le-leb number (base + 116) near) (eq-eqb (number / 450) (base / 450) ring)

pub far_off : (base number : ℕ) → base + 116 < number → is_joined base number ≡ false
far_off base number far = and_left _ _ (lt-leb number (base + 116) far)

pub other_ring : (base number : ℕ) → (number / 450 ≡ base / 450 → ⊥) → is_joined base number ≡ false
other_ring base number other = and_right _ _ (ne_eqb (number / 450) (base / 450) other)

pub record IsNear (base number : ℕ) : Type 0 where
  pub near : number ≤ base + 116
  pub ring : number / 450 ≡ base / 450

pub near_from : (base number : ℕ) → is_joined base number ≡ true → IsNear base number
near_from base number joined =
    let parts = and_parts (nat_le number (base + 116)) (number / 450 == base / 450) joined in
    record { near = leb-true number (base + 116) parts.0; ring = eqb-true (number / 450) (base / 450) parts.1 }

-- after a number that is not joined none is
pub none_above : (base low number : ℕ) → base ≤ low → low ≤ number → is_joined base low ≡ false → is_joined base number ≡ false
none_above base low number above rises apart =
    elim (and_cases (nat_le low (base + 116)) (low / 450 == base / 450) apart) [
      | inl far ↦ let gap = leb-false low (base + 116) far in far_off base number (omega arith)
      | inr other ↦
          let differs = eqb-false (low / 450) (base / 450) other in
          other_ring base number (λ same. differs (omega arith))
    ]

-- what holds at each place of numbers holds of each of them
pub each_from : (P : ℕ → Type 0) (xs : List ℕ) → ((k : ℕ) → k < length xs → P (get_or xs k 0)) → AllByRecursion P xs
each_from P xs h = recursion_from_All P xs (All-from_get_or P xs 0 h)

-- the first numbers are joined, and the others are not
pub record IsSplit (base : ℕ) (more : List ℕ) (m : ℕ) : Type 0 where
  pub most : m ≤ length more
  pub joined : (k : ℕ) → k < m → is_joined base (get_or more k 0) ≡ true
  pub apart : (k : ℕ) → m ≤ k → k < length more → is_joined base (get_or more k 0) ≡ false

pub joined_front : (base : ℕ) (more : List ℕ) (m : ℕ) → IsSplit base more m → filter (is_joined base) more ≡ take m more
joined_front base more m split =
    let rest = length-drop m more in
    ap (filter (is_joined base)) (sym (take-append-drop m more))
    ∙ filter-append (is_joined base) (take m more) (drop m more)
    ∙ ap (λ (b : List ℕ). b ++ filter (is_joined base) (drop m more))
    (filter_all (is_joined base) (take m more) (each_from (λ n. is_joined base n ≡ true) (take m more) (λ k below.
    let short = length-take-le m more split.most in
    ap (is_joined base) (get_or-take m more k 0 (omega arith)) ∙ split.joined k (omega arith))))
    ∙ ap (λ (b : List ℕ). take m more ++ b)
    (filter_none (is_joined base) (drop m more) (each_from (λ n. is_joined base n ≡ false) (drop m more)
    (λ k below. ap (is_joined base) (get_or-drop m more k 0) ∙ split.apart (m + k) (omega arith) (omega arith))))
    ∙ append-nil (take m more)

pub apart_back : (base : ℕ) (more : List ℕ) (m : ℕ) → IsSplit base more m → filter (λ n. not (is_joined base n)) more ≡ drop m more
apart_back base more m split =
    let rest = length-drop m more in
    let p : ℕ → Bool = λ n. not (is_joined base n) in
    ap (filter p) (sym (take-append-drop m more)) ∙ filter-append p (take m more) (drop m more)
    ∙ ap (λ (b : List ℕ). b ++ filter p (drop m more))
    (filter_none p (take m more) (each_from (λ n. p n ≡ false) (take m more) (λ k below.
    let short = length-take-le m more split.most in
    ap p (get_or-take m more k 0 (omega arith)) ∙ ap not (split.joined k (omega arith)))))
    ∙ filter_all p (drop m more) (each_from (λ n. p n ≡ true) (drop m more)
    (λ k below. ap p (get_or-drop m more k 0) ∙ ap not (split.apart (m + k) (omega arith) (omega arith))))

-- more groups than numbers change nothing
enough : (most other : ℕ) (numbers : List ℕ) → length numbers ≤ most → length numbers ≤ other → groups_at_most most numbers ≡ groups_at_most other numbers
enough zero zero numbers few more = refl
enough zero (suc other) [] few more = refl
enough zero (suc other) (base ∷ numbers) few more = absurd (omega arith)
enough (suc most) zero [] few more = refl
enough (suc most) zero (base ∷ numbers) few more = absurd (omega arith)
enough (suc most) (suc other) [] few more = refl
enough (suc most) (suc other) (base ∷ numbers) few more =
    let rest : List ℕ = filter (λ n. not (is_joined base n)) numbers in
    let less = filter_shorter (λ n. not (is_joined base n)) numbers in
    ap (λ (b : List (List ℕ)). (base ∷ filter (is_joined base) numbers) ∷ b) (enough most other rest (omega arith) (omega arith))

pub groups_front : (base : ℕ) (more : List ℕ) (m : ℕ) → IsSplit base more m
    → blank_groups (base ∷ more) ≡ (base ∷ take m more) ∷ blank_groups (drop m more)
unfolding blank_groups
groups_front base more m split =
    let rest = length-drop m more in
    ap (λ (b : List ℕ). (base ∷ b) ∷ groups_at_most (length more) (filter (λ n. not (is_joined base n)) more)) (joined_front base more m split)
    ∙ ap (λ (b : List ℕ). (base ∷ take m more) ∷ groups_at_most (length more) b) (apart_back base more m split)
    ∙ ap (λ (b : List (List ℕ)). (base ∷ take m more) ∷ b) (enough (length more) (length (drop m more)) (drop m more) (omega arith) (omega arith))

-- some groups are cut off, and other numbers are left
pub record IsCut (groups : List (List ℕ)) (left numbers : List ℕ) : Type 0 where
  pub all : groups ++ blank_groups left ≡ blank_groups numbers
  pub rises : IsStrictlyIncreasing left
  pub fits : All (λ number. number < 405000) left

pub cut_none : (groups : List (List ℕ)) (numbers : List ℕ) → groups ≡ [] → IsStrictlyIncreasing numbers → All (λ number. number < 405000) numbers
    → IsCut groups numbers numbers
cut_none groups numbers none rises fits = record { all = ap (λ (b : List (List ℕ)). b ++ blank_groups numbers) none; rises = rises; fits = fits }

pub rises_behind : (numbers : List ℕ) (n : ℕ) → IsStrictlyIncreasing numbers → IsStrictlyIncreasing (drop n numbers)
rises_behind numbers n rises k below =
    let rest = length-drop n numbers in
    let step = rises (n + k) (omega arith) in
    let one = get_or-drop n numbers k 0 in
    let other = get_or-drop n numbers (k + 1) 0 in
    let same : n + (k + 1) ≡ n + k + 1 = omega arith in
    omega (arith, step, one, other, ap (λ m. get_or numbers m 0) same)

pub split_by : (base : ℕ) (more : List ℕ) (m : ℕ) → IsStrictlyIncreasing (base ∷ more) → m ≤ length more
    → ((k : ℕ) → k < suc m → is_joined base (get_or (base ∷ more) k 0) ≡ true)
    → (suc m < length (base ∷ more) → is_joined base (get_or (base ∷ more) (suc m) 0) ≡ false) → IsSplit base more m
split_by base more m rises most joined ends =
    let pairs = AllPairs-from_increasing (base ∷ more) rises in
    record {
      most = most;
      joined = λ k below. joined (suc k) (omega arith);
      apart = λ k from below.
          let low : base < get_or more m 0 = pairs 0 (suc m) 0 (omega arith) (omega arith) in
          let up : get_or more m 0 ≤ get_or more k 0 =
          elim (cases_eq m k) [
            | inl same ↦ let e : get_or more m 0 ≡ get_or more k 0 = ap (λ n. get_or more n 0) same in omega (arith, e)
            | inr other ↦ let less : get_or more m 0 < get_or more k 0 = pairs (suc m) (suc k) 0 (omega arith) (omega arith) in omega (arith, less)
          ]
          in
          none_above base (get_or more m 0) (get_or more k 0) (omega arith) up (ends (omega arith));
    }

pub cut_more : (groups : List (List ℕ)) (left numbers group behind : List ℕ) (n : ℕ) → IsCut groups left numbers → 1 ≤ n → n ≤ length left
    → ((k : ℕ) → k < n → is_joined (get_or left 0 0) (get_or left k 0) ≡ true)
    → (n < length left → is_joined (get_or left 0 0) (get_or left n 0) ≡ false) → group ≡ take n left → behind ≡ drop n left
    → IsCut (groups ++ group ∷ []) behind numbers
cut_more groups [] numbers group behind n cut some most joined ends group_is behind_is = absurd (omega arith)
cut_more groups (base ∷ more) numbers group behind zero cut some most joined ends group_is behind_is = absurd (omega arith)
cut_more groups (base ∷ more) numbers group behind (suc m) cut some most joined ends group_is behind_is =
    let front = groups_front base more m (split_by base more m cut.rises (omega arith) joined ends) in
    record {
      all =
          append_assoc groups (group ∷ []) (blank_groups behind)
          ∙ ap (λ (b : List ℕ). groups ++ (b ∷ blank_groups behind)) group_is
          ∙ ap (λ (b : List ℕ). groups ++ ((base ∷ take m more) ∷ blank_groups b)) behind_is
          ∙ ap (λ (b : List (List ℕ)). groups ++ b) (sym front) ∙ cut.all;
      rises = subst IsStrictlyIncreasing (sym behind_is) (rises_behind (base ∷ more) (suc m) cut.rises);
      fits = subst (λ (b : List ℕ). All (λ number. number < 405000) b) (sym behind_is) (All-drop (λ number. number < 405000) (suc m) (base ∷ more) cut.fits);
    }

pub cut_all : (groups : List (List ℕ)) (left numbers : List ℕ) → IsCut groups left numbers → length left ≡ 0 → groups ≡ blank_groups numbers
unfolding blank_groups
cut_all groups [] numbers cut none = sym (append-nil groups) ∙ cut.all
cut_all groups (base ∷ left) numbers cut none = absurd (omega arith)
