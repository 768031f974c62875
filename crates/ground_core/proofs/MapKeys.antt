-- Keys of maps are compared by what they are.
use Rattle.std.proofs.Common.{◌≡◌, ℕ, ◌+◌, ◌<◌, ◌≤◌, true, false, ◌&&◌, ◌==◌, nat_lt, nat_le, cond, if◌then◌else◌, length, Option, Some, None, IsSome, unwrap_or, refl, sym, ap, subst, ◌∙◌, inl, inr, arith}
use Rattle.std.specs.Cmp.{tied_then}
use Rattle.std.specs.Ordering.{nat_cmp, ordering_then, is_eq, is_gt}
use Rattle.std.specs.declared.cmp.Ordering.{Ordering}
use Rattle.std.specs.declared.cmp.Ordering.TheVariants.{Less, Equal, Greater}
use Rattle.std.specs.BTreeMap.{BTreeMap, is_at, get, IsLowerBound}
use Rattle.std.specs.Map.{lookup}
use Rattle.std.proofs.lemmas.Bool.{cases_Bool, lt-ltb, le-ltb, leb-true, leb-false}
use Rattle.std.proofs.lemmas.Bool.Decides.{nat_tests}
use Rattle.std.proofs.lemmas.List.{nil_from_length}
use Rattle.list_members.specs.Tests.{tied_numbers, zero_more}
use Rattle.ground_core.specs.Views.{count_at}
use Rattle.ground_core.specs.declared.files.Files.{Files}

pub pair_at : (a b c d : ℕ) → is_eq (ordering_then (nat_cmp a c) (nat_cmp b d)) ≡ ((a == c) && (b == d))
pair_at a b c d = sym (tied_then (nat_cmp a c) (nat_cmp b d)) ∙ ap (λ x. x && is_eq (nat_cmp b d)) (sym (tied_numbers a c)) ∙ ap (λ x. (a == c) && x) (sym (tied_numbers b d))

abbrev pub pair_cmp : (ℕ × ℕ) → (ℕ × ℕ) → Ordering
pair_cmp x y = ordering_then (nat_cmp x.0 y.0) (nat_cmp x.1 y.1)

both_same : (a b v p : ℕ) → ((a == v) && (b == p)) ≡ true → (a ≡ v) × (b ≡ p)
both_same a b v p h = (grind (arith, nat_tests), grind (arith, nat_tests))

pub put_count : (a b v p count : ℕ) (old : ℕ → ℕ → Option ℕ) (new : Option ℕ) → old a b ≡ Some count
    → new ≡ cond (is_at (pair_cmp (a, b)) (v, p)) (Some (count + 1)) (old v p)
    → unwrap_or new 0 ≡ unwrap_or (old v p) 0 + (if (a == v) && (b == p) then 1 else 0)
put_count a b v p count old new g e =
    ap (λ o. unwrap_or o 0) e ∙ ap (λ t. unwrap_or (cond t (Some (count + 1)) (old v p)) 0) (pair_at a b v p)
    ∙ (elim (cases_Bool ((a == v) && (b == p))) [
      | inl t ↦ (
          let both = both_same a b v p t in
          let here : old v p ≡ Some count = subst (λ x. old x p ≡ Some count) both.0 (subst (λ y. old a y ≡ Some count) both.1 g) in
          rw t (ap (λ o. unwrap_or o 0 + 1) (sym here)))
      | inr f ↦ rw f (zero_more (unwrap_or (old v p) 0))
    ])

pub reserve_count : (a b v p : ℕ) (old : ℕ → ℕ → Option ℕ) (new : Option ℕ) → old a b ≡ None
    → new ≡ cond (is_at (pair_cmp (a, b)) (v, p)) (Some 0) (old v p)
    → unwrap_or new 0 ≡ unwrap_or (old v p) 0
reserve_count a b v p old new g e =
    ap (λ o. unwrap_or o 0) e ∙ ap (λ t. unwrap_or (cond t (Some 0) (old v p)) 0) (pair_at a b v p)
    ∙ (elim (cases_Bool ((a == v) && (b == p))) [
      | inl t ↦ (
          let both = both_same a b v p t in
          let here : old v p ≡ None = subst (λ x. old x p ≡ None) both.0 (subst (λ y. old a y ≡ None) both.1 g) in
          rw t (ap (λ o. unwrap_or o 0) (sym here)))
      | inr f ↦ rw f refl
    ])

gt_then : (a b : Ordering) → is_gt a ≡ true → is_gt (ordering_then a b) ≡ true
gt_then Less b h = cc
gt_then Equal b h = cc
gt_then Greater b h = refl

zero_where_none : (o : Option ℕ) → (IsSome o → ⊥) → unwrap_or o 0 ≡ 0
zero_where_none None f = refl
zero_where_none (Some n) f = absurd (f refl)

-- below the least name nothing is counted
pub least_above : (counts : BTreeMap (ℕ × ℕ) ℕ) (name : ℕ × ℕ) (over v p : ℕ) → IsLowerBound pair_cmp counts name → over < name.0 → nat_le v over ≡ true
    → unwrap_or (get pair_cmp counts (v, p)) 0 ≡ 0
least_above counts name over v p least lt h = zero_where_none (get pair_cmp counts (v, p)) (λ some.
    let below : v < name.0 = omega (arith, leb-true v over h) in
    let greater : is_gt (nat_cmp name.0 v) ≡ true = grind (arith, nat_tests) in
    let bad : is_gt (pair_cmp name (v, p)) ≡ true = gt_then (nat_cmp name.0 v) (nat_cmp name.1 p) greater in
    let good : is_gt (pair_cmp name (v, p)) ≡ false = least (v, p) some in
    cc)

pub none_counted : (files : Files) (v p : ℕ) → length files.counts.entries ≡ 0 → count_at files v p ≡ 0
none_counted files v p h = ap (λ es. unwrap_or (lookup (is_at (pair_cmp (v, p))) es) 0) (nil_from_length files.counts.entries h)

pub counted_above : (old new : Files) (over : ℕ) → ((v p : ℕ) → nat_le v over ≡ false → count_at new v p ≡ count_at old v p)
    → ((v p : ℕ) → nat_le v over ≡ true → count_at new v p ≡ 0)
    → (v p : ℕ) → count_at new v p ≡ (if nat_le v over then 0 else count_at old v p)
counted_above old new over f g v p = elim (cases_Bool (nat_le v over)) [
  | inl t ↦ (g v p t ∙ ap (λ b. if b then 0 else count_at old v p) (sym t))
  | inr e ↦ (f v p e ∙ ap (λ b. if b then 0 else count_at old v p) (sym e))
]

-- a version is over where it and the life are not above the moment
pub counted_by_life : (moment life over v n : ℕ) → over + life ≡ moment → (if nat_le v over then 0 else n) ≡ (if nat_lt moment (v + life) then n else 0)
counted_by_life moment life over v n e = elim (cases_Bool (nat_le v over)) [
  | inl t ↦ (
      let le : v ≤ over = leb-true v over t in
      let no : nat_lt moment (v + life) ≡ false = le-ltb moment (v + life) (omega arith) in
      rw (t, no) refl)
  | inr f ↦ (
      let lt : over < v = leb-false v over f in
      let yes_it_is : nat_lt moment (v + life) ≡ true = lt-ltb moment (v + life) (omega arith) in
      rw (f, yes_it_is) refl)
]
