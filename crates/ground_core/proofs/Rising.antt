-- Numbers that rise strictly: one is below all that stand behind it.
use Rattle.std.proofs.Common.{◌≡◌, ℕ, zero, suc, ◌+◌, ◌<◌, Bool, true, ◌&&◌, nat_lt, nat_le, List, [], ◌∷◌, ◌++◌, inl, inr, arith}
use Rattle.std.specs.List.{AllByRecursion}
use Rattle.std.specs.List.Sorted.{IsStrictlyIncreasing}
use Rattle.std.proofs.lemmas.Bool.{and_parts, ltb-true}
use Rattle.list_members.specs.Each.{AllByRecursion-back, AllByRecursion-weaker, AllByRecursion-at}
use Rattle.list_members.specs.Membership.{IsIn}
use Rattle.ground_core.specs.Refusal.{rise, rise_above}

abbrev pub Rises : List ℕ → Type 0
Rises [] = Unit {0}
Rises (n ∷ more) = AllByRecursion (λ m. n < m) more × Rises more

rises_above : (low : ℕ) (numbers : List ℕ) → rise_above low numbers ≡ true → AllByRecursion (λ m. low < m) numbers × Rises numbers
rises_above low [] h = (tt, tt)
rises_above low (n ∷ more) h =
    let both = and_parts (nat_lt low n) (rise_above n more) h in
    let rest = rises_above n more both.1 in
    let below : low < n = ltb-true low n both.0 in
    ((below, AllByRecursion-weaker (λ m. n < m) (λ m. low < m) (λ m h. omega arith) more rest.0), rest)

pub rises : (numbers : List ℕ) → rise numbers ≡ true → Rises numbers
rises [] h = tt
rises (n ∷ more) h = rises_above n more h

pub increasing : (numbers : List ℕ) → Rises numbers → IsStrictlyIncreasing numbers
increasing [] h k below = absurd (omega arith)
increasing (n ∷ []) h k below = absurd (omega arith)
increasing (n ∷ m ∷ more) h zero below = h.0.0
increasing (n ∷ m ∷ more) h (suc k) below =
    let e : suc k + 1 ≡ suc (k + 1) = omega arith in
    rw e (increasing (m ∷ more) h.1 k (omega arith))

pub rises_behind : (front back : List ℕ) → Rises (front ++ back) → Rises back
rises_behind [] back h = h
rises_behind (n ∷ front) back h = rises_behind front back h.1

-- numbers at the front are below those behind
pub below_behind : (front back : List ℕ) (m n : ℕ) → Rises (front ++ back) → IsIn m front → IsIn n back → m < n
below_behind [] back m n h i j = absurd i
below_behind (k ∷ front) back m n h i j = elim i [
  | inl e ↦ (
      let above : k < n = AllByRecursion-at (λ x. k < x) back n (AllByRecursion-back (λ x. k < x) front back h.0) j in
      let same : m ≡ k = e in
      omega arith)
  | inr more ↦ below_behind front back m n h.1 more j
]

-- the same from a number on
abbrev pub rise_from : ℕ → List ℕ → Bool
rise_from least [] = true
rise_from least (n ∷ more) = nat_le least n && rise_above n more
