-- The groups of the test: each rises, is near its base, and in its ring.
use Rattle.std.proofs.Common.{◌≡◌, ℕ, zero, suc, ◌+◌, ◌/◌, ◌<◌, ◌≤◌, [], ◌∷◌, refl, arith}
use Rattle.std.specs.List.Sorted.{IsStrictlyIncreasing}
use Rattle.std.proofs.lemmas.List.Elements.{All-nil, All-cons}
use Rattle.radar_core.specs.Blanks.{IsGroup}
use Rattle.wire_trials.proofs.blocks.an_empty_record_is_written.Goals as goal

rises_one : (a : ℕ) → IsStrictlyIncreasing (a ∷ [])
rises_one a k below = absurd (omega arith)

rises_two : (a b : ℕ) → a < b → IsStrictlyIncreasing (a ∷ b ∷ [])
rises_two a b less zero below = less
rises_two a b less (suc k) below = absurd (omega arith)

rises_three : (a b c : ℕ) → a < b → b < c → IsStrictlyIncreasing (a ∷ b ∷ c ∷ [])
rises_three a b c less more zero below = less
rises_three a b c less more (suc zero) below = more
rises_three a b c less more (suc (suc k)) below = absurd (omega arith)

alone : (base : ℕ) → IsGroup base []
alone base = record {
  rises = rises_one base;
  near = All-nil (λ number. number ≤ base + 116);
  in_ring = All-nil (λ number. number / 450 ≡ base / 450);
}

of_two : (base a : ℕ) → base < a → a ≤ base + 116 → a / 450 ≡ base / 450 → IsGroup base (a ∷ [])
of_two base a above near ring = record {
  rises = rises_two base a above;
  near = All-cons (λ number. number ≤ base + 116) a [] near (alone base).near;
  in_ring = All-cons (λ number. number / 450 ≡ base / 450) a [] ring (alone base).in_ring;
}

of_three : (base a b : ℕ) → base < a → a < b → b ≤ base + 116 → a / 450 ≡ base / 450 → b / 450 ≡ base / 450 → IsGroup base (a ∷ b ∷ [])
of_three base a b above more near ring same = record {
  rises = rises_three base a b above more;
  near = All-cons (λ number. number ≤ base + 116) a (b ∷ []) (omega arith) (All-cons (λ number. number ≤ base + 116) b [] near (alone base).near);
  in_ring = All-cons (λ number. number / 450 ≡ base / 450) a (b ∷ []) ring (All-cons (λ number. number / 450 ≡ base / 450) b [] same (alone base).in_ring);
}

pub written_blank-requires-clause-group : goal.written_blank-requires-clause-group
written_blank-requires-clause-group g c = alone 100000

pub written_blank-requires-2-clause-group : goal.written_blank-requires-2-clause-group
written_blank-requires-2-clause-group g c = of_two 100001 100005 (omega arith) (omega arith) refl

pub written_blank-requires-3-clause-group : goal.written_blank-requires-3-clause-group
written_blank-requires-3-clause-group g c = of_three 100000 100001 100005 (omega arith) (omega arith) (omega arith) refl refl
