-- The steps by which a locator becomes longer.
use Rattle.std.proofs.Common.{◌≡◌, ℕ, ◌+◌, ◌-◌, ◌<◌, ◌≤◌, List, length, get_or, set, take, lit<, sym, ◌∙◌, ap, ap₂, arith, inl, inr}
use Rattle.std.specs.Int.Bits.{bit_xor, xor_zero_r, xor_self, xor_zero_l}
use Rattle.std.proofs.lemmas.Bool.{cases_eq}
use Rattle.std.proofs.lemmas.List.{get_or-take, get_or-set_same, get_or-set_other}
use Rattle.gf256_core.specs.Field.{IsField}
use Rattle.poly256.specs.Polynomial.{element_product, sum_of, scaled_coefficients, raised_coefficients}
use Rattle.poly256.specs.Laws.{HasDegrees}
use Rattle.rs_code.specs.Mending.{paired_sum, IsLocator, IsEarlier}
use Rattle.rs_code.proofs.Pairing.{paired_sum-zeros, paired_sum-front, paired_sum-add, get_or-add, get_or-add_above}

-- what is left at one more place is taken away
pub IsLocator-step :
    (F : IsField 391) (D : HasDegrees) (next list sums : List ℕ) (degree at place off rest f : ℕ) → IsLocator next sums (at + 1) place
    → IsLocator list sums degree at → degree ≤ place → place ≤ at
    → paired_sum list (λ k. get_or sums (at + k) 0) ≡ off
    → rest ≡ paired_sum (take (at + 2) next) (λ k. get_or sums (place + k) 0) → element_product f off ≡ rest
    → IsLocator (sum_of next (raised_coefficients (at - place) (scaled_coefficients f (take (degree + 1) list)))) sums (at + 1) (place + 1)
IsLocator-step F D next list sums degree at place off rest f is is' low high is_off is_rest quotient = record {
  lead = get_or-add_above F D next list (at - place) f (degree + 1) (at + 1) (omega arith) ∙ is.lead;
  past = λ k h. get_or-add_above F D next list (at - place) f (degree + 1) k (omega arith) ∙ is.past k h;
  zero = λ j h.
      paired_sum-add F next list sums (at - place) f (degree + 1) j (λ k h'. is'.past k (omega arith))
      ∙ elim (cases_eq j place) [
        | inl same ↦
            let there : j + (at - place) ≡ at = omega arith in
            ap₂ bit_xor
            (ap (λ (i : ℕ). paired_sum next (λ k. get_or sums (i + k) 0)) same
            ∙ sym (paired_sum-front F (at + 2) next (λ k. get_or sums (place + k) 0) (λ k h'. is.past k (omega arith)))
            ∙ sym is_rest)
            (ap (λ (i : ℕ). element_product f (paired_sum list (λ k. get_or sums (i + k) 0))) there
            ∙ ap (element_product f) is_off ∙ quotient)
            ∙ xor_self rest
        | inr apart ↦
            ap₂ bit_xor (is.zero j (omega arith))
            (ap (element_product f) (is'.zero (j + (at - place)) (omega arith)) ∙ F.product_zero_right f)
            ∙ xor_zero_r 0
      ];
}

-- a locator times a power of x and a multiple of the one before it
pub IsLocator-begin :
    (F : IsField 391) (D : HasDegrees) (zeros list earlier sums : List ℕ) (degree at last off f : ℕ) → ((k : ℕ) → get_or zeros k 0 ≡ 0)
    → degree < length list → IsLocator list sums degree at → IsEarlier earlier sums degree last → degree ≤ at → off < 256
    → paired_sum list (λ k. get_or sums (at + k) 0) ≡ off → element_product f last ≡ off
    → IsLocator (sum_of (sum_of zeros (raised_coefficients (at + 1 - degree) (scaled_coefficients 1 (take (degree + 1) list)))) (raised_coefficients 0 (scaled_coefficients f (take degree earlier)))) sums (at + 1) degree
IsLocator-begin F D zeros list earlier sums degree at last off f none room is before high fits is_off quotient =
    record {
      lead =
          get_or-add_above F D (sum_of zeros (raised_coefficients (at + 1 - degree) (scaled_coefficients 1 (take (degree + 1) list)))) earlier 0 f degree (at + 1) (omega arith)
          ∙ get_or-add F D zeros list (at + 1 - degree) 1 (degree + 1) degree (at + 1) (omega arith)
          ∙ ap₂ bit_xor (none (at + 1))
          (ap (element_product 1) (get_or-take (degree + 1) list degree 0 (omega arith) ∙ is.lead) ∙ F.product_one 1 (lit< tt))
          ∙ xor_zero_l 1;
      past = λ k h.
          get_or-add_above F D (sum_of zeros (raised_coefficients (at + 1 - degree) (scaled_coefficients 1 (take (degree + 1) list)))) earlier 0 f degree k (omega arith)
          ∙ get_or-add_above F D zeros list (at + 1 - degree) 1 (degree + 1) k (omega arith)
          ∙ none k;
      zero = λ j h.
          paired_sum-add F (sum_of zeros (raised_coefficients (at + 1 - degree) (scaled_coefficients 1 (take (degree + 1) list)))) earlier sums 0 f degree j before.past
          ∙ ap₂ bit_xor
          (paired_sum-add F zeros list sums (at + 1 - degree) 1 (degree + 1) j (λ k h'. is.past k (omega arith))
          ∙ ap (λ (a : ℕ). bit_xor a (element_product 1 (paired_sum list (λ k. get_or sums (j + (at + 1 - degree) + k) 0))))
          (paired_sum-zeros F zeros (λ k. get_or sums (j + k) 0) none)
          ∙ xor_zero_l (element_product 1 (paired_sum list (λ k. get_or sums (j + (at + 1 - degree) + k) 0))))
          (ap (λ (i : ℕ). element_product f (paired_sum earlier (λ k. get_or sums (i + k) 0))) (let e : j + 0 ≡ j = omega arith in e))
          ∙ elim (cases_eq (j + 1) degree) [
            | inl same ↦
                ap₂ bit_xor
                (ap (λ (i : ℕ). element_product 1 (paired_sum list (λ k. get_or sums (i + k) 0))) (let e : j + (at + 1 - degree) ≡ at = omega arith in e)
                ∙ ap (element_product 1) is_off ∙ F.product_one off fits)
                (ap (element_product f) (before.here j same) ∙ quotient)
                ∙ xor_self off
            | inr apart ↦
                ap₂ bit_xor
                (ap (element_product 1) (is.zero (j + (at + 1 - degree)) (omega arith)) ∙ F.product_zero_right 1)
                (ap (element_product f) (before.zero j (omega arith)) ∙ F.product_zero_right f)
                ∙ xor_zero_r 0
          ];
    }

-- the locator before it
pub IsEarlier-next :
    (list sums : List ℕ) (degree at off : ℕ) → IsLocator list sums degree at → degree ≤ at
    → paired_sum list (λ k. get_or sums (at + k) 0) ≡ off → IsEarlier list sums (at + 1) off
IsEarlier-next list sums degree at off is high is_off = record {
  past = λ k h. is.past k (omega arith);
  zero = λ j h. is.zero j (omega arith);
  here = λ j h.
      ap (λ (i : ℕ). paired_sum list (λ k. get_or sums (i + k) 0)) (let e : j ≡ at = omega arith in e) ∙ is_off;
}

-- one more place where nothing is left
pub IsLocator-same :
    (list sums : List ℕ) (degree at : ℕ) → IsLocator list sums degree at
    → paired_sum list (λ k. get_or sums (at + k) 0) ≡ 0 → IsLocator list sums degree (at + 1)
IsLocator-same list sums degree at is none = record {
  lead = is.lead;
  past = is.past;
  zero = λ j h. elim (cases_eq j at) [
    | inl same ↦ ap (λ (i : ℕ). paired_sum list (λ k. get_or sums (i + k) 0)) same ∙ none
    | inr apart ↦ is.zero j (omega arith)
  ];
}

-- the polynomial 1
pub IsLocator-one :
    (zeros sums : List ℕ) → ((k : ℕ) → get_or zeros k 0 ≡ 0) → 0 < length zeros → IsLocator (set zeros 0 1) sums 0 0
IsLocator-one zeros sums none some = record {
  lead = get_or-set_same zeros 0 1 0 some;
  past = λ k h. get_or-set_other zeros 0 k 1 0 (λ e. absurd (omega arith)) ∙ none k;
  zero = λ j h. absurd (omega arith);
}

-- nothing before it
pub IsEarlier-none : (zeros sums : List ℕ) → ((k : ℕ) → get_or zeros k 0 ≡ 0) → IsEarlier zeros sums 0 1
IsEarlier-none zeros sums none = record {
  past = λ k h. none k;
  zero = λ j h. absurd (omega arith);
  here = λ j h. absurd (omega arith);
}
