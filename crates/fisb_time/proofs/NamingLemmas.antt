-- The moment that is named by property is the one that the function finds.
use Rattle.std.proofs.Common.{◌≡◌, ℕ, zero, suc, ◌+◌, ◌<◌, ◌≤◌, Bool, true, IsTrue, Option, None, Some, IfSome, IsNone, inl, inr, ◌≢◌, refl, sym, ap, arith}
use Rattle.std.proofs.lemmas.Bool.{cases_Bool}
use Rattle.std.proofs.lemmas.Bool.Decides.{nat_tests}
use Rattle.fisb_time.specs.declared.form.TimeForm.{TimeForm}
use Rattle.fisb_time.specs.declared.form.TimeFields.{TimeFields}
use Rattle.fisb_time.specs.Moment.{IsMoment, is_moment}
use Rattle.fisb_time.specs.TimeForm.{shows}
use Rattle.fisb_time.specs.TimeFields.{shown_fields, same_fields}
use Rattle.fisb_time.specs.Naming.{IsCandidate, Names, has_fields, greatest_below, named_moment}

same_fields-true : (f g : TimeFields) → same_fields f g ≡ true → f ≡ g
same_fields-true f g h = grind (arith, nat_tests)

same_fields-refl : (f g : TimeFields) → f ≡ g → same_fields f g ≡ true
same_fields-refl f g h = grind (arith, nat_tests)

-- what the test says
has_fields-true :
    (form : TimeForm) (fields : TimeFields) (m : ℕ) → has_fields form fields m ≡ true →
    IsMoment m × IsTrue (shows form m) × (shown_fields form m ≡ fields)
unfolding has_fields
has_fields-true form fields m h =
    let range : is_moment m ≡ true = grind arith in
    let showable : shows form m ≡ true = grind arith in
    let same : same_fields (shown_fields form m) fields ≡ true = grind arith in
    (grind (arith, nat_tests), showable, same_fields-true (shown_fields form m) fields same)

has_fields-of :
    (form : TimeForm) (fields : TimeFields) (m : ℕ) → IsMoment m → IsTrue (shows form m) →
    shown_fields form m ≡ fields → has_fields form fields m ≡ true
unfolding has_fields
has_fields-of form fields m range showable same =
    let in_range : is_moment m ≡ true = grind (arith, nat_tests) in
    let equal : same_fields (shown_fields form m) fields ≡ true = same_fields-refl (shown_fields form m) fields same in
    rw (in_range, showable, equal)

-- what is found below a bound is the greatest number that passes
greatest_below-of :
    (n : ℕ) (test : ℕ → Bool) (m : ℕ) → test m ≡ true → m < n →
    ((k : ℕ) → k < n → test k ≡ true → k ≤ m) → greatest_below n test ≡ Some m
unfolding greatest_below
greatest_below-of zero test m passes below most = absurd (omega arith)
greatest_below-of (suc n) test m passes below most =
    elim (cases_Bool (test n)) [
      | inl t ↦ let n_is : n ≡ m = omega (arith, most n (omega arith) t) in rw t (ap Some n_is)
      | inr f ↦
          let apart : n ≢ m = λ e. grind (arith, e) in
          rw f (greatest_below-of n test m passes (omega arith) (λ k under t. most k (omega arith) t))
    ]

-- where none passes, none is found
greatest_below-none :
    (n : ℕ) (test : ℕ → Bool) → ((k : ℕ) → k < n → test k ≡ true → ⊥) → greatest_below n test ≡ None
unfolding greatest_below
greatest_below-none zero test none = refl
greatest_below-none (suc n) test none =
    elim (cases_Bool (test n)) [
      | inl t ↦ absurd (none n (omega arith) t)
      | inr f ↦ rw f (greatest_below-none n test (λ k under t. none k (omega arith) t))
    ]

-- the greatest candidate is the one that is found
pub named_moment-of :
    (form : TimeForm) (fields : TimeFields) (received m : ℕ) → Names form fields received m →
    named_moment form fields received ≡ Some m
unfolding named_moment
named_moment-of form fields received m h =
    let own = h.candidate in
    greatest_below-of (received + 61) (has_fields form fields) m
    (has_fields-of form fields m own.in_range own.showable own.same)
    (omega (arith, own.not_ahead))
    (λ k under t.
    let has = has_fields-true form fields k t in
    h.greatest k (record { in_range = has.0; not_ahead = omega arith; showable = has.1; same = has.2 }))

-- with no candidate, none is found
pub named_moment-none :
    (form : TimeForm) (fields : TimeFields) (received : ℕ) →
    ((m : ℕ) → ¬ IsCandidate form fields received m) → named_moment form fields received ≡ None
unfolding named_moment
named_moment-none form fields received none =
    greatest_below-none (received + 61) (has_fields form fields)
    (λ k under t.
    let has = has_fields-true form fields k t in
    none k (record { in_range = has.0; not_ahead = omega arith; showable = has.1; same = has.2 }))

-- what is found passes, and is the greatest that does
greatest_below-some :
    (n : ℕ) (test : ℕ → Bool) (m : ℕ) → greatest_below n test ≡ Some m →
    (test m ≡ true) × (m < n) × ((k : ℕ) → k < n → test k ≡ true → k ≤ m)
unfolding greatest_below
greatest_below-some zero test m found = absurd (cc)
greatest_below-some (suc n) test m found =
    elim (cases_Bool (test n)) [
      | inl t ↦
          let here : Some n ≡ Some m = rw t at found in
          let n_is : n ≡ m = cc in
          (rw n_is at t, omega arith, λ k under passes. omega arith)
      | inr f ↦
          let later : greatest_below n test ≡ Some m = rw f at found in
          let rest = greatest_below-some n test m later in (
            rest.0,
            omega (arith, rest.1),
            λ k under passes.
                let apart : k ≢ n = λ e. let again : test n ≡ true = rw e at passes in absurd (cc) in
                rest.2 k (omega arith) passes,
          )
    ]

-- what is found is the greatest candidate
pub Names-of :
    (form : TimeForm) (fields : TimeFields) (received m : ℕ) → named_moment form fields received ≡ Some m →
    Names form fields received m
unfolding named_moment
Names-of form fields received m found =
    let it = greatest_below-some (received + 61) (has_fields form fields) m found in
    let has = has_fields-true form fields m it.0 in
    record {
      candidate = record { in_range = has.0; not_ahead = omega (arith, it.1); showable = has.1; same = has.2 };
      greatest = λ other h.
          it.2 other (omega (arith, h.not_ahead))
          (has_fields-of form fields other h.in_range h.showable h.same);
    }

-- what is named is found, and so is that nothing is
pub named_moment-by :
    (form : TimeForm) (fields : TimeFields) (received : ℕ) (answer : Option ℕ) →
    IfSome answer (Names form fields received) →
    (IsNone answer → (m : ℕ) → ¬ IsCandidate form fields received m) →
    answer ≡ named_moment form fields received
named_moment-by form fields received (Some m) names none = sym (named_moment-of form fields received m names)
named_moment-by form fields received None names none = sym (named_moment-none form fields received (none refl))

-- where there is no candidate nothing is named
pub none-by :
    (form : TimeForm) (fields : TimeFields) (received : ℕ) (answer : Option ℕ) →
    IfSome answer (Names form fields received) →
    ((m : ℕ) → ¬ IsCandidate form fields received m) → IsNone answer
none-by form fields received (Some m) names none = absurd (none m names.candidate)
none-by form fields received None names none = refl
