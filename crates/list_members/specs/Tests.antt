-- What tests of an option and of two numbers say, and what nothing adds.
use Rattle.std.proofs.Common.{◌≡◌, ℕ, ◌+◌, ◌==◌, nat_lt, Bool, true, false, cond, Option, Some}
use Rattle.std.proofs.Common.{None, is_some, is_none, Result, Ok, Err}
use Rattle.std.proofs.Common.{refl, inl, inr, arith}
use Rattle.std.specs.Option.{option_map, option_or}
use Rattle.std.specs.Ordering.{is_eq, nat_cmp}
use Rattle.std.proofs.lemmas.Bool.{cases_Bool, ltb-true, ne_eqb}

pub none_from : {A : Type 0} (o : Option A) → is_some o ≡ false → o ≡ None
none_from None e = refl
none_from (Some x) e = absurd (cc)

pub none_from_is_none : {A : Type 0} (o : Option A) → is_none o ≡ true → o ≡ None
none_from_is_none None e = refl
none_from_is_none (Some x) e = absurd (cc)

pub none_mapped : {A B : Type 0} (f : A → B) (o : Option A) → option_map f o ≡ None → o ≡ None
none_mapped f None e = refl
none_mapped f (Some x) e = absurd (cc)

-- what a mapped option was before
pub mapped_from :
    {A B : Type 0} (f : A → B) (o : Option A) (y : B) → option_map f o ≡ Some y
    → (x : A) × (o ≡ Some x) × (f x ≡ y)
mapped_from f None y e = absurd (cc)
mapped_from f (Some x) y e = (x, refl, (let same : Some (f x) ≡ Some y = e in cc))

pub or_none : {A : Type 0} (o : Option A) → option_or o None ≡ o
or_none None = refl
or_none (Some x) = refl

-- an answer after a test that refuses: the test was false
pub ok_past_test :
    {A E : Type 0} (b : Bool) (e : E) (r : Result A E) (y : A) → cond b (Err e) r ≡ Ok y
    → (b ≡ false) × (r ≡ Ok y)
ok_past_test true e r y is = absurd (cc)
ok_past_test false e r y is = (refl, is)

-- something after a test that gives nothing: the test was false
pub some_past_test : {A : Type 0} (b : Bool) (o : Option A) (x : A) → cond b None o ≡ Some x
    → (b ≡ false) × (o ≡ Some x)
some_past_test true o x is = absurd (cc)
some_past_test false o x is = (refl, is)

-- nothing after a test that gives something: the test was false
pub none_past_test : {A : Type 0} (b : Bool) (x : A) (o : Option A) → cond b (Some x) o ≡ None
    → (b ≡ false) × (o ≡ None)
none_past_test true x o is = absurd (cc)
none_past_test false x o is = (refl, is)

-- what is there where a test passes
pub some_by_test : {A : Type 0} (b : Bool) (x : A) → is_some (cond b (Some x) None) ≡ b
some_by_test true x = refl
some_by_test false x = refl

pub mapped_some : {A B : Type 0} (f : A → B) (o : Option A) → is_some (option_map f o) ≡ is_some o
mapped_some f None = refl
mapped_some f (Some x) = refl

pub tied_numbers : (x y : ℕ) → (x == y) ≡ is_eq (nat_cmp x y)
tied_numbers x y = elim (cases_Bool (nat_lt x y)) [
  | inl less ↦
      let below = ltb-true x y less in
      let other : (x == y) ≡ false = ne_eqb x y (omega arith) in
      rw (other, less) refl
  | inr more ↦ elim (cases_Bool (x == y)) [
    | inl same ↦ rw (more, same) refl
    | inr other ↦ rw (more, other) refl
  ]
]

pub zero_more : (n : ℕ) → n ≡ n + 0
zero_more n = omega arith
