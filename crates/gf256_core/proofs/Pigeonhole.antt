-- A list of n different numbers below n has each number below n.
use Rattle.std.proofs.Common.{◌≡◌, ℕ, zero, suc, ◌<◌, ◌⊎◌, inl, inr, sym, ◌∙◌, arith, cond, eqb}
use Rattle.std.proofs.lemmas.Bool.{cases_eq, cond-true, cond-false, eq-eqb, ne_eqb}

-- f puts `other` where it would be n
redirected : (ℕ → ℕ) → ℕ → ℕ → ℕ → ℕ
redirected f n other i = cond (eqb (f i) n) other (f i)

redirected-at : (f : ℕ → ℕ) (n other i : ℕ) → f i ≡ n → redirected f n other i ≡ other
unfolding redirected
redirected-at f n other i e = cond-true _ _ _ (eq-eqb (f i) n e)

redirected-off : (f : ℕ → ℕ) (n other i : ℕ) → (f i ≡ n → ⊥) → redirected f n other i ≡ f i
unfolding redirected
redirected-off f n other i e = cond-false _ _ _ (ne_eqb (f i) n e)

-- f is below `bound` at each number below `count`, and different at different ones
record Places (f : ℕ → ℕ) (count bound : ℕ) : Type 0 where
  below : (i : ℕ) → i < count → f i < bound
  apart : (i j : ℕ) → i < count → j < count → f i ≡ f j → i ≡ j

redirected-Places : (f : ℕ → ℕ) (n : ℕ) → Places f (suc (suc n)) (suc n) → Places (redirected f n (f (suc n))) (suc n) n
redirected-Places f n p = record {
  below = λ i h. elim (cases_eq (f i) n) [
    | inl e ↦
        let same : f i ≡ f (suc n) → i ≡ suc n = p.apart i (suc n) (omega arith) (omega arith) in
        let fits : f (suc n) < suc n = p.below (suc n) (omega arith) in
        let r = redirected-at f n (f (suc n)) i e in
        elim (cases_eq (f (suc n)) n) [ inl e' ↦ absurd (let s : i ≡ suc n = same (e ∙ sym e') in omega arith) | inr off ↦ omega arith ]
    | inr off ↦ let fits : f i < suc n = p.below i (omega arith) in let r = redirected-off f n (f (suc n)) i off in omega arith
  ];
  apart = λ i j hi hj e. elim (cases_eq (f i) n) [
    | inl ei ↦ let ri = redirected-at f n (f (suc n)) i ei in elim (cases_eq (f j) n) [
      | inl ej ↦ p.apart i j (omega arith) (omega arith) (ei ∙ sym ej)
      | inr nj ↦ let rj = redirected-off f n (f (suc n)) j nj in
          absurd (let s : suc n ≡ j = p.apart (suc n) j (omega arith) (omega arith) (sym ri ∙ e ∙ rj) in omega arith)
    ]
    | inr ni ↦ let ri = redirected-off f n (f (suc n)) i ni in elim (cases_eq (f j) n) [
      | inl ej ↦ let rj = redirected-at f n (f (suc n)) j ej in
          absurd (let s : i ≡ suc n = p.apart i (suc n) (omega arith) (omega arith) (sym ri ∙ e ∙ rj) in omega arith)
      | inr nj ↦ let rj = redirected-off f n (f (suc n)) j nj in
          p.apart i j (omega arith) (omega arith) (sym ri ∙ e ∙ rj)
    ]
  ];
}

too_many : (n : ℕ) (f : ℕ → ℕ) → Places f (suc n) n → ⊥
too_many zero f p = let h : f 0 < 0 = p.below 0 (omega arith) in omega arith
too_many (suc n) f p = too_many n (redirected f n (f (suc n))) (redirected-Places f n p)

find_place : (f : ℕ → ℕ) (y n : ℕ) → ((i : ℕ) × (i < n) × (f i ≡ y)) ⊎ ((i : ℕ) → i < n → f i ≡ y → ⊥)
find_place f y zero = inr (λ i h e. omega arith)
find_place f y (suc n) = elim (cases_eq (f n) y) [
  | inl e ↦ inl (n, omega arith, e)
  | inr off ↦ elim (find_place f y n) [
    | inl h ↦ inl (h.0, let lt = h.1 in omega arith, h.2)
    | inr none ↦ inr (λ i h e. elim (cases_eq i n) [
      | inl same ↦ off (rw same at e)
      | inr other ↦ none i (omega arith) e
    ])
  ]
]

extended : (ℕ → ℕ) → ℕ → ℕ → ℕ → ℕ
extended f n y i = cond (eqb i n) y (f i)

extended-at : (f : ℕ → ℕ) (n y i : ℕ) → i ≡ n → extended f n y i ≡ y
unfolding extended
extended-at f n y i e = cond-true _ _ _ (eq-eqb i n e)

extended-off : (f : ℕ → ℕ) (n y i : ℕ) → (i ≡ n → ⊥) → extended f n y i ≡ f i
unfolding extended
extended-off f n y i e = cond-false _ _ _ (ne_eqb i n e)

pub place_of :
    (f : ℕ → ℕ) (n : ℕ) → ((i : ℕ) → i < n → f i < n) → ((i j : ℕ) → i < n → j < n → f i ≡ f j → i ≡ j) → (y : ℕ) → y < n
    → (i : ℕ) × (i < n) × (f i ≡ y)
place_of f n below apart y fits = elim (find_place f y n) [
  | inl h ↦ h
  | inr none ↦ absurd (too_many n (extended f n y) (record {
    below = λ i h. elim (cases_eq i n) [
      | inl e ↦ let r = extended-at f n y i e in omega arith
      | inr off ↦ let r = extended-off f n y i off in let b : f i < n = below i (omega arith) in omega arith
    ];
    apart = λ i j hi hj e. elim (cases_eq i n) [
      | inl ei ↦ let ri = extended-at f n y i ei in elim (cases_eq j n) [
        | inl ej ↦ ei ∙ sym ej
        | inr nj ↦ let rj = extended-off f n y j nj in absurd (none j (omega arith) (sym rj ∙ sym e ∙ ri))
      ]
      | inr ni ↦ let ri = extended-off f n y i ni in elim (cases_eq j n) [
        | inl ej ↦ let rj = extended-at f n y j ej in absurd (none i (omega arith) (sym ri ∙ e ∙ rj))
        | inr nj ↦ let rj = extended-off f n y j nj in
            apart i j (omega arith) (omega arith) (sym ri ∙ e ∙ rj)
      ]
    ];
  }))
]
