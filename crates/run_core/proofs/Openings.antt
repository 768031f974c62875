-- Where an input opens, whatever comes after the bytes taken.
use Rattle.std.proofs.Common.{◌≡◌, ◌&&◌, ℕ, ◌+◌, ◌<◌, ◌≤◌, Bool, true, false, nat_lt, nat_le, List, [], ◌∷◌, ◌++◌, Some, None, length, sym, ap, ◌∙◌, arith, refl, inl, inr, rules, tests, codes}
use Rattle.std.proofs.lemmas.Bool.{cases_Bool}
use Rattle.std.proofs.lemmas.Bool.Decides.{nat_tests}
use Rattle.std.proofs.lemmas.Slice.Eq.{bytes_eq-Decides}
use Rattle.run_core.specs.Limits.{table_limit, ring_limit}
use Rattle.run_core.specs.Lines.{lines_in}
use Rattle.run_core.specs.Opening.{Opening, opening_at, is_table_end}
use Rattle.run_core.specs.Reading.{newline_in}
use Rattle.run_core.proofs.LineCuts.{first-line, FirstLine, span, span-nil, span-cons}

-- a line that ends a table has three bytes
pub end-size : (line : List ℕ) → is_table_end line ≡ true → length line ≡ 3
end-size line is = ap length ((bytes_eq-Decides line (codes "---")).0 is)

-- no line that begins past the limit of a table ends it
pub opening-past : (place number : ℕ) (lines : List (List ℕ)) → table_limit < place → opening_at place number lines ≡ None
opening-past place number [] past = refl
opening-past place number (line ∷ later) past = let test : nat_lt table_limit place ≡ true = search
    (rules, tests) in rw test refl

-- a line that does not end the table
pub opening-skip : (place number : ℕ) (line : List ℕ) (later : List (List ℕ)) → is_table_end line ≡ false
    → opening_at place number (line ∷ later) ≡ opening_at (place + (length line + 1)) (number + 1) later
opening-skip place number line later other =
    elim (cases_Bool (nat_lt table_limit place)) [
      | inl past ↦ (let far : table_limit < place + (length line + 1) = grind (arith, nat_tests) in rw past
          (sym (opening-past (place + (length line + 1)) (number + 1) later far)))
      | inr near ↦ rw (near, other) refl
    ]

-- a line that begins past the limit, or does not end the table, is passed over
pub opening-pass : (place number : ℕ) (line : List ℕ) (later : List (List ℕ))
    → (nat_le place table_limit && is_table_end line) ≡ false
    → opening_at place number (line ∷ later) ≡ opening_at (place + (length line + 1)) (number + 1) later
opening-pass place number line later other =
    elim (cases_Bool (is_table_end line)) [
      | inl matched ↦ (
          let past : table_limit < place = (let t = rw matched at other in grind (arith, nat_tests)) in
          opening-past place number (line ∷ later) past
          ∙ sym (opening-past (place + (length line + 1)) (number + 1) later (omega (arith, past)))
          )
      | inr no' ↦ opening-skip place number line later no'
    ]

-- one that begins within it and ends the table
pub opening-here : (place number : ℕ) (line : List ℕ) (later : List (List ℕ))
    → (nat_le place table_limit && is_table_end line) ≡ true
    → (opening_at place number (line ∷ later) ≡ Some (record { size = place; number = number; later = later })) ×
    (length line ≡ 3)
opening-here place number line later both =
    elim (cases_Bool (is_table_end line)) [
      | inl matched ↦ (
        (let near : nat_lt table_limit place ≡ false = (let t = rw matched at both in grind (arith, nat_tests)) in rw
            (near, matched) refl),
        end-size line matched,
      )
      | inr no' ↦ absurd (let t = rw no' at both in grind (arith, nat_tests))
    ]

-- an opening stays where lines come after
pub opening-more : (place number : ℕ) (lines more : List (List ℕ)) (o : Opening) → opening_at place number lines ≡ Some o
    → opening_at place number (lines ++ more) ≡ Some (record o { later = o.later ++ more })
opening-more place number [] more o is = cc
opening-more place number (line ∷ later) more o is =
    elim (cases_Bool (nat_lt table_limit place)) [
      | inl past ↦ absurd (let none = rw past at is in cc)
      | inr near ↦ elim (cases_Bool (is_table_end line)) [
        | inl matched ↦ (
            let here : Opening = record { size = place; number = number; later = later } in
            let same : here ≡ o = (let s = rw (near, matched) at is in cc) in
            rw (near, matched) (ap (λ (p : Opening). Some (record p { later = p.later ++ more })) same)
            )
        | inr no' ↦ (let next = rw (near, no') at is in rw (near, no')
            (opening-more (place + (length line + 1)) (number + 1) later more o next))
      ]
    ]

pub opening-size : (place number : ℕ) (lines : List (List ℕ)) (o : Opening) → opening_at place number lines ≡ Some o
    → o.size ≤ place + span lines
opening-size place number [] o is = cc
opening-size place number (line ∷ later) o is =
    elim (cases_Bool (nat_lt table_limit place)) [
      | inl past ↦ absurd (let none = rw past at is in cc)
      | inr near ↦ elim (cases_Bool (is_table_end line)) [
        | inl matched ↦ (
            let here : Opening = record { size = place; number = number; later = later } in
            let same : here ≡ o = (let s = rw (near, matched) at is in cc) in
            let size : place ≡ o.size = ap (λ (p : Opening). p.size) same in omega (arith, size)
            )
        | inr no' ↦ (let next = rw (near, no') at is in
            let size = opening-size (place + (length line + 1)) (number + 1) later o next in
            let c = span-cons line later in omega (arith, size, c))
      ]
    ]

-- a part line of which so many bytes are there ends no table
long-line : (place number : ℕ) (line : List ℕ) (later : List (List ℕ)) (size : ℕ) → ring_limit ≤ place + size
    → size ≤ length line
    → opening_at place number (line ∷ later) ≡ None
long-line place number line later size far fits =
    elim (cases_Bool (nat_lt table_limit place)) [
      | inl past ↦ rw past refl
      | inr near ↦ elim (cases_Bool (is_table_end line)) [
        | inl matched ↦ absurd (let three = end-size line matched in
            let close : place ≤ table_limit = grind (arith, nat_tests) in omega (arith, three, close, far, fits))
        | inr no' ↦ rw (near, no') (opening-past (place + (length line + 1)) (number + 1) later (omega (arith, far, fits)))
      ]
    ]

long-first : (place number : ℕ) (ended : Bool) (part more : List ℕ) → ring_limit ≤ place + length part
    → FirstLine ended part more
    → opening_at place number (lines_in ended (part ++ more)) ≡ None
long-first place number ended part more far (inl none) = ap (opening_at place number) none.0
long-first place number ended part more far (inr some) =
    ap (opening_at place number) some.2 ∙ long-line place number some.0 some.1 (length part) far some.3

pub opening-long : (place number : ℕ) (ended : Bool) (part more : List ℕ) → newline_in part ≡ None
    → ring_limit ≤ place + length part
    → opening_at place number (lines_in ended (part ++ more)) ≡ None
opening-long place number ended part more clean far =
    elim (cases_Bool (nat_lt table_limit place)) [
      | inl past ↦ opening-past place number (lines_in ended (part ++ more)) (grind (arith, nat_tests))
      | inr near ↦ (
          let close : place ≤ table_limit = grind (arith, nat_tests) in
          long-first place number ended part more far (first-line ended part more clean (omega (arith, close, far)))
          )
    ]

-- so many bytes that have no opening get none
pub opening-none : (place number : ℕ) (lines : List (List ℕ)) (ended : Bool) (part more : List ℕ) → newline_in part ≡ None
    → ring_limit ≤ place + (span lines + length part) → opening_at place number lines ≡ None
    → opening_at place number (lines ++ lines_in ended (part ++ more)) ≡ None
opening-none place number [] ended part more clean far none = opening-long place number ended part more clean
    (omega (arith, far, span-nil))
opening-none place number (line ∷ later) ended part more clean far none =
    elim (cases_Bool (nat_lt table_limit place)) [
      | inl past ↦ rw past refl
      | inr near ↦ elim (cases_Bool (is_table_end line)) [
        | inl matched ↦ absurd (let some = rw (near, matched) at none in cc)
        | inr no' ↦ (
            let next = rw (near, no') at none in
            rw (near, no') (opening-none (place + (length line + 1)) (number + 1) later ended part more clean
            (let c = span-cons line later in omega (arith, far, c)) next)
            )
      ]
    ]
