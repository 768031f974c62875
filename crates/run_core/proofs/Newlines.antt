-- Bytes, cut at their first newline.
use Rattle.std.proofs.Common.{◌≡◌, ◌==◌, ℕ, ◌+◌, ◌-◌, ◌<◌, ◌≤◌, nat_lt, nat_le, min, true, false, List, [], ◌∷◌, ◌++◌, Some, None, length, take, drop, sym, ap, ◌∙◌, arith, inl, inr, refl, length-append}
use Rattle.std.proofs.lemmas.Bool.{cases_Bool}
use Rattle.std.proofs.lemmas.Bool.Decides.{nat_tests}
use Rattle.std.proofs.lemmas.List.{take-append-le, drop-append-le, drop_all}
use Rattle.std.proofs.Math.Seq.{drop-append-add}
use Rattle.std.proofs.lemmas.List.Splits.{slice_split_first, slice_split_none, length-slice_split}
use Rattle.std.proofs.lemmas.List.Sums.{fails_before_first}
use Rattle.std.specs.List.{position_or_len}
use Rattle.byte_search.specs.FirstByte.{found_at, past_end}
use Rattle.run_core.specs.Reading.{newline_in}
use Rattle.run_core.specs.Lines.{parts_of}

-- how many bytes stand before the first newline, or all where there is none
abbrev pub clean_len : List ℕ → ℕ
clean_len xs = position_or_len (λ b. b == 10) xs

pub at-found : (xs : List ℕ) → clean_len xs < length xs → newline_in xs ≡ Some (clean_len xs)
at-found xs within = let test : nat_lt (clean_len xs) (length xs) ≡ true = grind (arith, nat_tests) in rw test refl

pub at-none : (xs : List ℕ) → length xs ≤ clean_len xs → newline_in xs ≡ None
at-none xs past = let test : nat_lt (clean_len xs) (length xs) ≡ false = grind (arith, nat_tests) in rw test refl

-- what comes after a newline does not move it
pub first-append : (xs more : List ℕ) → clean_len xs < length xs → clean_len (xs ++ more) ≡ clean_len xs
first-append [] more within = absurd (omega arith)
first-append (x ∷ xs) more within =
    elim (cases_Bool (x == 10)) [
      | inl here ↦ rw here refl
      | inr not_here ↦ (let later : clean_len xs < length xs = (let w = rw not_here at within in omega (arith, w)) in
          let same = first-append xs more later in rw not_here (ap (λ n. 1 + n) same))
    ]

-- what comes after bytes without a newline has the first one
pub past-append : (xs more : List ℕ) → length xs ≤ clean_len xs → clean_len (xs ++ more) ≡ length xs + clean_len more
past-append [] more past = omega arith
past-append (x ∷ xs) more past =
    elim (cases_Bool (x == 10)) [
      | inl here ↦ absurd (let p = rw here at past in omega (arith, p))
      | inr not_here ↦ (let later : length xs ≤ clean_len xs = (let p = rw not_here at past in omega (arith, p)) in
          let same = past-append xs more later in rw not_here (omega (arith, same)))
    ]

pub none-append : (xs more : List ℕ) → newline_in xs ≡ None → newline_in more ≡ None → newline_in (xs ++ more) ≡ None
none-append xs more one other =
    let same = past-append xs more (past_end 10 xs (sym one)) in
    let past = past_end 10 more (sym other) in
    let size = length-append xs more in
    at-none (xs ++ more) (omega (arith, same, past, size))

-- the first newline of bytes in two parts
pub front-newline : (e : ℕ) (xs more : List ℕ) → newline_in xs ≡ Some e → newline_in (xs ++ more) ≡ Some e
front-newline e xs more found =
    let at = found_at 10 e xs (sym found) in
    let same = first-append xs more at.1 in
    let size = length-append xs more in
    let w = at.1 in
    at-found (xs ++ more) (omega (arith, same, w, size)) ∙ ap Some (same ∙ sym at.0)

pub back-newline : (e : ℕ) (xs more : List ℕ) → newline_in xs ≡ None → newline_in more ≡ Some e
    → newline_in (xs ++ more) ≡ Some (length xs + e)
back-newline e xs more none found =
    let at = found_at 10 e more (sym found) in
    let same = past-append xs more (past_end 10 xs (sym none)) in
    let size = length-append xs more in
    let w = at.1 in
    at-found (xs ++ more) (omega (arith, same, w, size)) ∙ ap Some (same ∙ ap (λ n. length xs + n) (sym at.0))

-- what is left of two parts from a place on
pub parts-dropped : (from skipped : ℕ) (xs ys : List ℕ) → skipped ≡ min from (length xs)
    → drop skipped xs ++ drop (from - skipped) ys ≡ drop from (xs ++ ys)
parts-dropped from skipped xs ys is =
    elim (cases_Bool (nat_le from (length xs))) [
      | inl within ↦ (let all : skipped ≡ from = grind (arith, nat_tests) in
          let here : from ≤ length xs = grind (arith, nat_tests) in
          let none : from - skipped ≡ 0 = omega (arith, all) in
          ap (λ n. drop n xs ++ drop (from - skipped) ys) all ∙ ap (λ n. drop from xs ++ drop n ys) none
          ∙ sym (drop-append-le from xs ys here))
      | inr past ↦ (let all : skipped ≡ length xs = grind (arith, nat_tests) in
          let whole : length xs + (from - skipped) ≡ from = grind (arith, nat_tests) in
          ap (λ n. drop n xs ++ drop (from - skipped) ys) all
          ∙ ap (λ zs. zs ++ drop (from - skipped) ys) (drop_all (length xs) xs (omega arith))
          ∙ sym (drop-append-add xs ys (from - skipped)) ∙ ap (λ n. drop n (xs ++ ys)) whole)
    ]

-- the first part ends before the first newline
pub parts-cut : (e : ℕ) (xs more : List ℕ) → newline_in xs ≡ Some e
    → parts_of (xs ++ more) ≡ take e xs ∷ parts_of (drop (e + 1) xs ++ more)
parts-cut e xs more found =
    let at = found_at 10 e xs (sym found) in
    let same = first-append xs more at.1 in
    let is : clean_len (xs ++ more) ≡ e = same ∙ sym at.0 in
    let size = length-append xs more in
    let within : clean_len (xs ++ more) < length (xs ++ more) = (let w = at.1 in omega (arith, same, w, size)) in
    let front : take (clean_len (xs ++ more)) (xs ++ more) ≡ take e xs = ap (λ n. take n (xs ++ more)) is
    ∙ take-append-le e xs more (omega (arith, at.0, at.1)) in
    let back : drop (clean_len (xs ++ more) + 1) (xs ++ more) ≡ drop (e + 1) xs ++ more = ap
    (λ n. drop (n + 1) (xs ++ more)) is ∙ drop-append-le (e + 1) xs more (omega (arith, at.0, at.1)) in
    slice_split_first (λ b. b == 10) (xs ++ more) 0 within ∙ rw (front, back) refl

-- without a newline all bytes are the one part
pub parts-none : (xs : List ℕ) → newline_in xs ≡ None → parts_of xs ≡ xs ∷ []
parts-none xs none = slice_split_none (λ b. b == 10) xs
    (λ k d within. fails_before_first (λ b. b == 10) xs k d (let past = past_end 10 xs (sym none) in omega (arith, past, within)))

pub some-parts : (xs : List ℕ) → 0 < length (parts_of xs)
some-parts xs = let counted = length-slice_split (λ b. b == 10) xs in omega arith
