-- The lines of bytes and their part line, by the first newline.
use Rattle.std.proofs.Common.{◌≡◌, ℕ, zero, suc, ◌+◌, ◌<◌, ◌≤◌, ◌⊎◌, Bool, true, false, nat_lt, List, [], ◌∷◌, ◌++◌, Option, Some, None, length, take, drop, sym, ap, ◌∙◌, arith, refl, inl, inr, append-nil, length-append, length-drop, length-take}
use Rattle.std.proofs.lemmas.Bool.Decides.{nat_tests}
use Rattle.byte_search.specs.FirstByte.{found_at, past_end}
use Rattle.run_core.specs.Reading.{newline_in}
use Rattle.run_core.specs.Lines.{lines_in, part_line, parts_of, lines_of_parts, last_part}
use Rattle.run_core.proofs.Newlines.{parts-cut, parts-none, some-parts, past-append}

lines-more : (ended : Bool) (line : List ℕ) (parts : List (List ℕ)) → 0 < length parts
    → lines_of_parts ended (line ∷ parts) ≡ line ∷ lines_of_parts ended parts
lines-more ended line [] some = absurd (omega arith)
lines-more ended line (next ∷ more) some = refl

part-more : (line : List ℕ) (parts : List (List ℕ)) → 0 < length parts → last_part (line ∷ parts) ≡ last_part parts
part-more line [] some = absurd (omega arith)
part-more line (next ∷ more) some = refl

pub lines-cut : (ended : Bool) (e : ℕ) (xs more : List ℕ) → newline_in xs ≡ Some e
    → lines_in ended (xs ++ more) ≡ take e xs ∷ lines_in ended (drop (e + 1) xs ++ more)
lines-cut ended e xs more found =
    ap (lines_of_parts ended) (parts-cut e xs more found)
    ∙ lines-more ended (take e xs) (parts_of (drop (e + 1) xs ++ more)) (some-parts (drop (e + 1) xs ++ more))

pub part-cut : (ended : Bool) (e : ℕ) (xs more : List ℕ) → newline_in xs ≡ Some e
    → part_line ended (xs ++ more) ≡ part_line ended (drop (e + 1) xs ++ more)
part-cut true e xs more found = refl
part-cut false e xs more found =
    ap last_part (parts-cut e xs more found) ∙ part-more (take e xs) (parts_of (drop (e + 1) xs ++ more))
    (some-parts (drop (e + 1) xs ++ more))

pub no-line : (xs : List ℕ) → newline_in xs ≡ None → lines_in false xs ≡ []
no-line xs none = ap (lines_of_parts false) (parts-none xs none)

pub only-part : (xs : List ℕ) → newline_in xs ≡ None → part_line false xs ≡ xs
only-part xs none = ap last_part (parts-none xs none)

pub last-line : (xs : List ℕ) → newline_in xs ≡ None → 0 < length xs → lines_in true xs ≡ xs ∷ []
last-line xs none some =
    let positive : nat_lt 0 (length xs) ≡ true = grind (arith, nat_tests) in
    ap (lines_of_parts true) (parts-none xs none) ∙ rw positive refl

pub no-last : (xs : List ℕ) → length xs ≡ 0 → lines_in true xs ≡ []
no-last [] none = refl
no-last (x ∷ xs) none = absurd (omega (arith, none))

-- the first line of bytes that begin without a newline: it has at least these, or is still to come
abbrev pub FirstLine : Bool → List ℕ → List ℕ → Type 0
FirstLine ended xs more =
    ((lines_in ended (xs ++ more) ≡ []) × (ended ≡ false) × (part_line ended (xs ++ more) ≡ xs ++ more))
    ⊎ ((line : List ℕ) × (later : List (List ℕ)) × (lines_in ended (xs ++ more) ≡ line ∷ later) × (length xs ≤ length line))

line-found : (ended : Bool) (e : ℕ) (text : List ℕ) → newline_in text ≡ Some e
    → (line : List ℕ) × (later : List (List ℕ)) × (lines_in ended text ≡ line ∷ later) × (length line ≡ e)
line-found ended e text found =
    let at = found_at 10 e text (sym found) in
    let whole = append-nil text in (
      take e text,
      lines_in ended (drop (e + 1) text ++ []),
      ap (lines_in ended) (sym whole)
          ∙ lines-cut ended e text [] found,
      length-take e text ∙ (let a = at.0 in let b = at.1 in omega (arith, a, b)),
    )

line-none : (ended : Bool) (xs more : List ℕ) → 0 < length xs → newline_in (xs ++ more) ≡ None → FirstLine ended xs more
line-none false xs more some none = inl (no-line (xs ++ more) none, refl, only-part (xs ++ more) none)
line-none true xs more some none =
    let size = length-append xs more in
    inr (xs ++ more, [], last-line (xs ++ more) none (omega (arith, size, some)), omega (arith, size))

line-by : (ended : Bool) (xs more : List ℕ) (found : Option ℕ) → newline_in xs ≡ None → 0 < length xs
    → newline_in (xs ++ more) ≡ found → FirstLine ended xs more
line-by ended xs more None none some is = line-none ended xs more some is
line-by ended xs more (Some e) none some is =
    let at = found_at 10 e (xs ++ more) (sym is) in
    let past = past-append xs more (past_end 10 xs (sym none)) in
    let line = line-found ended e (xs ++ more) is in
    inr (line.0, line.1, line.2, (let a = at.0 in let l = line.3 in omega (arith, a, past, l)))

pub first-line : (ended : Bool) (xs more : List ℕ) → newline_in xs ≡ None → 0 < length xs → FirstLine ended xs more
first-line ended xs more none some = line-by ended xs more (newline_in (xs ++ more)) none some refl

-- how many bytes lines have with their newlines
pub span : List (List ℕ) → ℕ
span [] = 0
span (line ∷ later) = (length line + 1) + span later

pub span-nil : span [] ≡ 0
unfolding span
span-nil = refl

pub span-cons : (line : List ℕ) (later : List (List ℕ)) → span (line ∷ later) ≡ (length line + 1) + span later
unfolding span
span-cons line later = refl

-- bytes are their lines and a part line without a newline, and what comes after them comes after the part
pub record Splits (front : List ℕ) (lines : List (List ℕ)) (part : List ℕ) : Type 0 where
  pub lines_are : (ended : Bool) (more : List ℕ) → lines_in ended (front ++ more) ≡ lines ++ lines_in ended (part ++ more)
  pub part_is : (ended : Bool) (more : List ℕ) → part_line ended (front ++ more) ≡ part_line ended (part ++ more)
  pub clean : newline_in part ≡ None
  pub size : length front ≡ span lines + length part

split-by : (n : ℕ) (front : List ℕ) (found : Option ℕ) → length front ≤ n → newline_in front ≡ found
    → ((rest : List ℕ) → length rest + 1 ≤ n → (lines : List (List ℕ)) × (part : List ℕ) × Splits rest lines part)
    → (lines : List (List ℕ)) × (part : List ℕ) × Splits front lines part
split-by n front None within is deeper = (
  [],
  front,
  record {
    lines_are = λ ended more. refl;
    part_is = λ ended more. refl;
    clean = is;
    size = omega (arith, span-nil);
  },
)
split-by n front (Some e) within is deeper =
    let at = found_at 10 e front (sym is) in
    let rest = drop (e + 1) front in
    let short = length-drop (e + 1) front in
    let more = deeper rest (let a = at.0 in let b = at.1 in omega (arith, a, b, short, within)) in
    let split = more.2 in (
      take e front ∷ more.0,
      more.1,
      record {
        lines_are = λ ended after. lines-cut ended e front after is
            ∙ ap (λ ls. take e front ∷ ls) (split.lines_are ended after);
        part_is = λ ended after. part-cut ended e front after is ∙ split.part_is ended after;
        clean = split.clean;
        size = (let a = at.0 in let b = at.1 in let s = split.size in let t = length-take e front in
            let c = span-cons (take e front) more.0 in omega (arith, a, b, s, t, c, short));
      },
    )

split-within : (n : ℕ) (front : List ℕ) → length front ≤ n
    → (lines : List (List ℕ)) × (part : List ℕ) × Splits front lines part
split-within zero front within = split-by 0 front (newline_in front) within refl (λ rest none. absurd (omega (arith, none)))
split-within (suc n) front within = split-by (suc n) front (newline_in front) within refl
    (λ rest short. split-within n rest (omega (arith, short)))

pub split : (front : List ℕ) → (lines : List (List ℕ)) × (part : List ℕ) × Splits front lines part
split front = split-within (length front) front (omega arith)

-- so its own lines are these
pub split-lines : (front : List ℕ) (lines : List (List ℕ)) (part : List ℕ) → Splits front lines part
    → lines_in false front ≡ lines
split-lines front lines part s =
    ap (lines_in false) (sym (append-nil front)) ∙ s.lines_are false []
    ∙ ap (λ p. lines ++ lines_in false p) (append-nil part)
    ∙ ap (λ ls. lines ++ ls) (no-line part s.clean) ∙ append-nil lines

pub split-part : (front : List ℕ) (lines : List (List ℕ)) (part : List ℕ) → Splits front lines part
    → part_line false front ≡ part
split-part front lines part s =
    ap (part_line false) (sym (append-nil front)) ∙ s.part_is false [] ∙ ap (part_line false) (append-nil part)
    ∙ only-part part s.clean
