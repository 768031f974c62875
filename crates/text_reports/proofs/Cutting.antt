-- Blanks at the front of a text, and the word in front of a blank.
use Rattle.std.proofs.Common.{◌≡◌, ℕ, zero, suc, ◌<◌, ◌≤◌, nat_lt, Bool, true, false, ◌==◌, List, [], ◌∷◌, length, get_or, take, drop, filter, refl, arith, inl, inr, add-one, length-take}
use Rattle.std.proofs.lemmas.Bool.{or_cases, eqb-true, lt-ltb}
use Rattle.std.specs.List.{slice_split}
use Rattle.std.specs.Str.{IsUtf8, IsCharBoundary}
use Rattle.std.proofs.lemmas.Str.{IsCharBoundary-start, IsCharBoundary-after_ascii}
use Rattle.text_reports.specs.TextKey.{is_blank, words_of}

blank_is_ascii : (c : ℕ) → is_blank c ≡ true → c < 128
blank_is_ascii c h = elim (or_cases (c == 32) (c == 10) h) [ inl a ↦ omega (arith, eqb-true c 32 a) | inr b ↦ omega (arith, eqb-true c 10 b) ]

-- the first n bytes are blank, or none of them is
abbrev pub AllBlank : List ℕ → ℕ → Bool → Type 0
AllBlank text n blank = (k : ℕ) → k < n → is_blank (get_or text k 0) ≡ blank

-- blanks at the front make no word
pub words_behind_blanks : (text : List ℕ) (n : ℕ) → AllBlank text n true → words_of (drop n text) ≡ words_of text
words_behind_blanks text zero h = refl
words_behind_blanks [] (suc n) h = refl
words_behind_blanks (c ∷ cs) (suc n) h =
    let here : is_blank c ≡ true = h 0 (omega arith) in
    rw here (words_behind_blanks cs n (λ k below. h (suc k) (omega arith)))

-- a text may be cut behind blanks, and before one
pub cut_behind_blanks : (text : List ℕ) (n : ℕ) → IsUtf8 text → n ≤ length text → AllBlank text n true → IsCharBoundary text n
cut_behind_blanks text zero utf8 within h = IsCharBoundary-start text utf8
cut_behind_blanks text (suc n) utf8 within h =
    rw (← add-one n) (IsCharBoundary-after_ascii text n utf8 (omega arith) (blank_is_ascii (get_or text n 0) (h n (omega arith))))

abbrev words_with_letters : List (List ℕ) → List (List ℕ)
words_with_letters parts = filter (λ word. nat_lt 0 (length word)) parts

-- the parts of a text whose first n bytes are not blank, and the next is or there is none: those bytes and more, of which the
-- words are those of the rest
parts_before_blank : (text : List ℕ) (n : ℕ) → n ≤ length text → AllBlank text n false → (n < length text → is_blank (get_or text n 0) ≡ true)
    → (more : List (List ℕ)) × (slice_split is_blank text ≡ take n text ∷ more) × (words_with_letters (slice_split is_blank (drop n text)) ≡ words_with_letters more)
parts_before_blank [] zero within h stop = ([], refl, refl)
parts_before_blank [] (suc n) within h stop = absurd (omega arith)
parts_before_blank (c ∷ cs) zero within h stop =
    let here : is_blank c ≡ true = stop (omega arith) in
    (slice_split is_blank cs, rw here, rw here)
parts_before_blank (c ∷ cs) (suc n) within h stop =
    let here : is_blank c ≡ false = h 0 (omega arith) in
    let (more, split, rest) = parts_before_blank cs n (omega arith) (λ k below. h (suc k) (omega arith)) (λ below. stop (omega arith)) in
    (more, rw (here, split), rest)

pub words_of_cut : (text : List ℕ) (n : ℕ) → 0 < n → n ≤ length text → AllBlank text n false → (n < length text → is_blank (get_or text n 0) ≡ true)
    → words_of text ≡ take n text ∷ words_of (drop n text)
words_of_cut text n some within h stop =
    let (more, split, rest) = parts_before_blank text n within h stop in
    let long : nat_lt 0 (length (take n text)) ≡ true = lt-ltb 0 (length (take n text)) (omega (arith, length-take n text)) in
    rw (split, long, rest)
