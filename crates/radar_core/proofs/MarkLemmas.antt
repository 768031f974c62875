-- The bits of a bitmap while it is written.
use Rattle.std.proofs.Common.{◌≡◌, ℕ, zero, suc, ◌+◌, ◌-◌, ◌*◌, ◌<◌, ◌≤◌, Bool, true, false, ◌==◌, ◌||◌, List, [], ◌∷◌, ◌++◌, length, take, drop, get_or, set, map, replicate, refl, sym, ap, ◌∙◌, arith, inl, inr, append_assoc}
use Rattle.std.specs.List.{list_any, range_with_len}
use Rattle.std.proofs.lemmas.Bool.{cases_eq, eq-eqb, ne_eqb, or_right}
use Rattle.std.proofs.lemmas.List.{take_more, take_more_set, length-set, length-replicate, get_or-set_same, get_or-set_other, drop-set-lt}
use Rattle.std.proofs.lemmas.List.Folds.{list_any-append}
use Rattle.std.proofs.lemmas.List.Kept.{AllPairs-from_increasing}
use Rattle.std.proofs.lemmas.List.FromFn.{map-range_with_len_more}
use Rattle.bit_fields.specs.Bits.{bit}
use Rattle.radar_core.specs.Blanks.{IsGroup, bitmap_byte, first_bitmap_byte, length_for, bitmap_of}
use Rattle.radar_core.specs.Marks.{is_marked, four_bits, bit_of}

-- the numbers of a group are above its base, and near it
pub above_base : (base : ℕ) (further : List ℕ) (i : ℕ) → IsGroup base further → i < length further → base < get_or further i 0
above_base base further i group inside = AllPairs-from_increasing (base ∷ further) group.rises 0 (suc i) 0 (omega arith) (omega arith)

pub near_base : (base : ℕ) (further : List ℕ) (i : ℕ) → IsGroup base further → i < length further → get_or further i 0 ≤ base + 116
near_base base further i group inside = group.near i 0 inside

-- the marks of some numbers
pub record AreMarks (base : ℕ) (further : List ℕ) (marks : List Bool) : Type 0 where
  pub size : length marks ≡ 120
  pub are : (bit : ℕ) → bit < 120 → get_or marks bit false ≡ is_marked base further bit

unset : (n k : ℕ) → get_or (replicate n false) k false ≡ false
unset zero k = refl
unset (suc n) zero = refl
unset (suc n) (suc k) = unset n k

pub marks-none : (base : ℕ) (marks : List Bool) → marks ≡ replicate 120 false → AreMarks base [] marks
marks-none base marks none =
    record { size = ap length none ∙ length-replicate 120 false; are = λ k below. ap (λ (b : List Bool). get_or b k false) none ∙ unset 120 k }

or_false : (b : Bool) → (b || (false || false)) ≡ b
or_false true = refl
or_false false = refl

is_marked-more : (base : ℕ) (further : List ℕ) (i k : ℕ) → i < length further
    → is_marked base (take (i + 1) further) k ≡ (is_marked base (take i further) k || ((get_or further i 0 + 3 == base + k) || false))
is_marked-more base further i k inside =
    ap (λ (b : List ℕ). is_marked base b k) (take_more further i 0 inside)
    ∙ list_any-append (λ number. number + 3 == base + k) (take i further) (get_or further i 0 ∷ [])

pub marks-more :
    (base : ℕ) (further : List ℕ) (marks : List Bool) (i : ℕ) → AreMarks base (take i further) marks → IsGroup base further →
    i < length further → AreMarks base (take (i + 1) further) (set marks (get_or further i 0 - base + 3) true)
marks-more base further marks i old group inside =
    let number : ℕ = get_or further i 0 in
    let place : ℕ = number - base + 3 in
    let above = above_base base further i group inside in
    let near = near_base base further i group inside in
    record {
      size = length-set marks place true ∙ old.size;
      are = λ k below. elim (cases_eq k place) [
        | inl same ↦
            ap (λ n. get_or (set marks place true) n false) same ∙ get_or-set_same marks place true false (omega (arith, old.size))
            ∙ sym
            (is_marked-more base further i k inside
            ∙ or_right (is_marked base (take i further) k) ((number + 3 == base + k) || false)
            (ap (λ b. b || false) (eq-eqb (number + 3) (base + k) (omega arith))))
        | inr other ↦
            get_or-set_other marks place k true false other ∙ old.are k below
            ∙ sym
            (is_marked-more base further i k inside
            ∙ ap (λ b. is_marked base (take i further) k || (b || false)) (ne_eqb (number + 3) (base + k) (λ e. other (omega arith)))
            ∙ or_false (is_marked base (take i further) k))
      ];
    }

-- the mark of an offset
same_test : (base number k offset : ℕ) → offset + 3 ≡ k → (number + 3 == base + k) ≡ (number == base + offset)
same_test base number k offset e =
    elim (cases_eq number (base + offset)) [
      | inl same ↦ eq-eqb (number + 3) (base + k) (omega arith) ∙ sym (eq-eqb number (base + offset) same)
      | inr other ↦ ne_eqb (number + 3) (base + k) (λ f. other (omega arith)) ∙ sym (ne_eqb number (base + offset) other)
    ]

is_marked-offset : (base : ℕ) (further : List ℕ) (k offset : ℕ) → offset + 3 ≡ k
    → is_marked base further k ≡ list_any (λ number. number == base + offset) further
is_marked-offset base [] k offset e = refl
is_marked-offset base (number ∷ further) k offset e =
    ap (λ b. b || is_marked base further k) (same_test base number k offset e)
    ∙ ap (λ b. (number == base + offset) || b) (is_marked-offset base further k offset e)

mark_at : (base : ℕ) (further : List ℕ) (marks : List Bool) (k offset : ℕ) → AreMarks base further marks → k < 120 → offset + 3 ≡ k
    → bit_of marks k ≡ bit (list_any (λ number. number == base + offset) further)
mark_at base further marks k offset are below e = ap bit (are.are k below ∙ is_marked-offset base further k offset e)

pub bitmap_byte-marks : (base : ℕ) (further : List ℕ) (marks : List Bool) (place : ℕ) → AreMarks base further marks → 1 ≤ place → place < 15
    → 16 * four_bits marks (8 * place + 4) + four_bits marks (8 * place) ≡ bitmap_byte base further place
bitmap_byte-marks base further marks place are least most =
    let low : ℕ = 8 * place - 3 in
    let a = mark_at base further marks (8 * place) low are (omega arith) (omega arith) in
    let b = mark_at base further marks (8 * place + 1) (low + 1) are (omega arith) (omega arith) in
    let c = mark_at base further marks (8 * place + 2) (low + 2) are (omega arith) (omega arith) in
    let d = mark_at base further marks (8 * place + 3) (low + 3) are (omega arith) (omega arith) in
    let e = mark_at base further marks (8 * place + 4) (low + 4) are (omega arith) (omega arith) in
    let f = mark_at base further marks (8 * place + 4 + 1) (low + 5) are (omega arith) (omega arith) in
    let g = mark_at base further marks (8 * place + 4 + 2) (low + 6) are (omega arith) (omega arith) in
    let h = mark_at base further marks (8 * place + 4 + 3) (low + 7) are (omega arith) (omega arith) in
    omega (arith, a, b, c, d, e, f, g, h)

pub first_bitmap_byte-marks : (base : ℕ) (further : List ℕ) (marks : List Bool) → AreMarks base further marks
    → 16 * four_bits marks 4 + length_for base further ≡ first_bitmap_byte base further
first_bitmap_byte-marks base further marks are =
    let a = mark_at base further marks 4 1 are (omega arith) refl in
    let b = mark_at base further marks (4 + 1) 2 are (omega arith) refl in
    let c = mark_at base further marks (4 + 2) 3 are (omega arith) refl in
    let d = mark_at base further marks (4 + 3) 4 are (omega arith) refl in
    omega (arith, a, b, c, d)

-- the bitmap, written so far
pub bytes_so_far : ℕ → List ℕ → ℕ → List ℕ
bytes_so_far base further place = first_bitmap_byte base further ∷ map (bitmap_byte base further) (range_with_len 1 (place - 1))

pub record IsWritten (base : ℕ) (further old room : List ℕ) (place whole : ℕ) : Type 0 where
  pub bytes : take (3 + place) room ≡ take 3 old ++ bytes_so_far base further place
  pub rest : drop (3 + whole) room ≡ drop (3 + whole) old
  pub size : length room ≡ 18

pub written-first : (base : ℕ) (further old : List ℕ) (byte whole : ℕ) → length old ≡ 18 → 1 ≤ whole → byte ≡ first_bitmap_byte base further
    → IsWritten base further old (set old 3 byte) 1 whole
unfolding bytes_so_far
written-first base further old byte whole size some byte_is =
    record {
      bytes = take_more_set old 3 byte (omega arith) ∙ ap (λ b. take 3 old ++ b ∷ []) byte_is;
      rest = drop-set-lt (3 + whole) old 3 byte (omega arith);
      size = length-set old 3 byte ∙ size;
    }

pub written-more : (base : ℕ) (further old room : List ℕ) (byte place whole : ℕ) → IsWritten base further old room place whole → 1 ≤ place
    → place < whole → whole ≤ 15 → byte ≡ bitmap_byte base further place → IsWritten base further old (set room (3 + place) byte) (place + 1) whole
unfolding bytes_so_far
written-more base further old room byte place whole so_far least inside most byte_is =
    let next : 3 + (place + 1) ≡ 3 + place + 1 = omega arith in
    let one_more : place + 1 - 1 ≡ (place - 1) + 1 = omega arith in
    let f : ℕ → ℕ = bitmap_byte base further in
    record {
      bytes =
          ap (λ n. take n (set room (3 + place) byte)) next
          ∙ take_more_set room (3 + place) byte (omega (arith, so_far.size))
          ∙ ap (λ (b : List ℕ). b ++ byte ∷ []) so_far.bytes
          ∙ append_assoc (take 3 old) (bytes_so_far base further place) (byte ∷ [])
          ∙ ap (λ (b : List ℕ). take 3 old ++ (first_bitmap_byte base further ∷ b))
          (ap (λ b. map f (range_with_len 1 (place - 1)) ++ b ∷ []) byte_is
          ∙ sym (ap (λ n. map f (range_with_len 1 n)) one_more ∙ map-range_with_len_more f 1 (place - 1) place (omega arith)));
      rest = drop-set-lt (3 + whole) room (3 + place) byte (omega arith) ∙ so_far.rest;
      size = length-set room (3 + place) byte ∙ so_far.size;
    }

-- the last number of a group
pub record IsLast (base last : ℕ) : Type 0 where
  pub least : base ≤ last
  pub most : last ≤ base + 116

pub last-of_group : (base : ℕ) (further : List ℕ) → IsGroup base further → IsLast base (get_or (base ∷ further) (length further) 0)
last-of_group base [] group = record { least = omega arith; most = omega arith }
last-of_group base (number ∷ further) group =
    let above = above_base base (number ∷ further) (length further) group (omega arith) in
    let near = near_base base (number ∷ further) (length further) group (omega arith) in
    record { least = omega (arith, above); most = omega (arith, near) }

-- what the code asks while it writes
pub first_by : (base : ℕ) (further old : List ℕ) (marks : List Bool) (high whole : ℕ) → AreMarks base further marks → length old ≡ 18 → 1 ≤ whole
    → high ≡ four_bits marks 4 → whole ≡ length_for base further → IsWritten base further old (set old 3 (16 * high + whole)) 1 whole
first_by base further old marks high whole are size some high_is whole_is =
    written-first base further old (16 * high + whole) whole size some
    (ap (λ n. 16 * n + whole) high_is ∙ ap (λ n. 16 * four_bits marks 4 + n) whole_is ∙ first_bitmap_byte-marks base further marks are)

pub more_by : (base : ℕ) (further old room : List ℕ) (marks : List Bool) (high low place whole : ℕ) → AreMarks base further marks
    → IsWritten base further old room place whole → 1 ≤ place → place < whole → whole ≤ 15 → high ≡ four_bits marks (8 * place + 4)
    → low ≡ four_bits marks (8 * place) → IsWritten base further old (set room (3 + place) (16 * high + low)) (place + 1) whole
more_by base further old room marks high low place whole are so_far least inside most high_is low_is =
    written-more base further old room (16 * high + low) place whole so_far least inside most
    (ap (λ n. 16 * n + low) high_is ∙ ap (λ n. 16 * four_bits marks (8 * place + 4) + n) low_is
    ∙ bitmap_byte-marks base further marks place are least (omega arith))

pub marks_by : (base : ℕ) (further : List ℕ) (marks : List Bool) → length marks ≡ 120
    → ((k : ℕ) → k < length marks → get_or marks k false ≡ is_marked base further k) → AreMarks base further marks
marks_by base further marks size are = record { size = size; are = λ k below. are k (omega arith) }

pub all_by : (base : ℕ) (further old room : List ℕ) (place whole : ℕ) → IsWritten base further old room place whole → place ≡ whole
    → whole ≡ length_for base further → take (3 + whole) room ≡ take 3 old ++ bitmap_of base further
unfolding bytes_so_far
all_by base further old room place whole so_far end whole_is =
    ap (λ n. take (3 + n) room) (sym end) ∙ so_far.bytes
    ∙ ap (λ n. take 3 old ++ (first_bitmap_byte base further ∷ map (bitmap_byte base further) (range_with_len 1 (n - 1)))) (end ∙ whole_is)
