-- The cells that the bytes of a run record spell.
use Rattle.std.proofs.Common.{◌≡◌, ℕ, ◌+◌, ◌-◌, ◌/◌, ◌%◌, ◌<◌, ◌≤◌, List, [], ◌∷◌, ◌++◌, length, take, drop, replicate, get_or, sym, ap, subst, ◌∙◌, arith, append_assoc}
use Rattle.std.specs.List.{All}
use Rattle.std.proofs.lemmas.List.{append-nil, length-append, length-replicate, length-take-le, take_more, take_at, take-append-drop, replicate-append-replicate}
use Rattle.std.proofs.lemmas.List.Elements.{All-append, All-replicate, All-take, All-drop}
use Rattle.std.proofs.lemmas.Grind.{flat_map-append}
use Rattle.bit_fields.specs.Bits.{field_at}
use Rattle.radar_core.specs.Runs.{run_cells, run_in, cells_in}

-- the fields of a byte
pub length_field : (byte : ℕ) → byte < 256 → field_at (byte ∷ []) 0 5 ≡ byte / 8
length_field byte fits = omega arith

pub intensity_field : (byte : ℕ) → field_at (byte ∷ []) 5 3 ≡ byte % 8
intensity_field byte = omega arith

pub run_cells-byte : (byte : ℕ) → byte < 256 → run_cells (run_in byte) ≡ replicate (byte / 8 + 1) (byte % 8)
run_cells-byte byte fits =
    ap (λ n. replicate (n + 1) (field_at (byte ∷ []) 5 3)) (length_field byte fits)
    ∙ ap (λ cell. replicate (byte / 8 + 1) cell) (intensity_field byte)

pub cells_in-append : (xs ys : List ℕ) → cells_in (xs ++ ys) ≡ cells_in xs ++ cells_in ys
cells_in-append xs ys = flat_map-append (λ byte. run_cells (run_in byte)) xs ys

-- one run more
pub cells_in-more :
    (bytes : List ℕ) (i : ℕ) → i < length bytes → get_or bytes i 0 < 256 →
    cells_in (take (i + 1) bytes) ≡ cells_in (take i bytes) ++ replicate (get_or bytes i 0 / 8 + 1) (get_or bytes i 0 % 8)
cells_in-more bytes i inside fits =
    ap cells_in (take_more bytes i 0 inside) ∙ cells_in-append (take i bytes) (get_or bytes i 0 ∷ [])
    ∙ ap (λ (b : List ℕ). cells_in (take i bytes) ++ b)
    (append-nil (run_cells (run_in (get_or bytes i 0))) ∙ run_cells-byte (get_or bytes i 0) fits)

pub length-cells_in-more :
    (bytes : List ℕ) (i : ℕ) → i < length bytes → get_or bytes i 0 < 256 →
    length (cells_in (take (i + 1) bytes)) ≡ length (cells_in (take i bytes)) + (get_or bytes i 0 / 8 + 1)
length-cells_in-more bytes i inside fits =
    ap length (cells_in-more bytes i inside fits)
    ∙ length-append (cells_in (take i bytes)) (replicate (get_or bytes i 0 / 8 + 1) (get_or bytes i 0 % 8))
    ∙ ap (λ n. length (cells_in (take i bytes)) + n) (length-replicate (get_or bytes i 0 / 8 + 1) (get_or bytes i 0 % 8))

-- some of the runs have no more cells than all
pub length-cells_in-take : (bytes : List ℕ) (i : ℕ) → length (cells_in (take i bytes)) ≤ length (cells_in bytes)
length-cells_in-take bytes i =
    let all : length (cells_in bytes) ≡ length (cells_in (take i bytes)) + length (cells_in (drop i bytes)) =
    ap (λ (b : List ℕ). length (cells_in b)) (sym (take-append-drop i bytes))
    ∙ ap length (cells_in-append (take i bytes) (drop i bytes))
    ∙ length-append (cells_in (take i bytes)) (cells_in (drop i bytes))
    in
    omega arith

-- each run has a cell at least
pub length-cells_in-least : (bytes : List ℕ) → length bytes ≤ length (cells_in bytes)
length-cells_in-least [] = omega arith
length-cells_in-least (byte ∷ bytes) =
    let rest = length-cells_in-least bytes in
    let n : ℕ = field_at (byte ∷ []) 0 5 + 1 in
    omega
    (arith, length-append (replicate n (field_at (byte ∷ []) 5 3)) (cells_in bytes), length-replicate n (field_at (byte ∷ []) 5 3))

-- runs that are written one after another
pub record IsPut (bytes new : List ℕ) (i used : ℕ) : Type 0 where
  pub cells : take used new ≡ cells_in (take i bytes)
  pub small : All (λ cell. cell < 8) new
  pub used_is : used ≡ length (cells_in (take i bytes))
  pub whole : length new ≡ 160

-- the front of what is written where a run begins that is as long as a run can be
front_of_longest :
    (old rest : List ℕ) (used n cell : ℕ) → used ≤ length old → n ≤ 32 →
    take (used + n) (take used old ++ (replicate 32 cell ++ rest)) ≡ take used old ++ replicate n cell
front_of_longest old rest used n cell within short =
    let whole : n + (32 - n) ≡ 32 = omega arith in
    let longer : replicate n cell ++ replicate (32 - n) cell ≡ replicate 32 cell =
    replicate-append-replicate n (32 - n) cell ∙ ap (λ k. replicate k cell) whole
    in
    let front : length (take used old ++ replicate n cell) ≡ used + n =
    length-append (take used old) (replicate n cell) ∙ omega (arith, length-take-le used old within, length-replicate n cell)
    in
    ap (λ (b : List ℕ). take (used + n) (take used old ++ (b ++ rest))) (sym longer)
    ∙ ap (λ (b : List ℕ). take (used + n) (take used old ++ b)) (append_assoc (replicate n cell) (replicate (32 - n) cell) rest)
    ∙ ap (take (used + n)) (sym (append_assoc (take used old) (replicate n cell) (replicate (32 - n) cell ++ rest)))
    ∙ take_at (take used old ++ replicate n cell) (replicate (32 - n) cell ++ rest) (used + n) front

-- one run more, over what is too much of the one before it
pub put_more :
    (bytes old new : List ℕ) (i used n : ℕ) → n ≡ get_or bytes i 0 / 8 + 1 → i < length bytes → get_or bytes i 0 < 256 →
    length (cells_in bytes) ≡ 128 → length new ≡ 160 → IsPut bytes old i used →
    new ≡ take used old ++ (replicate 32 (get_or bytes i 0 % 8) ++ drop (used + 32) old) → IsPut bytes new (i + 1) (used + n)
put_more bytes old new i used n n_is inside fits all long put new_is =
    let within : used ≤ length old = omega (arith, put.whole, put.used_is, length-cells_in-take bytes i) in
    let cell : ℕ = get_or bytes i 0 % 8 in
    let rest : List ℕ = drop (used + 32) old in
    record {
      cells =
          ap (take (used + n)) new_is ∙ front_of_longest old rest used n cell within (omega arith)
          ∙ ap (λ (b : List ℕ). b ++ replicate n cell) put.cells
          ∙ ap (λ k. cells_in (take i bytes) ++ replicate k cell) n_is ∙ sym (cells_in-more bytes i inside fits);
      small =
          subst (λ (b : List ℕ). All (λ cell. cell < 8) b) (sym new_is)
          (All-append (λ cell. cell < 8) (take used old) (replicate 32 cell ++ rest) (All-take (λ cell. cell < 8) used old put.small)
          (All-append (λ cell. cell < 8) (replicate 32 cell) rest (All-replicate (λ cell. cell < 8) 32 cell (omega arith))
          (All-drop (λ cell. cell < 8) (used + 32) old put.small)));
      used_is = sym (length-cells_in-more bytes i inside fits ∙ omega (arith, n_is, put.used_is));
      whole = long;
    }
