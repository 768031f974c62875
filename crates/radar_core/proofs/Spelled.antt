-- A payload is read as the blocks that it spells, and as no others.
use Rattle.std.proofs.Common.{◌≡◌, ℕ, zero, suc, ◌+◌, ◌*◌, ◌/◌, ◌%◌, ◌^◌, ◌<◌, ◌≤◌, Bool, true, false, ◌==◌, nat_le, nat_lt, List, [], ◌∷◌, ◌++◌, length, take, drop, get_or, map, Ok, Err, refl, sym, ap, ◌∙◌, arith, inl, inr, ◌↔◌}
use Rattle.std.specs.Int.{bit_at}
use Rattle.std.specs.List.{All, Contains, flat_map, range_with_len}
use Rattle.std.specs.List.Sorted.{IsStrictlyIncreasing}
use Rattle.std.proofs.lemmas.Bool.{cond-true, cond-false, cases_Bool, cases_eq, cases_lt, eq-eqb, eqb-true, or_left, leb-false, ltb-false, lt-leb, le-ltb}
use Rattle.std.proofs.lemmas.List.{get_or_past, take_at, take-append-drop, length-append, length-drop, length-take-le}
use Rattle.std.proofs.lemmas.List.Elements.{All-nil, All-cons, All-head, All-tail, All-drop, filter_passes}
use Rattle.std.proofs.lemmas.List.Kept.{AllPairs-from_increasing, IsStrictlyIncreasing-filter}
use Rattle.std.proofs.lemmas.List.FromFn.{length-range_with_len, get_or-range_with_len}
use Rattle.std.proofs.lemmas.Option.{slice_get_within, get_or_from_slice_get}
use Rattle.std.proofs.lemmas.Nat.Bits.{bit_at-zero}
use Rattle.bit_fields.specs.Bits.{AreBytes, field_at}
use Rattle.radar_core.specs.declared.key.BlockKey.{BlockKey}
use Rattle.radar_core.specs.declared.run.Run.{Run}
use Rattle.radar_core.specs.declared.fault.RadarFault.TheVariants.{RunsNot128, HighEmpty, BadBitmap}
use Rattle.bit_fields.specs.Bits.{bit}
use Rattle.bit_fields.specs.BitsBack.{bit_of_test}
use Rattle.bit_fields.specs.BytesAsNumbers.{AreBytes-at}
use Rattle.radar_core.specs.Keys.{FitsKey, front_bytes, is_run_in, scale_in, key_in}
use Rattle.radar_core.specs.Runs.{FitsRun, run_byte, run_cells, run_in, cells_in}
use Rattle.radar_core.specs.Blanks.{bitmap_length, is_named, named_offsets}
use Rattle.radar_core.specs.Radar.{Block, radar_blocks, read_runs, read_bitmap, run_blocks, named_blocks, blank_block}
use Rattle.radar_core.specs.Spelling.{SpellsRuns, Names, base, further, SpellsBitmap, SpellsBlocks, of_runs, of_bitmap}
use Rattle.radar_core.proofs.FrontLemmas.{Front, has_front, key_in-three, is_run_in-three, key_of_three, is_short, is_bad_scale, is_run, is_bitmap}
use Rattle.radar_core.proofs.RankLemmas.{named_by, named_at_rank}
use Rattle.radar_core.proofs.BlankBack.{tail_rises}
use Rattle.radar_core.proofs.ReadBack.{cells_back, run_record_read, bitmap_record_read}

-- the front of a payload is spelled by the key that it is read as
three_back : (a b c flag south number : ℕ) → a < 256 → b < 256 → c < 256 → flag ≡ a / 128 → south ≡ a / 64 % 2 → number ≡ a % 16 * 65536 + b * 256 + c
    → (((0 + flag) * 2 + south) * 4 + a / 16 % 4) * 2 ^ 20 + number ≡ a * 65536 + b * 256 + c
three_back a b c flag south number p q r flag_is south_is number_is = omega arith

bytes_of : (a b c n : ℕ) → b < 256 → c < 256 → a < 256 → n ≡ a * 65536 + b * 256 + c → n / 2 ^ 16 % 256 ∷ n / 2 ^ 8 % 256 ∷ n % 256 ∷ [] ≡ a ∷ b ∷ c ∷ []
bytes_of a b c n q r p n_is =
    ap (λ m. m ∷ n / 2 ^ 8 % 256 ∷ n % 256 ∷ []) (omega arith) ∙ ap (λ m. a ∷ m ∷ n % 256 ∷ []) (omega arith) ∙ ap (λ m. a ∷ b ∷ m ∷ []) (omega arith)

front_of_three : (product a b c : ℕ) → a < 256 → b < 256 → c < 256 → front_bytes (a / 128 == 1) (key_of_three product a b c) ≡ a ∷ b ∷ c ∷ []
front_of_three product a b c p q r =
    bytes_of a b c ((((0 + bit (a / 128 == 1)) * 2 + bit (a / 64 % 2 == 1)) * 4 + a / 16 % 4) * 2 ^ 20 + (key_of_three product a b c).number) q r p
    (three_back a b c (bit (a / 128 == 1)) (bit (a / 64 % 2 == 1)) (key_of_three product a b c).number p q r
    (bit_of_test (a / 128) (omega arith)) (bit_of_test (a / 64 % 2) (omega arith)) (omega arith))

front_read : (product : ℕ) (p : List ℕ) (flag : Bool) → Front p → is_run_in p ≡ flag → p ≡ front_bytes flag (key_in product p) ++ drop 3 p
front_read product p flag has run =
    let a : ℕ = get_or p 0 0 in
    let b : ℕ = get_or p 1 0 in
    let c : ℕ = get_or p 2 0 in
    sym (take-append-drop 3 p)
    ∙ ap (λ (f : List ℕ). f ++ drop 3 p)
    (has.front ∙ sym (front_of_three product a b c has.first has.second has.third)
    ∙ ap (λ t. front_bytes t (key_of_three product a b c)) (sym (is_run_in-three p a b c has) ∙ run)
    ∙ ap (front_bytes flag) (sym (key_in-three product p a b c has)))

scale_fits : (n : ℕ) → n < 4 → (n ≡ 3 → ⊥) → n ≤ 2
scale_fits n small other = omega arith

key_fits : (product : ℕ) (p : List ℕ) → (scale_in p ≡ 3 → ⊥) → FitsKey (key_in product p)
key_fits product p good = record { scale = scale_fits (scale_in p) (omega arith) good; number = omega arith }

-- runs that are read
flat_map-map : (xs : List ℕ) → flat_map run_cells (map run_in xs) ≡ cells_in xs
flat_map-map [] = refl
flat_map-map (x ∷ xs) = ap (λ (b : List ℕ). run_cells (run_in x) ++ b) (flat_map-map xs)

run_byte-in : (byte : ℕ) → byte < 256 → run_byte (run_in byte) ≡ byte
run_byte-in byte fits = omega arith

run_bytes-in : (xs : List ℕ) → AreBytes xs → map run_byte (map run_in xs) ≡ xs
run_bytes-in [] are = refl
run_bytes-in (x ∷ xs) are =
    ap (λ n. n ∷ map run_byte (map run_in xs)) (run_byte-in x (All-head (λ n. n < 256) x xs are))
    ∙ ap (λ (b : List ℕ). x ∷ b) (run_bytes-in xs (All-tail (λ n. n < 256) x xs are))

runs_fit : (xs : List ℕ) → AreBytes xs → All FitsRun (map run_in xs)
runs_fit [] are = All-nil FitsRun
runs_fit (x ∷ xs) are =
    All-cons FitsRun (run_in x) (map run_in xs) (record { some = omega arith; length = omega arith; intensity = omega arith })
    (runs_fit xs (All-tail (λ n. n < 256) x xs are))

runs_spelled : (key : BlockKey) (rest payload : List ℕ) (blocks : List Block) → AreBytes rest → payload ≡ front_bytes true key ++ rest
    → read_runs key rest ≡ Ok blocks → SpellsRuns key payload blocks
runs_spelled key rest payload blocks are payload_is read =
    let test : Bool = length (cells_in rest) == 128 in
    elim (cases_Bool test) [
      | inl whole ↦
          let e = sym (cond-true test (Ok (run_blocks key rest)) (Err RunsNot128) whole) ∙ read in
          let same : run_blocks key rest ≡ blocks = cc in
          record {
            runs = map run_in rest;
            fit = runs_fit rest are;
            count = ap length (flat_map-map rest) ∙ eqb-true (length (cells_in rest)) 128 whole;
            bytes = payload_is ∙ ap (λ (b : List ℕ). front_bytes true key ++ b) (sym (run_bytes-in rest are));
            blocks_are = sym same ∙ ap (λ (b : List ℕ). (key, b) ∷ []) (sym (flat_map-map rest));
          }
      | inr other ↦ let e = sym (cond-false test (Ok (run_blocks key rest)) (Err RunsNot128) other) ∙ read in absurd (cc)
    ]

some_bytes : (runs : List Run) → length (flat_map run_cells runs) ≡ 128 → 1 ≤ length (map run_byte runs)
some_bytes [] count = absurd (omega arith)
some_bytes (run ∷ runs) count = omega arith

spelled_runs : (key : BlockKey) (payload : List ℕ) (blocks : List Block) → FitsKey key → SpellsRuns key payload blocks → radar_blocks key.product payload ≡ Ok blocks
spelled_runs key payload blocks fits spells =
    let body : List ℕ = map run_byte spells.runs in
    let back : cells_in body ≡ flat_map run_cells spells.runs = cells_back spells.runs spells.fit in
    ap (radar_blocks key.product) spells.bytes
    ∙ run_record_read key body fits (some_bytes spells.runs spells.count)
    ∙ cond-true (length (cells_in body) == 128) (Ok (run_blocks key body)) (Err RunsNot128) (eq-eqb (length (cells_in body)) 128 (ap length back ∙ spells.count))
    ∙ ap (λ (b : List ℕ). Ok ((key, b) ∷ [])) back ∙ ap (λ b. Ok b) (sym spells.blocks_are)

-- offsets that a bitmap names
inside_by : (bitmap : List ℕ) (place j : ℕ) → bit_at (get_or bitmap place 0) j ≡ 1 → place < length bitmap
inside_by bitmap place j set =
    elim (cases_lt place (length bitmap)) [
      | inl inside ↦ inside
      | inr past ↦ let none : bit_at (get_or bitmap place 0) j ≡ 0 = ap (λ n. bit_at n j) (get_or_past bitmap place 0 past) ∙ bit_at-zero j in absurd (omega (arith, none, set))
    ]

named_from : (bitmap : List ℕ) (offset : ℕ) → is_named bitmap offset ≡ true → Names bitmap offset
named_from bitmap offset named =
    elim (cases_eq offset 0) [
      | inl none ↦ base none
      | inr some ↦
          let place : ℕ = (offset + 3) / 8 in
          let j : ℕ = (offset + 3) % 8 in
          let set : bit_at (get_or bitmap place 0) j ≡ 1 =
          eqb-true (bit_at (get_or bitmap place 0) j) 1 (sym (named_by bitmap offset place j some refl refl) ∙ named)
          in
          further place j (inside_by bitmap place j set) (omega arith) (omega (arith, some)) (omega arith) set
    ]

named_to : (bitmap : List ℕ) (offset : ℕ) → Names bitmap offset → is_named bitmap offset ≡ true
named_to bitmap offset (base none) = or_left (offset == 0) _ (eq-eqb offset 0 none)
named_to bitmap offset (further place j inside small some at set) =
    named_by bitmap offset place j (λ none. absurd (omega (arith, none, some))) (omega arith) (omega arith) ∙ eq-eqb (bit_at (get_or bitmap place 0) j) 1 set

names_below : (bitmap : List ℕ) (offset : ℕ) → length bitmap < 16 → Names bitmap offset → offset < 117
names_below bitmap offset size (base none) = omega arith
names_below bitmap offset size (further place j inside small some at set) = omega arith

named_offsets-to : (bitmap : List ℕ) (offset : ℕ) → Contains (named_offsets bitmap) offset → Names bitmap offset
unfolding named_offsets
named_offsets-to bitmap offset found =
    named_from bitmap offset
    (ap (is_named bitmap) (sym found.2) ∙ filter_passes (is_named bitmap) (range_with_len 0 117) found.0 offset found.1)

named_offsets-from : (bitmap : List ℕ) (offset : ℕ) → length bitmap < 16 → Names bitmap offset → Contains (named_offsets bitmap) offset
named_offsets-from bitmap offset size names =
    let at = named_at_rank bitmap offset (names_below bitmap offset size names) (named_to bitmap offset names) in
    (_, slice_get_within (named_offsets bitmap) _ offset at, get_or_from_slice_get (named_offsets bitmap) _ offset offset at)

range_rises : (n : ℕ) → IsStrictlyIncreasing (range_with_len 0 n)
range_rises n k below =
    let size = length-range_with_len 0 n in
    let one = get_or-range_with_len 0 n k 0 (omega (arith, size)) in
    let other = get_or-range_with_len 0 n (k + 1) 0 (omega (arith, size)) in
    omega (arith, one, other)

named_offsets-rise : (bitmap : List ℕ) → IsStrictlyIncreasing (named_offsets bitmap)
unfolding named_offsets
named_offsets-rise bitmap = IsStrictlyIncreasing-filter (is_named bitmap) (range_with_len 0 117) (range_rises 117)

-- rising numbers are told by their members
behind_head : (x y : ℕ) (xs : List ℕ) → Contains (x ∷ xs) y → x < y → Contains xs y
behind_head x y xs (zero, below, at) above = absurd (omega (arith, at, above))
behind_head x y xs (suc k, below, at) above = (k, omega arith, at)

least_first : (x y : ℕ) (xs : List ℕ) → IsStrictlyIncreasing (x ∷ xs) → Contains (x ∷ xs) y → x ≤ y
least_first x y xs rises (zero, below, at) = omega (arith, at)
least_first x y xs rises (suc k, below, at) =
    let up : x < get_or xs k y = AllPairs-from_increasing (x ∷ xs) rises 0 (suc k) y (omega arith) below in omega (arith, up, at)

above_first : (x y : ℕ) (xs : List ℕ) → IsStrictlyIncreasing (x ∷ xs) → Contains xs y → x < y
above_first x y xs rises (k, below, at) =
    let up : x < get_or xs k y = AllPairs-from_increasing (x ∷ xs) rises 0 (suc k) y (omega arith) (omega arith) in omega (arith, up, at)

none_in : (x : ℕ) → Contains [] x → ⊥
none_in x (k, below, at) = absurd (omega (arith, below))

in_tail : (x y : ℕ) (xs : List ℕ) → Contains xs y → Contains (x ∷ xs) y
in_tail x y xs (k, below, at) = (suc k, omega arith, at)

same_members : (xs ys : List ℕ) → IsStrictlyIncreasing xs → IsStrictlyIncreasing ys → ((z : ℕ) → Contains xs z → Contains ys z)
    → ((z : ℕ) → Contains ys z → Contains xs z) → xs ≡ ys
same_members [] [] p q to from = refl
same_members [] (y ∷ ys) p q to from = absurd (none_in y (from y (0, omega arith, refl)))
same_members (x ∷ xs) [] p q to from = absurd (none_in x (to x (0, omega arith, refl)))
same_members (x ∷ xs) (y ∷ ys) p q to from =
    let low = least_first y x ys q (to x (0, omega arith, refl)) in
    let high = least_first x y xs p (from y (0, omega arith, refl)) in
    let same : x ≡ y = omega (arith, low, high) in
    let rest : xs ≡ ys =
    same_members xs ys (tail_rises x xs p) (tail_rises y ys q)
    (λ z found. let above = above_first x z xs p found in behind_head y z ys (to z (in_tail x z xs found)) (omega (arith, above, same)))
    (λ z found. let above = above_first y z ys q found in behind_head x z xs (from z (in_tail y z ys found)) (omega (arith, above, same)))
    in
    ap (λ n. n ∷ xs) same ∙ ap (λ (b : List ℕ). y ∷ b) rest

-- a bitmap that is read
first_byte : (rest : List ℕ) (size : ℕ) → 1 ≤ length rest → size ≡ bitmap_length rest → take 1 rest ≡ ((0 * 2 ^ 4 + get_or rest 0 0 / 16) * 2 ^ 4 + size) ∷ []
first_byte [] size some size_is = absurd (omega arith)
first_byte (x ∷ rest) size some size_is = ap (λ n. n ∷ []) (omega (arith, size_is))

low_four : (high size : ℕ) → size < 16 → field_at (((0 * 2 ^ 4 + high) * 2 ^ 4 + size) ∷ []) 4 4 ≡ size
low_four high size small = omega arith

some_first : (rest : List ℕ) (x : ℕ) → take 1 rest ≡ x ∷ [] → 1 ≤ length rest
some_first [] x first = absurd (cc)
some_first (y ∷ rest) x first = omega arith

bitmap_spelled : (key : BlockKey) (rest payload : List ℕ) (blocks : List Block) → AreBytes rest → 1 ≤ length rest → payload ≡ front_bytes false key ++ rest
    → read_bitmap key rest ≡ Ok blocks → SpellsBitmap key payload blocks
bitmap_spelled key rest payload blocks are some payload_is read =
    let size : ℕ = bitmap_length rest in
    let high_test : Bool = nat_le 405000 key.number in
    let short_test : Bool = nat_lt (length rest) size in
    let blocks_read : List Block = named_blocks key (take size rest) in
    elim (cases_Bool high_test) [
      | inl high ↦ let e = sym (cond-true high_test (Err HighEmpty) _ high) ∙ read in absurd (cc)
      | inr low ↦
          let e = sym (cond-false high_test (Err HighEmpty) _ low) ∙ read in
          elim (cases_Bool short_test) [
            | inl cut ↦ let f = sym (cond-true short_test (Err BadBitmap) (Ok blocks_read) cut) ∙ e in absurd (cc)
            | inr whole ↦
                let f = sym (cond-false short_test (Err BadBitmap) (Ok blocks_read) whole) ∙ e in
                let same : blocks_read ≡ blocks = cc in
                let all = take-append-drop size rest in
                let long : size ≤ length rest = ltb-false (length rest) size whole in
                let length_is : length (take size rest) ≡ size = length-take-le size rest long in
                let small : size < 16 = omega arith in
                record {
                  ring = leb-false 405000 key.number low;
                  bitmap = take size rest;
                  others = drop size rest;
                  high = get_or rest 0 0 / 16;
                  size = omega (arith, length_is, small);
                  first = ap (take 1) all ∙ first_byte rest (length (take size rest)) some length_is;
                  bytes = payload_is ∙ ap (λ (b : List ℕ). front_bytes false key ++ b) (sym all);
                  offsets = named_offsets (take size rest);
                  rise = named_offsets-rise (take size rest);
                  exactly = λ offset. (named_offsets-to (take size rest) offset, named_offsets-from (take size rest) offset (omega (arith, length_is, small)));
                  blocks_are = sym same;
                }
          ]
    ]

spelled_bitmap : (key : BlockKey) (payload : List ℕ) (blocks : List Block) → FitsKey key → SpellsBitmap key payload blocks → radar_blocks key.product payload ≡ Ok blocks
spelled_bitmap key payload blocks fits spells =
    let rest : List ℕ = spells.bitmap ++ spells.others in
    let size_is : bitmap_length rest ≡ length spells.bitmap = ap (λ (b : List ℕ). field_at b 4 4) spells.first ∙ low_four spells.high (length spells.bitmap) spells.size in
    let sizes = length-append spells.bitmap spells.others in
    let offsets : named_offsets spells.bitmap ≡ spells.offsets =
    same_members (named_offsets spells.bitmap) spells.offsets (named_offsets-rise spells.bitmap) spells.rise
    (λ z found. (spells.exactly z).1 (named_offsets-to spells.bitmap z found))
    (λ z found. named_offsets-from spells.bitmap z spells.size ((spells.exactly z).0 found))
    in
    ap (radar_blocks key.product) spells.bytes ∙ bitmap_record_read key rest fits (some_first rest _ spells.first)
    ∙ cond-false _ _ _ (lt-leb 405000 key.number spells.ring)
    ∙ cond-false _ _ _ (le-ltb (length rest) (bitmap_length rest) (omega (arith, size_is, sizes)))
    ∙ ap (λ n. Ok (named_blocks key (take n rest))) size_is
    ∙ ap (λ (b : List ℕ). Ok (named_blocks key b)) (take_at spells.bitmap spells.others (length spells.bitmap) refl)
    ∙ ap (λ (b : List ℕ). Ok (map (blank_block key) b)) offsets ∙ ap (λ b. Ok b) (sym spells.blocks_are)

-- the way there
spelled : (product : ℕ) (p : List ℕ) (blocks : List Block) → AreBytes p → radar_blocks product p ≡ Ok blocks → SpellsBlocks product p blocks
spelled product p blocks are read =
    elim (cases_lt (length p) 4) [
      | inl few ↦ let e = sym (is_short product p few) ∙ read in absurd (cc)
      | inr enough ↦
          elim (cases_eq (scale_in p) 3) [
            | inl bad ↦ let e = sym (is_bad_scale product p enough bad) ∙ read in absurd (cc)
            | inr good ↦
                let has : Front p = has_front p enough (AreBytes-at p are) in
                let size = length-drop 3 p in
                let rest_are : AreBytes (drop 3 p) = All-drop (λ n. n < 256) 3 p are in
                elim (cases_Bool (is_run_in p)) [
                  | inl run ↦
                      of_runs (key_in product p) (key_fits product p good) refl
                      (runs_spelled (key_in product p) (drop 3 p) p blocks rest_are (front_read product p true has run) (sym (is_run product p enough good run) ∙ read))
                  | inr other ↦
                      of_bitmap (key_in product p) (key_fits product p good) refl
                      (bitmap_spelled (key_in product p) (drop 3 p) p blocks rest_are (omega (arith, size)) (front_read product p false has other)
                      (sym (is_bitmap product p enough good other) ∙ read))
                ]
          ]
    ]

spells : (product : ℕ) (p : List ℕ) (blocks : List Block) → SpellsBlocks product p blocks → radar_blocks product p ≡ Ok blocks
spells product p blocks (of_runs key fits product_is how) =
    ap (λ n. radar_blocks n p) (sym product_is) ∙ spelled_runs key p blocks fits how
spells product p blocks (of_bitmap key fits product_is how) =
    ap (λ n. radar_blocks n p) (sym product_is) ∙ spelled_bitmap key p blocks fits how

pub blocks_are_spelled : (product : ℕ) (p : List ℕ) (blocks : List Block) → AreBytes p → (radar_blocks product p ≡ Ok blocks) ↔ SpellsBlocks product p blocks
blocks_are_spelled product p blocks are = (spelled product p blocks are, spells product p blocks)
