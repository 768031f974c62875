-- The front of a payload, and the way to its blocks.
use Rattle.std.proofs.Common.{◌≡◌, ℕ, ◌/◌, ◌%◌, ◌<◌, ◌≤◌, true, false, ◌==◌, List, [], ◌∷◌, length, take, drop, get_or, Err, sym, ap, ◌∙◌, arith}
use Rattle.std.specs.Int.{w32, from_be_bytes}
use Rattle.std.proofs.lemmas.Bool.{cond-true, cond-false, lt-ltb, le-ltb, eq-eqb, ne_eqb}
use Rattle.bit_fields.specs.Bits.{field_at}
use Rattle.list_members.specs.Places.{take-by_place}
use Rattle.radar_core.specs.declared.key.BlockKey.{BlockKey}
use Rattle.radar_core.specs.declared.fault.RadarFault.TheVariants.{Short, BadScale}
use Rattle.radar_core.specs.Keys.{is_run_in, scale_in, key_in}
use Rattle.radar_core.specs.Radar.{radar_blocks, read_runs, read_bitmap}

pub first_three : (p : List ℕ) → 3 ≤ length p → take 3 p ≡ get_or p 0 0 ∷ get_or p 1 0 ∷ get_or p 2 0 ∷ []
first_three p enough = take-by_place 3 p enough

-- the fields of three bytes
flag_of : (a b c : ℕ) → a < 256 → b < 256 → c < 256 → field_at (a ∷ b ∷ c ∷ []) 0 1 ≡ a / 128
flag_of a b c p q r = omega arith

south_of : (a b c : ℕ) → b < 256 → c < 256 → field_at (a ∷ b ∷ c ∷ []) 1 1 ≡ a / 64 % 2
south_of a b c q r = omega arith

scale_of : (a b c : ℕ) → b < 256 → c < 256 → field_at (a ∷ b ∷ c ∷ []) 2 2 ≡ a / 16 % 4
scale_of a b c q r = omega arith

number_of_three : (a b c : ℕ) → b < 256 → c < 256 → field_at (a ∷ b ∷ c ∷ []) 4 20 ≡ from_be_bytes w32 (0 ∷ a % 16 ∷ b ∷ c ∷ [])
number_of_three a b c q r = omega arith

-- the three bytes at the front of a payload
pub record HasFront (p : List ℕ) (a b c : ℕ) : Type 0 where
  pub front : take 3 p ≡ a ∷ b ∷ c ∷ []
  pub first : a < 256
  pub second : b < 256
  pub third : c < 256
  pub enough : 4 ≤ length p

pub has_front : (p : List ℕ) → 4 ≤ length p → ((k : ℕ) → get_or p k 0 < 256) → HasFront p (get_or p 0 0) (get_or p 1 0) (get_or p 2 0)
has_front p enough bytes = record { front = first_three p (omega arith); first = bytes 0; second = bytes 1; third = bytes 2; enough = enough }

-- the key that they spell
abbrev pub key_of_three : ℕ → ℕ → ℕ → ℕ → BlockKey
key_of_three product a b c = record { product = product; scale = a / 16 % 4; south = a / 64 % 2 == 1; number = from_be_bytes w32 (0 ∷ a % 16 ∷ b ∷ c ∷ []) }

key_of_fields : ℕ → ℕ → ℕ → ℕ → BlockKey
key_of_fields product scale south number = record { product = product; scale = scale; south = south == 1; number = number }

pub key_in-three : (product : ℕ) (p : List ℕ) (a b c : ℕ) → HasFront p a b c → key_in product p ≡ key_of_three product a b c
unfolding key_of_fields
key_in-three product p a b c has =
    ap (λ (f : List ℕ). key_of_fields product (field_at f 2 2) (field_at f 1 1) (field_at f 4 20)) has.front
    ∙ ap (λ n. key_of_fields product n (field_at (a ∷ b ∷ c ∷ []) 1 1) (field_at (a ∷ b ∷ c ∷ []) 4 20)) (scale_of a b c has.second has.third)
    ∙ ap (λ n. key_of_fields product (a / 16 % 4) n (field_at (a ∷ b ∷ c ∷ []) 4 20)) (south_of a b c has.second has.third)
    ∙ ap (λ n. key_of_fields product (a / 16 % 4) (a / 64 % 2) n) (number_of_three a b c has.second has.third)

pub scale_in-three : (p : List ℕ) (a b c : ℕ) → HasFront p a b c → scale_in p ≡ a / 16 % 4
scale_in-three p a b c has = ap (λ (f : List ℕ). field_at f 2 2) has.front ∙ scale_of a b c has.second has.third

pub is_run_in-three : (p : List ℕ) (a b c : ℕ) → HasFront p a b c → is_run_in p ≡ (a / 128 == 1)
is_run_in-three p a b c has =
    ap (λ (f : List ℕ). field_at f 0 1 == 1) has.front ∙ ap (λ n. n == 1) (flag_of a b c has.first has.second has.third)

-- the answers, in their order
pub is_short : (product : ℕ) (p : List ℕ) → length p < 4 → radar_blocks product p ≡ Err Short
unfolding radar_blocks
is_short product p few = cond-true _ _ _ (lt-ltb (length p) 4 few)

pub is_bad_scale : (product : ℕ) (p : List ℕ) → 4 ≤ length p → scale_in p ≡ 3 → radar_blocks product p ≡ Err BadScale
unfolding radar_blocks
is_bad_scale product p enough bad =
    cond-false _ _ _ (le-ltb (length p) 4 enough) ∙ cond-true _ _ _ (eq-eqb (scale_in p) 3 bad)

pub is_run : (product : ℕ) (p : List ℕ) → 4 ≤ length p → (scale_in p ≡ 3 → ⊥) → is_run_in p ≡ true
    → radar_blocks product p ≡ read_runs (key_in product p) (drop 3 p)
unfolding radar_blocks
is_run product p enough good run =
    cond-false _ _ _ (le-ltb (length p) 4 enough) ∙ cond-false _ _ _ (ne_eqb (scale_in p) 3 good) ∙ cond-true _ _ _ run

pub is_bitmap : (product : ℕ) (p : List ℕ) → 4 ≤ length p → (scale_in p ≡ 3 → ⊥) → is_run_in p ≡ false
    → radar_blocks product p ≡ read_bitmap (key_in product p) (drop 3 p)
unfolding radar_blocks
is_bitmap product p enough good other =
    cond-false _ _ _ (le-ltb (length p) 4 enough) ∙ cond-false _ _ _ (ne_eqb (scale_in p) 3 good) ∙ cond-false _ _ _ other

-- the same, over the three bytes of a payload
abbrev pub Front : List ℕ → Type 0
Front p = HasFront p (get_or p 0 0) (get_or p 1 0) (get_or p 2 0)

abbrev pub key_by_bytes : ℕ → List ℕ → ℕ → BlockKey
key_by_bytes product p number = record { product = product; scale = get_or p 0 0 / 16 % 4; south = get_or p 0 0 / 64 % 2 == 1; number = number }

pub bad_scale : (product : ℕ) (p : List ℕ) → Front p → get_or p 0 0 / 16 % 4 ≡ 3 → radar_blocks product p ≡ Err BadScale
bad_scale product p has bad = is_bad_scale product p has.enough (scale_in-three p _ _ _ has ∙ bad)

key_is : (product : ℕ) (p : List ℕ) (number : ℕ) → Front p
    → number ≡ from_be_bytes w32 (0 ∷ get_or p 0 0 % 16 ∷ get_or p 1 0 ∷ get_or p 2 0 ∷ [])
    → key_in product p ≡ key_by_bytes product p number
key_is product p number has number_is =
    key_in-three product p _ _ _ has ∙ ap (λ n. key_by_bytes product p n) (sym number_is)

pub run_read : (product : ℕ) (p rest : List ℕ) (number : ℕ) → Front p → (get_or p 0 0 / 16 % 4 ≡ 3 → ⊥) → get_or p 0 0 / 128 ≡ 1
    → rest ≡ drop 3 p → number ≡ from_be_bytes w32 (0 ∷ get_or p 0 0 % 16 ∷ get_or p 1 0 ∷ get_or p 2 0 ∷ [])
    → radar_blocks product p ≡ read_runs (key_by_bytes product p number) rest
run_read product p rest number has good run rest_is number_is =
    is_run product p has.enough (λ bad. good (sym (scale_in-three p _ _ _ has) ∙ bad))
    (is_run_in-three p _ _ _ has ∙ eq-eqb (get_or p 0 0 / 128) 1 run)
    ∙ ap (λ (key : BlockKey). read_runs key (drop 3 p)) (key_is product p number has number_is)
    ∙ ap (λ (b : List ℕ). read_runs (key_by_bytes product p number) b) (sym rest_is)

pub bitmap_read : (product : ℕ) (p rest : List ℕ) (number : ℕ) → Front p → (get_or p 0 0 / 16 % 4 ≡ 3 → ⊥) → (get_or p 0 0 / 128 ≡ 1 → ⊥)
    → rest ≡ drop 3 p → number ≡ from_be_bytes w32 (0 ∷ get_or p 0 0 % 16 ∷ get_or p 1 0 ∷ get_or p 2 0 ∷ [])
    → radar_blocks product p ≡ read_bitmap (key_by_bytes product p number) rest
bitmap_read product p rest number has good other rest_is number_is =
    is_bitmap product p has.enough (λ bad. good (sym (scale_in-three p _ _ _ has) ∙ bad))
    (is_run_in-three p _ _ _ has ∙ ne_eqb (get_or p 0 0 / 128) 1 other)
    ∙ ap (λ (key : BlockKey). read_bitmap key (drop 3 p)) (key_is product p number has number_is)
    ∙ ap (λ (b : List ℕ). read_bitmap (key_by_bytes product p number) b) (sym rest_is)
