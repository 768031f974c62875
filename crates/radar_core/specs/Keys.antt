-- The keys of radar blocks, and the three bytes before a record (RTCA DO-358): run flag,
-- hemisphere, scale, block number.
use Rattle.std.specs.Prelude.{ℕ, ◌+◌, ◌*◌, ◌^◌, ◌<◌, ◌≤◌, Bool, ◌==◌, List, [], ◌∷◌, take}
use Rattle.std.specs.Cmp.{IsTotalOrder, nat_cmp_total, on_total, then_total}
use Rattle.std.specs.Int.{bytes_high_first}
use Rattle.std.specs.Ordering.{nat_cmp, ordering_then}
use Rattle.std.specs.declared.cmp.Ordering.{Ordering}
use Rattle.bit_fields.specs.Bits.{bit, as_number, field_at}
use Rattle.radar_core.specs.declared.key.BlockKey.{BlockKey}

-- keys stand in the order of product, scale, north before south, number
abbrev pub block_key_cmp : BlockKey → BlockKey → Ordering
block_key_cmp a b =
    ordering_then (nat_cmp a.product b.product) (ordering_then (nat_cmp a.scale b.scale)
    (ordering_then (nat_cmp (bit a.south) (bit b.south)) (nat_cmp a.number b.number)))

-- it is an order
pub block_keys_total : IsTotalOrder block_key_cmp
block_keys_total =
    then_total (on_total (λ (k : BlockKey). k.product) nat_cmp_total)
    (then_total (on_total (λ (k : BlockKey). k.scale) nat_cmp_total)
    (then_total (on_total (λ (k : BlockKey). bit k.south) nat_cmp_total)
    (on_total (λ (k : BlockKey). k.number) nat_cmp_total)))

-- the fields as one number, which stands in the same order
abbrev pub key_number : BlockKey → ℕ
key_number key =
    ((key.product * 256 + key.scale) * 256 + bit key.south) * 4294967296 + key.number

-- the first block at high latitudes: from it on no empty record names a block
abbrev pub first_high : ℕ
first_high = 405000

-- the scale is 0 to 2, and the number fits its field
pub record FitsKey (key : BlockKey) : Type 0 where
  pub scale : key.scale ≤ 2
  pub number : key.number < 2 ^ 20

-- the three bytes before a record: 1 bit of run flag, 1 of hemisphere, 2 of scale, 20 of block
-- number
abbrev pub front_bytes : Bool → BlockKey → List ℕ
front_bytes is_run key = bytes_high_first 3 (as_number 0 (record { width = 1; number = bit is_run }
    ∷ record { width = 1; number = bit key.south } ∷ record { width = 2; number = key.scale }
    ∷ record { width = 20; number = key.number } ∷ []))

-- what stands in the three bytes at the front of a payload
abbrev pub is_run_in : List ℕ → Bool
is_run_in payload = field_at (take 3 payload) 0 1 == 1

abbrev pub scale_in : List ℕ → ℕ
scale_in payload = field_at (take 3 payload) 2 2

abbrev pub key_in : ℕ → List ℕ → BlockKey
key_in product payload = record {
  product = product;
  scale = scale_in payload;
  south = field_at (take 3 payload) 1 1 == 1;
  number = field_at (take 3 payload) 4 20;
}
