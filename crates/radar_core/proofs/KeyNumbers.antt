-- The number of a key stands in the order of the key's fields.
use Rattle.std.proofs.Common.{◌≡◌, ℕ, ◌+◌, ◌*◌, ◌<◌, Bool, refl, ap, ◌∙◌, arith}
use Rattle.std.specs.declared.cmp.Ordering.{Ordering}
use Rattle.std.specs.declared.cmp.Ordering.TheVariants.{Less, Equal, Greater}
use Rattle.std.specs.Ordering.{nat_cmp, ordering_then}
use Rattle.std.proofs.lemmas.Bool.Decides.{nat_tests}
use Rattle.bit_fields.specs.Bits.{bit}
use Rattle.bit_fields.specs.BitsBack.{bit_below}
use Rattle.radar_core.specs.Keys.{block_key_cmp, key_number}
use Rattle.radar_core.specs.declared.key.BlockKey.{BlockKey}

after-byte : (x y m n : ℕ) → m < 256 → n < 256
    → nat_cmp (x * 256 + m) (y * 256 + n) ≡ ordering_then (nat_cmp x y) (nat_cmp m n)
after-byte x y m n small small' = grind (arith, nat_tests)

small : (b : Bool) → bit b < 256
small b = omega (arith, bit_below b)

after-number : (x y m n : ℕ) → m < 4294967296 → n < 4294967296
    → nat_cmp (x * 4294967296 + m) (y * 4294967296 + n) ≡ ordering_then (nat_cmp x y) (nat_cmp m n)
after-number x y m n small small' = grind (arith, nat_tests)

then-then : (o p q : Ordering) → ordering_then (ordering_then o p) q ≡ ordering_then o (ordering_then p q)
then-then Less p q = refl
then-then Equal p q = refl
then-then Greater p q = refl

pub keys-numbered : (a b : BlockKey) → a.scale < 256 → b.scale < 256 → a.number < 4294967296 → b.number < 4294967296
    → nat_cmp (key_number a) (key_number b) ≡ block_key_cmp a b
keys-numbered a b scale scale' number number' =
    after-number ((a.product * 256 + a.scale) * 256 + bit a.south) ((b.product * 256 + b.scale) * 256 + bit b.south) a.number
    b.number number number'
    ∙ ap (λ (o : Ordering). ordering_then o (nat_cmp a.number b.number))
    (after-byte (a.product * 256 + a.scale) (b.product * 256 + b.scale) (bit a.south) (bit b.south) (small a.south) (small b.south)
    ∙ ap (λ (o : Ordering). ordering_then o (nat_cmp (bit a.south) (bit b.south)))
    (after-byte a.product b.product a.scale b.scale scale scale'))
    ∙ then-then (ordering_then (nat_cmp a.product b.product) (nat_cmp a.scale b.scale)) (nat_cmp (bit a.south) (bit b.south))
    (nat_cmp a.number b.number)
    ∙ then-then (nat_cmp a.product b.product) (nat_cmp a.scale b.scale)
    (ordering_then (nat_cmp (bit a.south) (bit b.south)) (nat_cmp a.number b.number))

pub number-order : (a b : BlockKey) (m n : ℕ) (o : Ordering) → m ≡ key_number a → n ≡ key_number b → a.scale < 256 → b.scale < 256
    → a.number < 4294967296 → b.number < 4294967296 → o ≡ nat_cmp m n → o ≡ block_key_cmp a b
number-order a b m n o is is' scale scale' number number' compared =
    rw (compared, is, is') (keys-numbered a b scale scale' number number')
