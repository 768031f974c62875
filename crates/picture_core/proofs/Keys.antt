-- The order of keys: a strict total order that tells apart what the test of keys tells apart.
use Rattle.std.proofs.Common.{◌≡◌, ℕ, Bool, true, false, ◌&&◌, ◌==◌, nat_lt, ◌⊎◌, List, Option, Some, None, Ordering, refl}
use Rattle.std.proofs.Common.{sym, ap, ap₂, ◌∙◌, inl, inr}
use Rattle.std.specs.Bool.{Decides}
use Rattle.std.specs.Cmp.{IsTotalOrder, Equal-is, tied_then}
use Rattle.std.specs.Cmp.Lexicographic.{slice_cmp, bytes_decides, options_total}
use Rattle.std.specs.Option.{option_cmp}
use Rattle.std.specs.Ordering.{nat_cmp, is_eq, ordering_reverse, ordering_then}
use Rattle.std.specs.declared.cmp.Ordering.TheVariants.{Less, Equal, Greater}
use Rattle.std.proofs.lemmas.Cmp.{nat_list_cmp_total, then_total, on_total, tied_itself}
use Rattle.std.proofs.lemmas.Bool.{cases_Bool, eqb-true, and_parts, and_from}
use Rattle.std.proofs.Math.Bool.{and_assoc}
use Rattle.std.proofs.lemmas.Map.Text.{is_eq-slice_cmp}
use Rattle.bit_fields.specs.Bits.{bit}
use Rattle.radar_core.specs.Keys.{block_key_cmp, block_keys_total}
use Rattle.radar_core.specs.declared.key.BlockKey.{BlockKey}
use Rattle.text_reports.specs.TextKey.{TextKey, same_third, same_text_key, text_key_cmp}
use Rattle.picture_core.specs.Key.{Key, radar_block, text_report, same_key, key_cmp}

pub text_key_total : IsTotalOrder text_key_cmp
text_key_total =
    then_total (on_total (λ (k : TextKey). k.kind) nat_list_cmp_total)
    (then_total (on_total (λ (k : TextKey). k.place) nat_list_cmp_total)
    (on_total (λ (k : TextKey). k.third) (options_total nat_list_cmp_total)))

key_antisymm : (x y : Key) → key_cmp x y ≡ ordering_reverse (key_cmp y x)
key_antisymm (radar_block a) (radar_block b) = block_keys_total.antisymm a b
key_antisymm (radar_block a) (text_report b) = refl
key_antisymm (text_report a) (radar_block b) = refl
key_antisymm (text_report a) (text_report b) = text_key_total.antisymm a b

key_trans : (x y z : Key) → key_cmp x y ≡ Less → key_cmp y z ≡ Less → key_cmp x z ≡ Less
key_trans (radar_block a) (radar_block b) (radar_block c) p q = block_keys_total.trans a b c p q
key_trans (radar_block a) (radar_block b) (text_report c) p q = refl
key_trans (radar_block a) (text_report b) (radar_block c) p q = absurd (cc)
key_trans (radar_block a) (text_report b) (text_report c) p q = refl
key_trans (text_report a) (radar_block b) (radar_block c) p q = absurd (cc)
key_trans (text_report a) (radar_block b) (text_report c) p q = absurd (cc)
key_trans (text_report a) (text_report b) (radar_block c) p q = absurd (cc)
key_trans (text_report a) (text_report b) (text_report c) p q = text_key_total.trans a b c p q

key_congr : (x y z : Key) → key_cmp x y ≡ Equal → key_cmp x z ≡ key_cmp y z
key_congr (radar_block a) (radar_block b) (radar_block c) p = block_keys_total.congr a b c p
key_congr (radar_block a) (radar_block b) (text_report c) p = refl
key_congr (radar_block a) (text_report b) z p = absurd (cc)
key_congr (text_report a) (radar_block b) z p = absurd (cc)
key_congr (text_report a) (text_report b) (radar_block c) p = refl
key_congr (text_report a) (text_report b) (text_report c) p = text_key_total.congr a b c p

pub key_total : IsTotalOrder key_cmp
key_total = record { antisymm = key_antisymm; trans = key_trans; congr = key_congr }

-- blocks of equal keys are one
equal_numbers : (m n : ℕ) → nat_cmp m n ≡ Equal → m ≡ n
equal_numbers m n equal = elim (cases_Bool (nat_lt m n)) [
  | inl less ↦ let under : Less ≡ Equal = rw less at equal in absurd (cc)
  | inr most ↦ elim (cases_Bool (m == n)) [
    | inl same ↦ eqb-true m n same
    | inr other ↦ let over : Greater ≡ Equal = rw (most, other) at equal in absurd (cc)
  ]
]

both_equal : (o p : Ordering) → ordering_then o p ≡ Equal → (o ≡ Equal) × (p ≡ Equal)
both_equal Less p equal = absurd (cc)
both_equal Equal p equal = (refl, equal)
both_equal Greater p equal = absurd (cc)

equal_south : (a b : Bool) → bit a ≡ bit b → a ≡ b
equal_south true true same = refl
equal_south true false same = absurd (cc)
equal_south false true same = absurd (cc)
equal_south false false same = refl

equal_blocks : (a b : BlockKey) → block_key_cmp a b ≡ Equal → a ≡ b
equal_blocks a b equal =
    let product = both_equal (nat_cmp a.product b.product) _ equal in
    let scale = both_equal (nat_cmp a.scale b.scale) _ product.1 in
    let south = both_equal (nat_cmp (bit a.south) (bit b.south)) _ scale.1 in
    let e₁ : a.product ≡ b.product = equal_numbers a.product b.product product.0 in
    let e₂ : a.scale ≡ b.scale = equal_numbers a.scale b.scale scale.0 in
    let e₃ : a.south ≡ b.south = equal_south a.south b.south (equal_numbers (bit a.south) (bit b.south) south.0) in
    let e₄ : a.number ≡ b.number = equal_numbers a.number b.number south.1 in
    let made : ℕ → ℕ → Bool → ℕ → BlockKey = λ p s h n. record { product = p; scale = s; south = h; number = n } in
    ap (λ (p : ℕ). made p a.scale a.south a.number) e₁ ∙ ap (λ (s : ℕ). made b.product s a.south a.number) e₂
    ∙ ap (λ (h : Bool). made b.product b.scale h a.number) e₃ ∙ ap (made b.product b.scale b.south) e₄

same_block-Decides : (a b : BlockKey) → Decides (is_eq (block_key_cmp a b)) (a ≡ b)
same_block-Decides a b = (
  λ t. equal_blocks a b ((Equal-is (block_key_cmp a b)).0 t),
  λ e. ap (λ (k : BlockKey). is_eq (block_key_cmp a k)) (sym e) ∙ ap is_eq (tied_itself block_keys_total a),
)

-- keys are the same exactly where they are equal
same_third-Decides : (v w : Option (List ℕ)) → Decides (same_third v w) (v ≡ w)
same_third-Decides None None = (λ t. refl, λ e. refl)
same_third-Decides None (Some w) = (λ t. cc, λ e. cc)
same_third-Decides (Some v) None = (λ t. cc, λ e. cc)
same_third-Decides (Some v) (Some w) = (λ t. ap Some ((bytes_decides v w).0 t), λ e. (bytes_decides v w).1 (cc))

same_parts : (a b : TextKey) → a.kind ≡ b.kind → a.place ≡ b.place → a.third ≡ b.third → a ≡ b
same_parts a b kind place third =
    let made : List ℕ → List ℕ → Option (List ℕ) → TextKey = λ k p t. record { kind = k; place = p; third = t } in
    ap (λ (k : List ℕ). made k a.place a.third) kind ∙ ap (λ (p : List ℕ). made b.kind p a.third) place
    ∙ ap (made b.kind b.place) third

same_text_key-Decides : (a b : TextKey) → Decides (same_text_key a b) (a ≡ b)
same_text_key-Decides a b = (
  λ t.
      let outer = and_parts _ _ t in
      let inner = and_parts _ _ outer.0 in
      let kind : a.kind ≡ b.kind = (bytes_decides a.kind b.kind).0 inner.0 in
      let place : a.place ≡ b.place = (bytes_decides a.place b.place).0 inner.1 in
      same_parts a b kind place ((same_third-Decides a.third b.third).0 outer.1),
  λ e.
      and_from _ _
      (and_from _ _ ((bytes_decides a.kind b.kind).1 (ap (λ (k : TextKey). k.kind) e))
      ((bytes_decides a.place b.place).1 (ap (λ (k : TextKey). k.place) e)))
      ((same_third-Decides a.third b.third).1 (ap (λ (k : TextKey). k.third) e)),
)

pub same_key-Decides : (a b : Key) → Decides (same_key a b) (a ≡ b)
same_key-Decides (radar_block a) (radar_block b) = (
  λ t. ap radar_block ((same_block-Decides a b).0 t),
  λ e. (same_block-Decides a b).1 (cc),
)
same_key-Decides (radar_block a) (text_report b) = (λ t. absurd (cc), λ e. absurd (cc))
same_key-Decides (text_report a) (radar_block b) = (λ t. absurd (cc), λ e. absurd (cc))
same_key-Decides (text_report a) (text_report b) = (
  λ t. ap text_report ((same_text_key-Decides a b).0 t),
  λ e. (same_text_key-Decides a b).1 (cc),
)

-- keys are the same exactly where the order finds them equal
is_eq-third : (v w : Option (List ℕ)) → is_eq (option_cmp (slice_cmp nat_cmp) v w) ≡ same_third v w
is_eq-third None None = refl
is_eq-third None (Some w) = refl
is_eq-third (Some v) None = refl
is_eq-third (Some v) (Some w) = is_eq-slice_cmp v w

is_eq-text_key_cmp : (a b : TextKey) → is_eq (text_key_cmp a b) ≡ same_text_key a b
is_eq-text_key_cmp a b =
    let kind = slice_cmp nat_cmp a.kind b.kind in
    let place = slice_cmp nat_cmp a.place b.place in
    let third = option_cmp (slice_cmp nat_cmp) a.third b.third in
    sym (tied_then kind (ordering_then place third))
    ∙ ap (λ (r : Bool). is_eq kind && r) (sym (tied_then place third))
    ∙ sym (and_assoc (is_eq kind) (is_eq place) (is_eq third))
    ∙ ap₂ (λ (r s : Bool). r && s)
    (ap₂ (λ (r s : Bool). r && s) (is_eq-slice_cmp a.kind b.kind) (is_eq-slice_cmp a.place b.place))
    (is_eq-third a.third b.third)

pub is_eq-key_cmp : (a b : Key) → is_eq (key_cmp a b) ≡ same_key a b
is_eq-key_cmp (radar_block a) (radar_block b) = refl
is_eq-key_cmp (radar_block a) (text_report b) = refl
is_eq-key_cmp (text_report a) (radar_block b) = refl
is_eq-key_cmp (text_report a) (text_report b) = is_eq-text_key_cmp a b

pub same_key-itself : (k : Key) → same_key k k ≡ true
same_key-itself k = (same_key-Decides k k).1 refl

pub equal_keys : (a b : Key) → same_key a b ≡ true → a ≡ b
equal_keys a b = (same_key-Decides a b).0

pub equal_from_key_cmp : (a b : Key) → key_cmp a b ≡ Equal → a ≡ b
equal_from_key_cmp a b equal = equal_keys a b (sym (is_eq-key_cmp a b) ∙ ap is_eq equal)

pub key_cmp-itself : (k : Key) → key_cmp k k ≡ Equal
key_cmp-itself k = tied_itself key_total k

pub apart_below : (a b : Key) → key_cmp a b ≡ Less → same_key a b ≡ false
apart_below a b below = sym (is_eq-key_cmp a b) ∙ ap is_eq below

pub apart_above : (a b : Key) → key_cmp a b ≡ Less → same_key b a ≡ false
apart_above a b below =
    sym (is_eq-key_cmp b a) ∙ ap is_eq (key_antisymm b a) ∙ ap (λ (o : Ordering). is_eq (ordering_reverse o)) below

pub below_from_above : (a b : Key) → key_cmp a b ≡ Greater → key_cmp b a ≡ Less
below_from_above a b above = key_antisymm b a ∙ ap ordering_reverse above

-- a key stands below another, is it, or stands above it
pub cases_key : (a b : Key) → (key_cmp a b ≡ Less) ⊎ ((a ≡ b) ⊎ (key_cmp b a ≡ Less))
cases_key a b = cases (key_cmp a b) refl where
  cases : (o : Ordering) → key_cmp a b ≡ o → (key_cmp a b ≡ Less) ⊎ ((a ≡ b) ⊎ (key_cmp b a ≡ Less))
  cases Less is = inl is
  cases Equal is = inr (inl (equal_from_key_cmp a b is))
  cases Greater is = inr (inr (below_from_above a b is))
