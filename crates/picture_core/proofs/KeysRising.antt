-- Lists of keys that rise, and that the keys of entries are such a list of exactly their keys.
use Rattle.std.proofs.Common.{◌≡◌, ◌⊎◌, List, [], ◌∷◌, Ordering, refl, sym, ap, subst, inl, inr}
use Rattle.std.specs.Ordering.{match_ordering}
use Rattle.std.specs.declared.cmp.Ordering.TheVariants.{Less, Equal, Greater}
use Rattle.picture_core.specs.Entry.{Entry}
use Rattle.picture_core.specs.Key.{Key, key_cmp}
use Rattle.list_members.specs.Membership.{IsIn}
use Rattle.picture_core.specs.Picture.{with_key, keys_of}
use Rattle.picture_core.specs.Kept.{AreAbove, IsRising}
use Rattle.picture_core.proofs.Keys.{key_total, equal_from_key_cmp, below_from_above}

-- what holds of each of three by the order that picks it holds of the picked one
pub by_order :
    {X : Type 0} (P : X → Type 0) (o : Ordering) (x y z : X) → (o ≡ Less → P x) → (o ≡ Equal → P y) → (o ≡ Greater → P z)
    → P (match_ordering o x y z)
by_order P Less x y z below same above = below refl
by_order P Equal x y z below same above = same refl
by_order P Greater x y z below same above = above refl

pub AreAbove-lower : (a b : Key) (ks : List Key) → key_cmp a b ≡ Less → AreAbove b ks → AreAbove a ks
AreAbove-lower a b [] below above = tt
AreAbove-lower a b (k ∷ ks) below above = (key_total.trans a b k below above.0, AreAbove-lower a b ks below above.1)

pub AreAbove-with_key : (a k : Key) (ks : List Key) → key_cmp a k ≡ Less → AreAbove a ks → AreAbove a (with_key k ks)
AreAbove-with_key a k [] below above = (below, tt)
AreAbove-with_key a k (j ∷ ks) below above =
    by_order (AreAbove a) (key_cmp k j) (k ∷ j ∷ ks) (j ∷ ks) (j ∷ with_key k ks) (λ is. (below, above)) (λ is. above)
    (λ is. (above.0, AreAbove-with_key a k ks below above.1))

pub IsRising-with_key : (k : Key) (ks : List Key) → IsRising ks → IsRising (with_key k ks)
IsRising-with_key k [] rising = (tt, tt)
IsRising-with_key k (j ∷ ks) rising =
    by_order IsRising (key_cmp k j) (k ∷ j ∷ ks) (j ∷ ks) (j ∷ with_key k ks)
    (λ is. ((is, AreAbove-lower k j ks is rising.0), rising)) (λ is. rising)
    (λ is. (AreAbove-with_key j k ks (below_from_above k j is) rising.0, IsRising-with_key k ks rising.1))

pub IsRising-keys_of : (entries : List Entry) → IsRising (keys_of entries)
IsRising-keys_of [] = tt
IsRising-keys_of (entry ∷ more) = IsRising-with_key entry.key (keys_of more) (IsRising-keys_of more)

pub AreAbove-at : (a k : Key) (ks : List Key) → AreAbove a ks → IsIn k ks → key_cmp a k ≡ Less
AreAbove-at a k [] above here = absurd here
AreAbove-at a k (j ∷ ks) above (inl same) = subst (λ (q : Key). key_cmp a q ≡ Less) (sym same) above.0
AreAbove-at a k (j ∷ ks) above (inr later) = AreAbove-at a k ks above.1 later

-- the members of a list with a key
with_key-own : (k : Key) (ks : List Key) → IsIn k (with_key k ks)
with_key-own k [] = inl refl
with_key-own k (j ∷ ks) =
    by_order (IsIn k) (key_cmp k j) (k ∷ j ∷ ks) (j ∷ ks) (j ∷ with_key k ks) (λ is. inl refl)
    (λ is. inl (equal_from_key_cmp k j is))
    (λ is. inr (with_key-own k ks))

with_key-others : (x k : Key) (ks : List Key) → IsIn x ks → IsIn x (with_key k ks)
with_key-others x k [] here = absurd here
with_key-others x k (j ∷ ks) here =
    by_order (IsIn x) (key_cmp k j) (k ∷ j ∷ ks) (j ∷ ks) (j ∷ with_key k ks) (λ is. inr here) (λ is. here)
    (λ is. elim here [
      | inl same ↦ inl same
      | inr later ↦ inr (with_key-others x k ks later)
    ])

with_key-only : (x k : Key) (ks : List Key) → IsIn x (with_key k ks) → (x ≡ k) ⊎ IsIn x ks
with_key-only x k [] here = here
with_key-only x k (j ∷ ks) here =
    by_order (λ (l : List Key). IsIn x l → (x ≡ k) ⊎ IsIn x (j ∷ ks)) (key_cmp k j) (k ∷ j ∷ ks) (j ∷ ks) (j ∷ with_key k ks)
    (λ is h. h) (λ is h. inr h)
    (λ is h. elim h [
      | inl same ↦ inr (inl same)
      | inr later ↦ elim (with_key-only x k ks later) [
        | inl same ↦ inl same
        | inr there ↦ inr (inr there)
      ]
    ])
    here

-- the keys of entries are exactly theirs
pub IsIn-keys_of : (entry : Entry) (entries : List Entry) → IsIn entry entries → IsIn entry.key (keys_of entries)
IsIn-keys_of entry [] here = absurd here
IsIn-keys_of entry (e ∷ more) (inl same) =
    subst (λ (k : Key). IsIn k (with_key e.key (keys_of more))) (sym (ap (λ (x : Entry). x.key) same))
    (with_key-own e.key (keys_of more))
IsIn-keys_of entry (e ∷ more) (inr later) = with_key-others entry.key e.key (keys_of more) (IsIn-keys_of entry more later)

pub entry_of_key :
    (k : Key) (entries : List Entry) → IsIn k (keys_of entries) → (entry : Entry) × IsIn entry entries × (entry.key ≡ k)
entry_of_key k [] here = absurd here
entry_of_key k (e ∷ more) here = elim (with_key-only k e.key (keys_of more) here) [
  | inl same ↦ (e, inl refl, sym same)
  | inr there ↦ let found = entry_of_key k more there in (found.0, inr found.1, found.2)
]
