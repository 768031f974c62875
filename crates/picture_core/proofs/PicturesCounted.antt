-- There are no more live entries kept than were brought.
use Rattle.std.proofs.Common.{◌≡◌, ℕ, ◌+◌, ◌≤◌, nat_lt, List, [], ◌∷◌, length, sym, ap, subst, ◌∙◌, arith, inl, inr, refl}
use Rattle.std.specs.declared.cmp.Ordering.TheVariants.{Less, Equal}
use Rattle.std.proofs.lemmas.List.{length-map}
use Rattle.list_members.specs.Membership.{IsIn}
use Rattle.list_members.specs.Members.{IsIn-filter, IsIn-from_filter}
use Rattle.list_members.specs.ListMembers.{in_map}
use Rattle.picture_core.specs.Entry.{Entry}
use Rattle.picture_core.specs.Key.{Key, key_cmp}
use Rattle.picture_core.specs.Kept.{IsRising, IsStore, keys, live_entries}
use Rattle.picture_core.specs.Picture.{keys_of, with_key}
use Rattle.picture_core.proofs.Keys.{key_cmp-itself, key_total}
use Rattle.picture_core.proofs.KeysRising.{AreAbove-at, IsIn-keys_of, IsRising-keys_of, by_order}
use Rattle.picture_core.proofs.PicturesForgotten.{live_entries-rising}

-- what stands above the first of a list that rises stands in the rest of it
in_rest :
    (x y : Key) (ys : List Key) → key_cmp y x ≡ Less → IsIn x (y ∷ ys) → IsIn x ys
in_rest x y ys below (inl same) =
    let itself : key_cmp y x ≡ Equal = ap (key_cmp y) same ∙ key_cmp-itself y in
    absurd (cc)
in_rest x y ys below (inr later) = later

rising_within :
    (xs ys : List Key) → IsRising xs → IsRising ys → ((k : Key) → IsIn k xs → IsIn k ys) → length xs ≤ length ys
rising_within [] ys rising rising' within = omega arith
rising_within (x ∷ xs) [] rising rising' within = absurd (within x (inl refl))
rising_within (x ∷ xs) (y ∷ ys) rising rising' within = elim (within x (inl refl)) [
  | inl same ↦
      let above : (k : Key) → IsIn k xs → key_cmp y k ≡ Less =
      λ k here. ap (λ (j : Key). key_cmp j k) (sym same) ∙ AreAbove-at x k xs rising.0 here in
      let rest = rising_within xs ys rising.1 rising'.1 (λ k here. in_rest k y ys (above k here) (within k (inr here))) in
      omega arith
  | inr later ↦
      let below : key_cmp y x ≡ Less = AreAbove-at y x ys rising'.0 later in
      let rest = rising_within (x ∷ xs) ys rising rising'.1 (λ k here. elim here [
        | inl same ↦ subst (λ (j : Key). IsIn j ys) (sym same) later
        | inr there ↦
            in_rest k y ys (key_total.trans y x k below (AreAbove-at x k xs rising.0 there)) (within k (inr there))
      ]) in
      omega arith
]

length-with_key : (k : Key) (ks : List Key) → length (with_key k ks) ≤ length ks + 1
length-with_key k [] = omega arith
length-with_key k (j ∷ ks) =
    by_order (λ (l : List Key). length l ≤ length (j ∷ ks) + 1) (key_cmp k j) (k ∷ j ∷ ks) (j ∷ ks) (j ∷ with_key k ks)
    (λ is. omega arith) (λ is. omega arith) (λ is. let rest = length-with_key k ks in omega arith)

length-keys_of : (entries : List Entry) → length (keys_of entries) ≤ length entries
length-keys_of [] = omega arith
length-keys_of (e ∷ more) =
    let rest = length-keys_of more in
    let own = length-with_key e.key (keys_of more) in
    omega arith

-- distinct entries among others are no more than these
no_more :
    (kept entries : List Entry) → IsRising (keys kept) → ((e : Entry) → IsIn e kept → IsIn e entries)
    → length kept ≤ length entries
no_more kept entries rising within =
    let by_keys = rising_within (keys kept) (keys_of entries) rising (IsRising-keys_of entries) (λ k here.
    let e = in_map (λ (x : Entry). x.key) k kept here in
    subst (λ (j : Key). IsIn j (keys_of entries)) (sym e.2) (IsIn-keys_of e.0 entries (within e.0 e.1))) in
    let all = length-keys_of entries in
    let same = length-map kept (λ (x : Entry). x.key) in
    omega arith

pub live_counted :
    (now : ℕ) (contents kept : List Entry) → IsStore now contents kept
    → length (live_entries now kept) ≤ length (live_entries now contents)
live_counted now contents kept store =
    let test = λ (x : Entry). nat_lt now x.until in
    no_more (live_entries now kept) (live_entries now contents) (live_entries-rising now kept store.rising)
    (λ e here.
    let there = IsIn-from_filter test e kept here in
    IsIn-filter test e contents (store.brought e there.0) there.1)
