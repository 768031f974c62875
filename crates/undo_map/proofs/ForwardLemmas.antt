-- Places of a key that are brought forward, and places of a queue in two parts.
use Rattle.std.proofs.Common.{◌≡◌, ℕ, ◌<◌, ◌≤◌, ◌&&◌, ◌||◌, ◌⊎◌, true, false, Bool, List, [], ◌∷◌, length, map, filter, not}
use Rattle.std.proofs.Common.{refl, sym, ap, subst, ◌∙◌, nat_le, arith, inl, inr, IsPermutation}
use Rattle.std.specs.Cmp.{IsTotalOrder, Equal-is}
use Rattle.std.specs.Ordering.{is_eq}
use Rattle.std.specs.declared.cmp.Ordering.{Ordering}
use Rattle.std.proofs.lemmas.Bool.{cases_Bool, or_cases, or_left, or_right, and_parts, leb-true}
use Rattle.std.proofs.lemmas.Bool.Decides.{nat_tests}
use Rattle.std.proofs.lemmas.Cmp.{tied_itself}
use Rattle.std.proofs.lemmas.List.Sorted.{IsPermutation-cons, IsPermutation-map, IsPermutation-trans, length_permutation, list_any-IsPermutation}
use Rattle.list_members.specs.ListMembers.{filter_shorter}
use Rattle.undo_map.specs.Ends.{HasPlaceSooner, KeepsPlacesBy, has_place_by}
use Rattle.undo_map.specs.declared.end_queue.Place.{Place}
use Rattle.undo_map.proofs.EndLemmas.{has-added, has-later}
use Rattle.undo_map.proofs.PlaceLemmas.{keeps-added}

goes : (a b : Bool) → (a || not b) ≡ false → (a ≡ false) × (b ≡ true)
goes true b leaves = absurd (cc)
goes false true leaves = (refl, refl)
goes false false leaves = absurd (cc)

stays-early : (a b : Bool) → b ≡ true → (a || not b) ≡ true → a ≡ true
stays-early true b same stay = refl
stays-early false true same stay = absurd (cc)
stays-early false false same stay = absurd (cc)

module _ {K : Type 0} where
  same-through :
      (R : K → K → Ordering) → IsTotalOrder R → (x y z : K) → is_eq (R x y) ≡ true → is_eq (R x z) ≡ true → is_eq (R y z) ≡ true
  same-through R total x y z one other = sym (ap is_eq (total.congr x y z ((Equal-is (R x y)).0 one))) ∙ other

  flipped : (R : K → K → Ordering) → IsTotalOrder R → (x y : K) → is_eq (R x y) ≡ true → is_eq (R y x) ≡ true
  flipped R total x y same = same-through R total x y x same (rw (tied_itself total x) refl)

  abbrev pub places_in : List (Place K) → List (ℕ × K)
  places_in xs = map (λ place. (place.end, place.key)) xs

  -- a place is none of the key's behind the second
  abbrev pub stays : (K → K → Ordering) → ℕ → K → Place K → Bool
  stays R second key place = nat_le place.end second || not (is_eq (R place.key key))

  -- a place by a second is left, or it was the key's, and behind the second to which that is brought
  kept-places :
      (R : K → K → Ordering) → IsTotalOrder R → (second : ℕ) (key q : K) (by : ℕ) (xs : List (Place K))
      → has_place_by R (places_in xs) q by ≡ true
      → (has_place_by R (places_in (filter (stays R second key) xs)) q by ≡ true) ⊎ ((is_eq (R key q) ≡ true) × (second ≤ by))
  kept-places R total second key q by [] some = absurd (cc)
  kept-places R total second key q by (x ∷ xs) some =
      elim (or_cases (is_eq (R x.key q) && nat_le x.end by) (has_place_by R (places_in xs) q by) some) [
        | inl first ↦ elim (cases_Bool (stays R second key x)) [
          | inl stay ↦ inl (rw stay (or_left _ _ first))
          | inr leave ↦
              let left = goes (nat_le x.end second) (is_eq (R x.key key)) leave in
              let parts = and_parts (is_eq (R x.key q)) (nat_le x.end by) first in
              let early : x.end ≤ by = leb-true x.end by parts.1 in
              let late : nat_le x.end second ≡ false = left.0 in
              let below : second ≤ by = grind (arith, nat_tests, late, early) in
              inr (same-through R total x.key key q left.1 parts.0, below)
        ]
        | inr more ↦ elim (kept-places R total second key q by xs more) [
          | inl kept ↦ inl (elim (cases_Bool (stays R second key x)) [
            | inl stay ↦ rw stay (or_right _ _ kept)
            | inr leave ↦ rw leave kept
          ])
          | inr own ↦ inr own
        ]
      ]

  -- a key that has a place has one by the second, or one of its places goes
  sooner-places :
      (R : K → K → Ordering) → IsTotalOrder R → (second : ℕ) (key q : K) (by : ℕ) (xs : List (Place K))
      → is_eq (R key q) ≡ true → has_place_by R (places_in xs) q by ≡ true
      → (has_place_by R (places_in (filter (stays R second key) xs)) q second ≡ true)
      ⊎ (length (filter (stays R second key) xs) < length xs)
  sooner-places R total second key q by [] same some = absurd (cc)
  sooner-places R total second key q by (x ∷ xs) same some =
      elim (or_cases (is_eq (R x.key q) && nat_le x.end by) (has_place_by R (places_in xs) q by) some) [
        | inl first ↦
            let parts = and_parts (is_eq (R x.key q)) (nat_le x.end by) first in
            let back : is_eq (R q x.key) ≡ true = flipped R total x.key q parts.0 in
            let own : is_eq (R x.key key) ≡ true =
            same-through R total q x.key key back (flipped R total key q same) in
            elim (cases_Bool (stays R second key x)) [
              | inl stay ↦
                  let early = stays-early (nat_le x.end second) (is_eq (R x.key key)) own stay in
                  inl (rw stay (or_left (is_eq (R x.key q) && nat_le x.end second)
                  (has_place_by R (places_in (filter (stays R second key) xs)) q second) (rw (parts.0, early) refl)))
              | inr leave ↦
                  let few = filter_shorter (stays R second key) xs in
                  inr (rw leave (omega (arith, few)))
            ]
        | inr more ↦ elim (sooner-places R total second key q by xs same more) [
          | inl kept ↦ inl (elim (cases_Bool (stays R second key x)) [
            | inl stay ↦ rw stay (or_right _ _ kept)
            | inr leave ↦ rw leave kept
          ])
          | inr fewer ↦ inr (elim (cases_Bool (stays R second key x)) [
            | inl stay ↦ rw stay (omega (arith, fewer))
            | inr leave ↦ rw leave (omega (arith, fewer))
          ])
        ]
      ]

  -- the places of what a heap keeps, in its order
  pub moves-pushed :
      (p : Place K → Bool) (item : Place K) (old kept left new : List (Place K)) → kept ≡ filter p old → IsPermutation kept left
      → IsPermutation (item ∷ left) new → IsPermutation ((item.end, item.key) ∷ places_in (filter p old)) (places_in new)
  moves-pushed p item old kept left new is moves pushed =
      IsPermutation-map (λ (place : Place K). (place.end, place.key)) (item ∷ filter p old) new
      (IsPermutation-trans (item ∷ filter p old) (item ∷ left) new
      (IsPermutation-cons item (filter p old) left (subst (λ (ks : List (Place K)). IsPermutation ks left) is moves)) pushed)

  pub moves-left :
      (p : Place K → Bool) (old kept left : List (Place K)) → kept ≡ filter p old → IsPermutation kept left
      → IsPermutation (places_in (filter p old)) (places_in left)
  moves-left p old kept left is moves =
      IsPermutation-map (λ (place : Place K). (place.end, place.key)) (filter p old) left
      (subst (λ (ks : List (Place K)). IsPermutation ks left) is moves)

  pub length-left : (p : Place K → Bool) (old kept left : List (Place K)) → kept ≡ filter p old → IsPermutation kept left
      → length left ≡ length (filter p old)
  length-left p old kept left is moves = length_permutation kept left moves ∙ ap length is

  -- where none of its later places was left, a place of its own is added
  pub forward-kept :
      (R : K → K → Ordering) → IsTotalOrder R → (second : ℕ) (key : K) (old : List (Place K)) (new : List (ℕ × K))
      → IsPermutation ((second, key) ∷ places_in (filter (stays R second key) old)) new
      → KeepsPlacesBy R (places_in old) new
  forward-kept R total second key old new moves q by some = elim (kept-places R total second key q by old some) [
    | inl kept ↦
        keeps-added (second, key) (places_in (filter (stays R second key) old)) new moves
        (λ place. is_eq (R place.1 q) && nat_le place.0 by) kept
    | inr own ↦ has-added R second key q by (places_in (filter (stays R second key) old)) new moves own.0 own.1
  ]

  pub forward-sooner :
      (R : K → K → Ordering) (second : ℕ) (key : K) (old left new : List (ℕ × K)) → IsPermutation ((second, key) ∷ left) new
      → HasPlaceSooner R key second old new
  forward-sooner R second key old left new moves q by same some = has-added R second key q second left new moves same (omega arith)

  -- where none went, the key has none that is later
  pub none-sooner :
      (R : K → K → Ordering) → IsTotalOrder R → (second : ℕ) (key : K) (old : List (Place K)) (new : List (ℕ × K))
      → IsPermutation (places_in (filter (stays R second key) old)) new
      → length old ≤ length (filter (stays R second key) old) → HasPlaceSooner R key second (places_in old) new
  none-sooner R total second key old new moves all q by same some = elim (sooner-places R total second key q by old same some) [
    | inl kept ↦
        sym (list_any-IsPermutation (λ (place : ℕ × K). is_eq (R place.1 q) && nat_le place.0 second) _ new moves) ∙ kept
    | inr fewer ↦ absurd (omega (arith, all, fewer))
  ]

  pub none-kept :
      (R : K → K → Ordering) → IsTotalOrder R → (second : ℕ) (key : K) (old : List (Place K)) (new : List (ℕ × K))
      → IsPermutation (places_in (filter (stays R second key) old)) new
      → length old ≤ length (filter (stays R second key) old) → KeepsPlacesBy R (places_in old) new
  none-kept R total second key old new moves all q by some = elim (kept-places R total second key q by old some) [
    | inl kept ↦
        sym (list_any-IsPermutation (λ (place : ℕ × K). is_eq (R place.1 q) && nat_le place.0 by) _ new moves) ∙ kept
    | inr own ↦ has-later R new q second by own.1 (none-sooner R total second key old new moves all q by own.0 some)
  ]
