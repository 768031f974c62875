-- What a store holds is at most what arrived, and its answers are those of the definitions.
use Rattle.std.proofs.Common.{◌≡◌, ℕ, ◌≤◌, Bool, true, false, cond, List, [], ◌∷◌, length}
use Rattle.std.proofs.Common.{Option, Some, None, is_some, refl, sym, ap, subst, ◌∙◌, inl, inr, arith}
use Rattle.std.specs.Cmp.{both_ways}
use Rattle.std.specs.List.{list_all, sum_by, AllByRecursion}
use Rattle.std.specs.List.Sorted.{IsStrictlySortedBy}
use Rattle.std.specs.Map.{keys_of, values_of, lookup, remove_entry}
use Rattle.std.specs.Option.{option_map, unwrap_or}
use Rattle.std.specs.Ordering.{is_eq}
use Rattle.std.specs.declared.cmp.Ordering.TheVariants.{Less}
use Rattle.std.proofs.lemmas.Bool.{cases_Bool, cond-true, cond-false}
use Rattle.std.proofs.lemmas.List.Sums.{sum_by-cons}
use Rattle.std.proofs.lemmas.Map.Entries.{length-values_of, sum_by-remove_entry}
use Rattle.std.proofs.lemmas.Map.Keys.{sorted_head, sorted_tail}
use Rattle.list_members.specs.ListMembers.{length_ones}
use Rattle.list_members.specs.Ranges.{find_filter}
use Rattle.list_members.specs.Tests.{mapped_from, some_past_test}
use Rattle.apdu_core.specs.declared.apdu.Seg.{Seg}
use Rattle.uplink_frame.specs.Laws.{StationsAreTold}
use Rattle.segment_core.specs.Arrival.{Arrival, is_piece, has_piece, other_numbers, whole_with, completes}
use Rattle.segment_core.specs.Kept.{KeptPieces, kept_under, kept_piece, was_whole, piece_name, arrival_named}
use Rattle.segment_core.specs.Kept.{seg_of_name, same_piece}
use Rattle.segment_core.specs.Store.{Store, StandsFor, is_in_life, is_in_life_at, live_answer}
use Rattle.segment_core.specs.Bound.{AreNamedOnce, IsPurged, IsBounded, piece_size, live_arrivals, payload_made_whole}
use Rattle.segment_core.specs.declared.piece_name.PieceName.{PieceName}
use Rattle.segment_core.specs.declared.arrived.Longest.{Longest}
use Rattle.segment_core.specs.contracts.piece_name.PieceNameOrd.TheImpl as order
use Rattle.segment_core.proofs.PieceNames.{agrees, same-is, same-self}
use Rattle.segment_core.proofs.Stands.{first, is, is-named}

-- names in their order stand once
absent-above : (k : PieceName) (es : KeptPieces) → AllByRecursion (λ y. order.ghosts.cmp k y ≡ Less) (keys_of es) → kept_under es k ≡ None
absent-above k [] above = refl
absent-above k (e ∷ es) above =
    let other : same_piece k e.0 ≡ false = sym (agrees k e.0) ∙ ap is_eq above.0 in
    rw other (absent-above k es above.1)

pub once-sorted : (es : KeptPieces) → IsStrictlySortedBy order.ghosts.cmp (keys_of es) → AreNamedOnce es
once-sorted [] sorted = tt
once-sorted (e ∷ es) sorted = (
  absent-above e.0 es (sorted_head order.ghosts.cmp e.0 (keys_of es) sorted),
  once-sorted es (sorted_tail order.ghosts.cmp e.0 (keys_of es) sorted),
)

module _ (told : StationsAreTold) where
  pub same-turned : (a b : PieceName) → same_piece a b ≡ same_piece b a
  same-turned a b = both_ways (same_piece a b) (same_piece b a)
      (λ (e : same_piece a b ≡ true). subst (λ (x : PieceName). same_piece x a ≡ true) (same-is told a b e) (same-self told a))
      (λ (e : same_piece b a ≡ true). subst (λ (x : PieceName). same_piece x b ≡ true) (same-is told b a e) (same-self told b))

  -- without a name, the others are held came before
  pub held-without : (k q : PieceName) (es : KeptPieces) → AreNamedOnce es → kept_under (remove_entry (same_piece k) es) q
      ≡ cond (same_piece k q) None (kept_under es q)
  held-without k q [] once = elim (cases_Bool (same_piece k q)) [ inl t ↦ rw t refl | inr f ↦ rw f refl ]
  held-without k q (e ∷ es) once = elim (cases_Bool (same_piece k e.0)) [
    | inl here ↦ elim (cases_Bool (same_piece k q)) [
      | inl is ↦
          let at : e.0 ≡ q = sym (same-is told k e.0 here) ∙ same-is told k q is in
          rw (here, is) (ap (kept_under es) (sym at) ∙ once.0)
      | inr other ↦
          let moved : same_piece q e.0 ≡ false = ap (same_piece q) (sym (same-is told k e.0 here)) ∙ same-turned q k ∙ other in
          rw (here, other, moved) refl
    ]
    | inr there ↦ elim (cases_Bool (same_piece q e.0)) [
      | inl at ↦
          let other : same_piece k q ≡ false = ap (same_piece k) (same-is told q e.0 at) ∙ there in
          rw (there, at, other) refl
      | inr away ↦ rw (there, away) (held-without k q es once.1)
    ]
  ]

  cond-none : (b : Bool) (o : Option (Option (List ℕ))) → o ≡ None → cond b None o ≡ None
  cond-none true o e = refl
  cond-none false o e = e

  once-without : (k : PieceName) (es : KeptPieces) → AreNamedOnce es → AreNamedOnce (remove_entry (same_piece k) es)
  once-without k [] once = tt
  once-without k (e ∷ es) once = elim (cases_Bool (same_piece k e.0)) [
    | inl here ↦ rw here once.1
    | inr there ↦ rw there (
      held-without k e.0 es once.1 ∙ cond-none (same_piece k e.0) (kept_under es e.0) once.0,
      once-without k es once.1,
    )
  ]

  -- each value that is held has its weight in the first arrival of its name
  abbrev Fits : (Option (List ℕ) → ℕ) → (Arrival → ℕ) → List Arrival → KeptPieces → Type 0
  Fits f g came es = (k : PieceName) (v : Option (List ℕ)) → kept_under es k ≡ Some v
      → (a : Arrival) × (first came k k.number ≡ Some a) × (f v ≤ g a)

  at_most : (f : Option (List ℕ) → ℕ) (x : ℕ) (o : Option (Option (List ℕ))) → ((v : Option (List ℕ)) → o ≡ Some v → f v ≤ x)
      → unwrap_or (option_map f o) 0 ≤ x
  at_most f x None each = omega arith
  at_most f x (Some v) each = each v refl

  weight_of_one : (f : Option (List ℕ) → ℕ) (g : Arrival → ℕ) (a : Arrival) (came : List Arrival)
      → ((es : KeptPieces) → AreNamedOnce es → Fits f g came es → sum_by f (values_of es) ≤ sum_by g came)
      → (es : KeptPieces) → AreNamedOnce es → Fits f g (a ∷ came) es → (o : Option Seg) → a.segmentation ≡ o
      → sum_by f (values_of es) ≤ sum_by g (a ∷ came)
  weight_of_one f g a came before es once fits None none =
      let rest : Fits f g came es = λ k v h.
      let found = fits k v h in
      let other : is k k.number a ≡ false = ap (is_piece (arrival_named k) (seg_of_name k) k.number a) none in
      (found.0, sym (cond-false (is k k.number a) (Some a) (first came k k.number) other) ∙ found.1, found.2) in
      let less = before es once rest in
      let more = sum_by-cons g a came in
      omega arith
  weight_of_one f g a came before es once fits (Some s) seg =
      let name : PieceName = piece_name a s in
      let rest : Fits f g came (remove_entry (same_piece name) es) = λ k v h.
      let kept = some_past_test (same_piece name k) (kept_under es k) v (sym (held-without name k es once) ∙ h) in
      let found = fits k v kept.1 in
      let other : is k k.number a ≡ false = is-named k k.number a s seg ∙ same-turned k name ∙ kept.0 in
      (found.0, sym (cond-false (is k k.number a) (Some a) (first came k k.number) other) ∙ found.1, found.2) in
      let less = before (remove_entry (same_piece name) es) (once-without name es once) rest in
      let more = sum_by-cons g a came in
      let here : unwrap_or (option_map f (lookup (same_piece name) es)) 0 ≤ g a = at_most f (g a) (kept_under es name) (λ v h.
      let found = fits name v h in
      let own : is name name.number a ≡ true = is-named name name.number a s seg ∙ same-self told name in
      let some : Some a ≡ Some found.0 = sym (cond-true (is name name.number a) (Some a) (first came name name.number) own)
      ∙ found.1 in
      let at : a ≡ found.0 = cc in
      subst (λ (b : Arrival). f v ≤ g b) (sym at) found.2) in
      let split = sum_by-remove_entry f (same_piece name) es in
      omega (arith, less, more, here, split)

  each_weighs : (f : Option (List ℕ) → ℕ) (g : Arrival → ℕ) (came : List Arrival) (es : KeptPieces) → AreNamedOnce es → Fits f g came es
      → sum_by f (values_of es) ≤ sum_by g came
  each_weighs f g [] [] once fits = omega arith
  each_weighs f g [] (e ∷ es) once fits =
      let found = fits e.0 e.1 (cond-true (same_piece e.0 e.0) (Some e.1) (kept_under es e.0) (same-self told e.0)) in
      let none : None ≡ Some found.0 = found.1 in
      absurd (cc)
  each_weighs f g (a ∷ came) es once fits = weight_of_one f g a came (each_weighs f g came) es once fits a.segmentation refl

  named_live : (longest : Longest) (moment : ℕ) (k : PieceName) (a : Arrival) (o : Option Seg) → a.segmentation ≡ o
      → is k k.number a ≡ true → is_in_life longest moment k.product k.version ≡ true
      → is_in_life longest moment a.product a.version ≡ true
  named_live longest moment k a None none is_k live =
      let other : is k k.number a ≡ false = ap (is_piece (arrival_named k) (seg_of_name k) k.number a) none in
      absurd (cc)
  named_live longest moment k a (Some s) seg is_k live =
      let same : k ≡ piece_name a s = same-is told k (piece_name a s) (sym (is-named k k.number a s seg) ∙ is_k) in
      subst (λ (p : PieceName). is_in_life longest moment p.product p.version ≡ true) same live

  kept_size : (b : Bool) (a : Arrival) → piece_size (kept_piece b a) ≤ length a.payload
  kept_size true a = omega arith
  kept_size false a = omega arith

  kept_fits : (f : Option (List ℕ) → ℕ) (g : Arrival → ℕ) → ((b : Bool) (a : Arrival) → f (kept_piece b a) ≤ g a)
      → (store : Store) (moment : ℕ) (taken : List Arrival) → StandsFor store taken → IsPurged store moment
      → Fits f g (live_arrivals store.longest moment taken) store.pieces
  kept_fits f g each store moment taken stands purged k v h =
      let some : is_some (kept_under store.pieces k) ≡ true = ap is_some h in
      let live = purged.live k some in
      let at_clock : is_in_life_at store.longest store.clock k ≡ true =
      ap (λ (clock : Option ℕ). is_in_life_at store.longest clock k) purged.clock ∙ live in
      let kept = mapped_from (kept_piece (was_whole taken k))
      (first taken k k.number) v (sym (stands.keeps k (stands.numbered k some) at_clock) ∙ h) in
      let same_first : first (live_arrivals store.longest moment taken) k k.number ≡ first taken k k.number =
      find_filter (is k k.number) (λ (a : Arrival). is_in_life store.longest moment a.product a.version)
      (λ a is_k. named_live store.longest moment k a a.segmentation refl is_k live) taken in (
        kept.0,
        same_first ∙ kept.1,
        subst (λ (w : Option (List ℕ)). f w ≤ g kept.0) kept.2
            (each (was_whole taken k) kept.0),
      )

  pub stores-bounded : (store : Store) (moment : ℕ) (taken : List Arrival) → StandsFor store taken → IsPurged store moment
      → IsBounded store moment taken
  stores-bounded store moment taken stands purged = record {
    numbers =
        let ones : sum_by (λ (v : Option (List ℕ)). 1) (values_of store.pieces) ≤ sum_by (λ (a : Arrival). 1)
        (live_arrivals store.longest moment taken) =
        each_weighs (λ v. 1) (λ a. 1) (live_arrivals store.longest moment taken) store.pieces purged.once
        (kept_fits (λ v. 1) (λ a. 1) (λ b a. omega arith) store moment taken stands purged) in
        let left = length_ones (values_of store.pieces) in
        let right = length_ones (live_arrivals store.longest moment taken) in
        let size = length-values_of store.pieces in
        omega (arith, ones, left, right, size);
    bytes = each_weighs piece_size (λ a. length a.payload) (live_arrivals store.longest moment taken) store.pieces purged.once
        (kept_fits piece_size (λ a. length a.payload) kept_size store moment taken stands purged);
  }

-- an answer is whole exactly where the arrival completes its file
complete_by : (taken : List Arrival) (a : Arrival) (o : Option Seg)
    → completes taken a o ≡ option_map (whole_with a) (payload_made_whole (live_answer taken a o))
complete_by taken a None = refl
complete_by taken a (Some s) = elim (cases_Bool (has_piece taken a s s.number)) [
  | inl again ↦ rw again refl
  | inr new ↦ elim (cases_Bool (list_all (has_piece taken a s) (other_numbers s))) [
    | inl all ↦ rw (new, all) refl
    | inr waits ↦ rw (new, waits) refl
  ]
]

pub answers-complete : (taken : List Arrival) (a : Arrival)
    → completes taken a a.segmentation ≡ option_map (whole_with a) (payload_made_whole (live_answer taken a a.segmentation))
answers-complete taken a = complete_by taken a a.segmentation
