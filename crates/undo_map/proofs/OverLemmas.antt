-- Entries that are over, and those that have a place once they are dropped.
use Rattle.std.proofs.Common.{◌≡◌, ℕ, ◌+◌, ◌<◌, ◌≤◌, ◌&&◌, true, false, Bool, List, [], ◌∷◌, length, refl, sym, ap, ◌∙◌, not}
use Rattle.std.proofs.Common.{nat_le, nat_lt, arith, inl, inr, filter, IsPermutation}
use Rattle.std.specs.Prelude.{Some, None}
use Rattle.std.specs.BTreeMap.{is_at}
use Rattle.std.specs.Cmp.{IsTotalOrder}
use Rattle.std.specs.List.{AllByRecursion}
use Rattle.std.specs.List.Sorted.{IsStrictlySortedBy}
use Rattle.std.specs.Map.{keys_of, lookup, remove_entry}
use Rattle.std.specs.Ordering.{is_eq}
use Rattle.std.specs.declared.cmp.Ordering.{Ordering}
use Rattle.std.specs.declared.cmp.Ordering.TheVariants.{Less, Equal, Greater}
use Rattle.std.proofs.lemmas.Bool.{cases_Bool, or_cases, and_parts, leb-true, le-leb, lt-ltb}
use Rattle.std.proofs.lemmas.Bool.Decides.{nat_tests}
use Rattle.std.proofs.lemmas.List.Elements.{recursion_from_All}
use Rattle.std.proofs.lemmas.Map.{lookup-none}
use Rattle.std.proofs.lemmas.Map.Entries.{none_below_head}
use Rattle.std.proofs.lemmas.Map.Keys.{sorted_head, sorted_tail}
use Rattle.list_members.specs.Each.{AllByRecursion-all, filter_less}
use Rattle.undo_map.specs.Ends.{HasLeft, HavePlaces, HavePlacesBy, NoneIsOver, OthersHavePlaces, has_place, has_place_by}
use Rattle.undo_map.proofs.EndLemmas.{has-added, places-kept}
use Rattle.undo_map.proofs.PlaceLemmas.{keeps-added, keeps-added-by, left-behind}

-- a place by a second, where all places come after another
later-place :
    {K : Type 0} (R : K → K → Ordering) (now : ℕ) (places : List (ℕ × K)) (q : K) (by : ℕ)
    → AllByRecursion (λ place. now < place.0) places → has_place_by R places q by ≡ true → now < by
later-place R now [] q by all some = cc
later-place R now (p ∷ places) q by all some = elim (or_cases (is_eq (R p.1 q) && nat_le p.0 by) (has_place_by R places q by) some) [
  | inl first ↦
      let parts = and_parts (is_eq (R p.1 q)) (nat_le p.0 by) first in
      let early = leb-true p.0 by parts.1 in
      let later = all.0 in
      omega arith
  | inr more ↦ later-place R now places q by all.1 more
]

module _ {K V : Type 0} where
  -- where no place has come, no entry is over
  none-over :
      (R : K → K → Ordering) (end : K × V → ℕ) (now : ℕ) (places : List (ℕ × K)) (es : List (K × V))
      → AllByRecursion (λ place. now < place.0) places → HavePlacesBy R end places es
      → filter (λ e. nat_lt now (end e)) es ≡ es
  none-over R end now places [] all placed = refl
  none-over R end now places (e ∷ es) all placed =
      let lives : nat_lt now (end e) ≡ true = lt-ltb now (end e) (later-place R now places e.0 (end e) all placed.0) in
      rw lives (ap (λ (more : List (K × V)). e ∷ more) (none-over R end now places es all placed.1))

  pub none-is-over : NoneIsOver K V
  none-is-over R end now places es all placed =
      none-over R end now places es (recursion_from_All (λ place. now < place.0) places all) placed

  -- whether an entry is of the key and over
  abbrev is_over : (R : K → K → Ordering) → (V → ℕ) → ℕ → K → K × V → Bool
  is_over R end now key e = is_eq (R key e.0) && nat_le (end e.1) now

  -- what lives is not dropped with a key
  pub lives-yet :
      (R : K → K → Ordering) (end : V → ℕ) (now : ℕ) (key : K) (es : List (K × V))
      → filter (λ e. nat_lt now (end e.1)) (filter (λ e. not (is_over R end now key e)) es)
      ≡ filter (λ e. nat_lt now (end e.1)) es
  lives-yet R end now key es =
      filter_less (λ e. not (is_over R end now key e)) (λ e. nat_lt now (end e.1)) es
      (AllByRecursion-all (λ e. nat_lt now (end e.1) ≡ true → not (is_over R end now key e) ≡ true)
      (λ e lives. elim (cases_Bool (is_over R end now key e)) [
        | inl over ↦
            let parts = and_parts (is_eq (R key e.0)) (nat_le (end e.1) now) over in
            absurd (grind (arith, nat_tests))
        | inr yet ↦ ap not yet
      ]) es)

  -- without the key nothing is dropped, and a place of the key is none of theirs
  pub absent-kept :
      (R : K → K → Ordering) (end : V → ℕ) (now : ℕ) (key : K) (es : List (K × V)) → lookup (is_at (R key)) es ≡ None
      → filter (λ e. not (is_over R end now key e)) es ≡ es
  absent-kept R end now key [] absent = refl
  absent-kept R end now key (e ∷ es) absent = elim (cases_Bool (is_eq (R key e.0))) [
    | inl same ↦ let some : Some e.1 ≡ None = rw same at absent in cc some
    | inr other ↦
        let more : lookup (is_at (R key)) es ≡ None = rw other at absent in
        rw other (ap (λ (later : List (K × V)). e ∷ later) (absent-kept R end now key es more))
  ]

  pub absent-placed :
      (R : K → K → Ordering) (end : K × V → ℕ) (at : ℕ) (key : K) (old new : List (ℕ × K)) (es : List (K × V))
      → HasLeft (at, key) old new → lookup (is_at (R key)) es ≡ None → HavePlacesBy R end old es → HavePlacesBy R end new es
  absent-placed R end at key old new [] left absent placed = tt
  absent-placed R end at key old new (e ∷ es) left absent placed = elim (cases_Bool (is_eq (R key e.0))) [
    | inl same ↦ let some : Some e.1 ≡ None = rw same at absent in cc some
    | inr other ↦
        let more : lookup (is_at (R key)) es ≡ None = rw other at absent in
        let own : has_place_by R new e.0 (end e) ≡ true =
        left (λ place. is_eq (R place.1 e.0) && nat_le place.0 (end e)) (rw other refl) placed.0 in
        (own, absent-placed R end at key old new es left more placed.1)
  ]

  -- behind a key that is the same no other is
  absent-tail :
      (R : K → K → Ordering) → IsTotalOrder R → (key : K) (e : K × V) (es : List (K × V)) → R key e.0 ≡ Equal
      → AllByRecursion (λ y. R e.0 y ≡ Less) (keys_of es) → lookup (is_at (R key)) es ≡ None
  absent-tail R total key e [] same above = refl
  absent-tail R total key e (x ∷ es) same above =
      let below : R key x.0 ≡ Less = total.congr key e.0 x.0 same ∙ above.0 in
      rw below (absent-tail R total key e es same above.1)

  -- a key whose value is not over
  live-kept_first :
      (R : K → K → Ordering) → IsTotalOrder R → (end : V → ℕ) (now : ℕ) (key : K) (v : V) (e : K × V) (es : List (K × V))
      → IsStrictlySortedBy R (keys_of (e ∷ es)) → lookup (is_at (R key)) (e ∷ es) ≡ Some v → now < end v
      → (lookup (is_at (R key)) es ≡ Some v → filter (λ e. not (is_over R end now key e)) es ≡ es)
      → (o : Ordering) → R key e.0 ≡ o
      → filter (λ e. not (is_over R end now key e)) (e ∷ es) ≡ e ∷ es
  live-kept_first R total end now key v e es sorted found lives rest Less below =
      rw below (ap (λ (more : List (K × V)). e ∷ more) (absent-kept R end now key es
      (let none = none_below_head total key e es sorted below in
      let absent : lookup (is_at (R key)) (e ∷ es) ≡ None = lookup-none (is_at (R key)) (e ∷ es) none in
      let later : lookup (is_at (R key)) es ≡ None = rw below at absent in later)))
  live-kept_first R total end now key v e es sorted found lives rest Equal same =
      let value : Some e.1 ≡ Some v = rw same at found in
      let is : e.1 ≡ v = cc value in
      let yet : nat_le (end e.1) now ≡ false = rw is (grind (arith, nat_tests)) in
      rw (same, yet) (ap (λ (more : List (K × V)). e ∷ more) (absent-kept R end now key es
      (absent-tail R total key e es same (sorted_head R e.0 (keys_of es) sorted))))
  live-kept_first R total end now key v e es sorted found lives rest Greater above =
      let later : lookup (is_at (R key)) es ≡ Some v = rw above at found in
      rw above (ap (λ (more : List (K × V)). e ∷ more) (rest later))

  pub live-kept :
      (R : K → K → Ordering) → IsTotalOrder R → (end : V → ℕ) (now : ℕ) (key : K) (v : V) (es : List (K × V))
      → IsStrictlySortedBy R (keys_of es) → lookup (is_at (R key)) es ≡ Some v → now < end v
      → filter (λ e. not (is_over R end now key e)) es ≡ es
  live-kept R total end now key v [] sorted found lives = refl
  live-kept R total end now key v (e ∷ es) sorted found lives =
      live-kept_first R total end now key v e es sorted found lives
      (λ later. live-kept R total end now key v es (sorted_tail R e.0 (keys_of es) sorted) later lives) (R key e.0) refl

  live-placed_first :
      (R : K → K → Ordering) → IsTotalOrder R → (end : V → ℕ) (at : ℕ) (key : K) (v : V) (old new : List (ℕ × K)) (e : K × V)
      (es : List (K × V))
      → IsStrictlySortedBy R (keys_of (e ∷ es)) → lookup (is_at (R key)) (e ∷ es) ≡ Some v
      → IsPermutation ((end v, key) ∷ old) new → HavePlaces R end ((at, key) ∷ old) (e ∷ es)
      → (lookup (is_at (R key)) es ≡ Some v → HavePlaces R end new es)
      → (o : Ordering) → R key e.0 ≡ o → HavePlaces R end new (e ∷ es)
  live-placed_first R total end at key v old new e es sorted found moves placed rest Less below =
      let none = none_below_head total key e es sorted below in
      let absent : lookup (is_at (R key)) (e ∷ es) ≡ None = lookup-none (is_at (R key)) (e ∷ es) none in
      places-kept R (λ e. end e.1) old new (e ∷ es) (keeps-added-by R (end v, key) old new moves)
      (absent-placed R (λ e. end e.1) at key ((at, key) ∷ old) old (e ∷ es) (left-behind (at, key) old) absent placed)
  live-placed_first R total end at key v old new e es sorted found moves placed rest Equal same =
      let value : Some e.1 ≡ Some v = rw same at found in
      let is : v ≡ e.1 = cc value in
      let below : end v ≤ end e.1 = rw is (omega arith) in
      let tied : is_eq (R key e.0) ≡ true = rw same refl in (
        has-added R (end v) key e.0 (end e.1) old new moves tied below,
        places-kept R (λ e. end e.1) old new es (keeps-added-by R (end v, key) old new moves)
            (absent-placed R (λ e. end e.1) at key ((at, key) ∷ old) old es (left-behind (at, key) old)
            (absent-tail R total key e es same (sorted_head R e.0 (keys_of es) sorted)) placed.1),
      )
  live-placed_first R total end at key v old new e es sorted found moves placed rest Greater above =
      let later : lookup (is_at (R key)) es ≡ Some v = rw above at found in
      let own : has_place R end old e ≡ true = rw above at placed.0 in (
        keeps-added (end v, key) old new moves (λ place. is_eq (R place.1 e.0) && nat_le place.0 (end e.1)) own,
        rest later,
      )

  pub live-placed :
      (R : K → K → Ordering) → IsTotalOrder R → (end : V → ℕ) (at : ℕ) (key : K) (v : V) (old new : List (ℕ × K))
      (es : List (K × V))
      → IsStrictlySortedBy R (keys_of es) → lookup (is_at (R key)) es ≡ Some v
      → IsPermutation ((end v, key) ∷ old) new → HavePlaces R end ((at, key) ∷ old) es → HavePlaces R end new es
  live-placed R total end at key v old new [] sorted found moves placed = tt
  live-placed R total end at key v old new (e ∷ es) sorted found moves placed =
      live-placed_first R total end at key v old new e es sorted found moves placed
      (λ later. live-placed R total end at key v old new es (sorted_tail R e.0 (keys_of es) sorted) later moves placed.1)
      (R key e.0) refl

  -- a key whose value is over
  over-dropped_first :
      (R : K → K → Ordering) → IsTotalOrder R → (end : V → ℕ) (now : ℕ) (key : K) (v : V) (e : K × V) (es : List (K × V))
      → IsStrictlySortedBy R (keys_of (e ∷ es)) → lookup (is_at (R key)) (e ∷ es) ≡ Some v → end v ≤ now
      → (lookup (is_at (R key)) es ≡ Some v
      → remove_entry (is_at (R key)) es ≡ filter (λ e. not (is_over R end now key e)) es)
      → (o : Ordering) → R key e.0 ≡ o
      → remove_entry (is_at (R key)) (e ∷ es) ≡ filter (λ e. not (is_over R end now key e)) (e ∷ es)
  over-dropped_first R total end now key v e es sorted found ended rest Less below =
      let none = none_below_head total key e es sorted below in
      let absent : lookup (is_at (R key)) (e ∷ es) ≡ None = lookup-none (is_at (R key)) (e ∷ es) none in
      let never : Some v ≡ None = sym found ∙ absent in
      cc never
  over-dropped_first R total end now key v e es sorted found ended rest Equal same =
      let value : Some e.1 ≡ Some v = rw same at found in
      let is : e.1 ≡ v = cc value in
      let over : nat_le (end e.1) now ≡ true = rw is (le-leb (end v) now ended) in
      rw (same, over) (sym (absent-kept R end now key es
      (absent-tail R total key e es same (sorted_head R e.0 (keys_of es) sorted))))
  over-dropped_first R total end now key v e es sorted found ended rest Greater above =
      let later : lookup (is_at (R key)) es ≡ Some v = rw above at found in
      rw above (ap (λ (more : List (K × V)). e ∷ more) (rest later))

  pub over-dropped :
      (R : K → K → Ordering) → IsTotalOrder R → (end : V → ℕ) (now : ℕ) (key : K) (v : V) (es : List (K × V))
      → IsStrictlySortedBy R (keys_of es) → lookup (is_at (R key)) es ≡ Some v → end v ≤ now
      → remove_entry (is_at (R key)) es ≡ filter (λ e. not (is_over R end now key e)) es
  over-dropped R total end now key v [] sorted found ended = refl
  over-dropped R total end now key v (e ∷ es) sorted found ended =
      over-dropped_first R total end now key v e es sorted found ended
      (λ later. over-dropped R total end now key v es (sorted_tail R e.0 (keys_of es) sorted) later ended) (R key e.0) refl

  over-placed_first :
      (R : K → K → Ordering) → IsTotalOrder R → (end : K × V → ℕ) (at : ℕ) (key : K) (old new : List (ℕ × K)) (e : K × V)
      (es : List (K × V))
      → IsStrictlySortedBy R (keys_of (e ∷ es)) → HasLeft (at, key) old new → HavePlacesBy R end old (e ∷ es)
      → HavePlacesBy R end new (remove_entry (is_at (R key)) es)
      → (o : Ordering) → R key e.0 ≡ o → HavePlacesBy R end new (remove_entry (is_at (R key)) (e ∷ es))
  over-placed_first R total end at key old new e es sorted left placed rest Less below =
      let own : has_place_by R new e.0 (end e) ≡ true =
      left (λ place. is_eq (R place.1 e.0) && nat_le place.0 (end e)) (rw below refl) placed.0 in
      rw below (own, rest)
  over-placed_first R total end at key old new e es sorted left placed rest Equal same =
      rw same (absent-placed R end at key old new es left
      (absent-tail R total key e es same (sorted_head R e.0 (keys_of es) sorted)) placed.1)
  over-placed_first R total end at key old new e es sorted left placed rest Greater above =
      let own : has_place_by R new e.0 (end e) ≡ true =
      left (λ place. is_eq (R place.1 e.0) && nat_le place.0 (end e)) (rw above refl) placed.0 in
      rw above (own, rest)

  pub over-placed : (R : K → K → Ordering) → IsTotalOrder R → OthersHavePlaces K V R
  over-placed R total end at key old new [] sorted left placed = tt
  over-placed R total end at key old new (e ∷ es) sorted left placed =
      over-placed_first R total end at key old new e es sorted left placed
      (over-placed R total end at key old new es (sorted_tail R e.0 (keys_of es) sorted) left placed.1) (R key e.0) refl

-- how many entries are left where one is removed
pub length-removed :
    {K V : Type 0} (test : K → Bool) (es : List (K × V)) (v : V) → lookup test es ≡ Some v
    → length (remove_entry test es) + 1 ≡ length es
length-removed test [] v found = absurd (cc)
length-removed test (e ∷ es) v found = elim (cases_Bool (test e.0)) [
  | inl passes ↦ rw passes (omega arith)
  | inr fails ↦
      let later : lookup test es ≡ Some v = rw fails at found in
      let left = length-removed test es v later in
      rw fails (omega (arith, left))
]
