-- Queues of places, and the entries that have a place.
use Rattle.std.proofs.Common.{◌≡◌, ℕ, ◌+◌, length, ◌≤◌, ◌&&◌, ◌++◌, true, false, Bool, List, [], ◌∷◌, refl, sym, ap, ◌∙◌}
use Rattle.std.proofs.Common.{Result, Ok, Err, OnOk, OnErr, nat_le, nat_lt, cond, arith, inl, inr, IsPermutation, subst}
use Rattle.std.specs.Prelude.{Some, None, is_some}
use Rattle.std.specs.BTreeMap.{insert_entry, is_at}
use Rattle.std.specs.Cmp.{IsTotalOrder}
use Rattle.std.specs.List.{AllByRecursion, list_any}
use Rattle.std.specs.List.Sorted.{IsStrictlySortedBy}
use Rattle.std.specs.Map.{keys_of, lookup, remove_entry, set_value}
use Rattle.std.specs.Ordering.{is_eq}
use Rattle.std.specs.declared.cmp.Ordering.{Ordering}
use Rattle.std.specs.declared.cmp.Ordering.TheVariants.{Less, Equal, Greater}
use Rattle.std.proofs.lemmas.Bool.{cases_Bool, or_cases, or_left, or_right, and_parts, leb-true, le-leb}
use Rattle.std.proofs.lemmas.Cmp.{tied_itself}
use Rattle.std.proofs.lemmas.List.Sorted.{list_any-IsPermutation}
use Rattle.std.proofs.lemmas.Map.{lookup-none}
use Rattle.std.proofs.lemmas.Map.Entries.{none_below_head}
use Rattle.std.proofs.lemmas.Map.Keys.{sorted_tail}
use Rattle.std.proofs.lemmas.Map.Steps.{set_value_same}
use Rattle.list_members.specs.Each.{AllByRecursion-weaker}
use Rattle.list_members.specs.Tests.{none_from}
use Rattle.undo_map.specs.Ends.{HavePlaces, HavePlacesBy, KeepsPlacesBy, has_place, has_place_by, with_newer}
use Rattle.undo_map.specs.Marked.{with_all}
use Rattle.undo_map.specs.Steps.{before_all}
use Rattle.undo_map.specs.declared.step.Step.{Step}
use Rattle.undo_map.proofs.StepLemmas.{before_all-append}

-- what holds after success and after failure holds
pub either : {A B P Q Z : Type 0} (r : Result A B) → OnOk r P → OnErr r Q → (P → Z) → (Q → Z) → Z
either (Ok x) p q f g = f p
either (Err e) p q f g = g q

pub on-both : {A B : Type 0} (P Q : Type 0) (r : Result A B) → OnOk r P → OnOk r Q → OnOk r (P × Q)
on-both P Q (Ok x) p q = (p, q)
on-both P Q (Err e) p q = tt

pub on-err-both : {A B : Type 0} (P Q : Type 0) (r : Result A B) → OnErr r P → OnErr r Q → OnErr r (P × Q)
on-err-both P Q (Ok x) p q = tt
on-err-both P Q (Err e) p q = (p, q)

module _ {K : Type 0} where
  -- a place that is added
  pub has-added :
      (R : K → K → Ordering) (end : ℕ) (key q : K) (by : ℕ) (old new : List (ℕ × K)) → IsPermutation ((end, key) ∷ old) new
      → is_eq (R key q) ≡ true → end ≤ by → has_place_by R new q by ≡ true
  has-added R end key q by old new moves same below =
      let test : ℕ × K → Bool = λ place. is_eq (R place.1 q) && nat_le place.0 by in
      let first : test (end, key) ≡ true = rw same (le-leb end by below) in
      sym (list_any-IsPermutation test ((end, key) ∷ old) new moves) ∙ or_left (test (end, key)) (list_any test old) first

  -- a place by a second is one by a later one
  pub has-later :
      (R : K → K → Ordering) (places : List (ℕ × K)) (q : K) (by later : ℕ) → by ≤ later → has_place_by R places q by ≡ true
      → has_place_by R places q later ≡ true
  has-later R [] q by later below some = cc
  has-later R (p ∷ places) q by later below some = elim (or_cases _ _ some) [
    | inl first ↦
        let parts = and_parts (is_eq (R p.1 q)) (nat_le p.0 by) first in
        let early = leb-true p.0 by parts.1 in
        or_left (is_eq (R p.1 q) && nat_le p.0 later) (has_place_by R places q later) (rw parts.0 (le-leb p.0 later (omega arith)))
    | inr more ↦ or_right (is_eq (R p.1 q) && nat_le p.0 later) (has_place_by R places q later) (has-later R places q by later below more)
  ]

module _ {K V : Type 0} where
  set-back :
      (test : K → Bool) (es : List (K × V)) (old v : V) → lookup test es ≡ Some old → set_value test (set_value test es v) old ≡ es
  set-back test [] old v found = cc
  set-back test (e ∷ es) old v found = elim (cases_Bool (test e.0)) [
    | inl passes ↦
        let same : Some e.1 ≡ Some old = rw passes at found in
        let value : e.1 ≡ old = cc in
        rw passes (rw passes (ap (λ (x : V). (e.0, x) ∷ es) (sym value)))
    | inr fails ↦
        let later : lookup test es ≡ Some old = rw fails at found in
        rw fails (rw fails (ap (λ (more : List (K × V)). e ∷ more) (set-back test es old v later)))
  ]

  -- a value that is written over one of its key
  set-insert_first :
      (R : K → K → Ordering) → IsTotalOrder R → (key : K) (old v : V) (e : K × V) (es : List (K × V))
      → IsStrictlySortedBy R (keys_of (e ∷ es)) → lookup (is_at (R key)) (e ∷ es) ≡ Some old
      → (lookup (is_at (R key)) es ≡ Some old → set_value (is_at (R key)) es v ≡ insert_entry R es key v)
      → (o : Ordering) → R key e.0 ≡ o
      → set_value (is_at (R key)) (e ∷ es) v ≡ insert_entry R (e ∷ es) key v
  set-insert_first R total key old v e es sorted found rest Less below =
      let none = none_below_head total key e es sorted below in
      let absent : lookup (is_at (R key)) (e ∷ es) ≡ None = lookup-none (is_at (R key)) (e ∷ es) none in
      let never : Some old ≡ None = sym found ∙ absent in
      cc never
  set-insert_first R total key old v e es sorted found rest Equal same = rw same refl
  set-insert_first R total key old v e es sorted found rest Greater above =
      let later : lookup (is_at (R key)) es ≡ Some old = rw above at found in
      rw above (ap (λ (more : List (K × V)). e ∷ more) (rest later))

  set-insert :
      (R : K → K → Ordering) → IsTotalOrder R → (key : K) (old v : V) (es : List (K × V)) → IsStrictlySortedBy R (keys_of es)
      → lookup (is_at (R key)) es ≡ Some old → set_value (is_at (R key)) es v ≡ insert_entry R es key v
  set-insert R total key old v [] sorted found = cc
  set-insert R total key old v (e ∷ es) sorted found =
      set-insert_first R total key old v e es sorted found
      (set-insert R total key old v es (sorted_tail R e.0 (keys_of es) sorted)) (R key e.0) refl

  -- the newer of two values is written, and the older one stays
  pub set-newer :
      (R : K → K → Ordering) → IsTotalOrder R → (version : V → ℕ) (key : K) (old value new : V) (es : List (K × V))
      → IsStrictlySortedBy R (keys_of es) → lookup (is_at (R key)) es ≡ Some old
      → new ≡ cond (nat_lt (version old) (version value)) value old
      → set_value (is_at (R key)) es new ≡ with_newer R version es key value
  set-newer R total version key old value new es sorted found is = elim (cases_Bool (nat_lt (version old) (version value))) [
    | inl newer ↦
        let same : new ≡ value = is ∙ rw newer refl in
        rw (found, newer) (ap (set_value (is_at (R key)) es) same ∙ set-insert R total key old value es sorted found)
    | inr older ↦
        let same : new ≡ old = is ∙ rw older refl in
        rw (found, older) (ap (set_value (is_at (R key)) es) same ∙ set_value_same (is_at (R key)) es old found)
  ]

  -- the step takes it back
  pub newer-back :
      (R : K → K → Ordering) (key : K) (b : Bool) (old value new : V) (es : List (K × V)) (steps later : List (Step K V))
      → lookup (is_at (R key)) es ≡ Some old
      → new ≡ cond b value old
      → later ≡ cond b (steps ++ record { key = key; was = Some old } ∷ []) steps
      → before_all R later (set_value (is_at (R key)) es new) ≡ before_all R steps es
  newer-back R key true old value new es steps later found is more =
      rw more
      (before_all-append R steps (record { key = key; was = Some old } ∷ []) (set_value (is_at (R key)) es new)
      ∙ ap (before_all R steps) (set-back (is_at (R key)) es old new found))
  newer-back R key false old value new es steps later found is more =
      rw (more, is) (ap (before_all R steps) (set_value_same (is_at (R key)) es old found))

  -- what holds of each entry, where one value is written over another
  all-set :
      (test : K → Bool) (P Q : K × V → Type 0) (old v : V) (es : List (K × V)) → lookup test es ≡ Some old
      → ((e : K × V) → P e → Q e) → ((k : K) → test k ≡ true → P (k, old) → Q (k, v)) → AllByRecursion P es
      → AllByRecursion Q (set_value test es v)
  all-set test P Q old v [] found weaker own all = cc
  all-set test P Q old v (e ∷ es) found weaker own all = elim (cases_Bool (test e.0)) [
    | inl passes ↦
        let same : Some e.1 ≡ Some old = rw passes at found in
        let value : e.1 ≡ old = cc in
        let first : P (e.0, old) = subst (λ (x : V). P (e.0, x)) value all.0 in
        rw passes (own e.0 passes first, AllByRecursion-weaker P Q weaker es all.1)
    | inr fails ↦
        let later : lookup test es ≡ Some old = rw fails at found in
        rw fails (weaker e all.0, all-set test P Q old v es later weaker own all.1)
  ]

  all-insert_first :
      (R : K → K → Ordering) → IsTotalOrder R → (P : K × V → Type 0) (key : K) (v : V) (e : K × V) (es : List (K × V))
      → ((k : K) → is_eq (R key k) ≡ true → P (k, v)) → AllByRecursion P (e ∷ es) → AllByRecursion P (insert_entry R es key v)
      → (o : Ordering) → R key e.0 ≡ o → AllByRecursion P (insert_entry R (e ∷ es) key v)
  all-insert_first R total P key v e es own all rest Less below = rw below (own key (rw (tied_itself total key) refl), all)
  all-insert_first R total P key v e es own all rest Equal same = rw same (own e.0 (rw same refl), all.1)
  all-insert_first R total P key v e es own all rest Greater above = rw above (all.0, rest)

  all-insert :
      (R : K → K → Ordering) → IsTotalOrder R → (P : K × V → Type 0) (key : K) (v : V) (es : List (K × V))
      → ((k : K) → is_eq (R key k) ≡ true → P (k, v)) → AllByRecursion P es → AllByRecursion P (insert_entry R es key v)
  all-insert R total P key v [] own all = (own key (rw (tied_itself total key) refl), tt)
  all-insert R total P key v (e ∷ es) own all =
      all-insert_first R total P key v e es own all (all-insert R total P key v es own all.1) (R key e.0) refl

  pub places-kept :
      (R : K → K → Ordering) (end : K × V → ℕ) (old new : List (ℕ × K)) (es : List (K × V)) → KeepsPlacesBy R old new
      → HavePlacesBy R end old es → HavePlacesBy R end new es
  places-kept R end old new es kept all =
      AllByRecursion-weaker (λ e. has_place_by R old e.0 (end e) ≡ true) (λ e. has_place_by R new e.0 (end e) ≡ true)
      (λ e some. kept e.0 (end e) some) es all

  pub places-set :
      (R : K → K → Ordering) (end : V → ℕ) (old new : List (ℕ × K)) (key : K) (was v : V) (es : List (K × V))
      → lookup (is_at (R key)) es ≡ Some was → KeepsPlacesBy R old new
      → ((k : K) → is_eq (R key k) ≡ true → has_place R end old (k, was) ≡ true → has_place R end new (k, v) ≡ true)
      → HavePlaces R end old es → HavePlaces R end new (set_value (is_at (R key)) es v)
  places-set R end old new key was v es found kept own all =
      all-set (is_at (R key)) (λ e. has_place R end old e ≡ true) (λ e. has_place R end new e ≡ true) was v es found
      (λ e some. kept e.0 (end e.1) some) own all

  pub places-insert :
      (R : K → K → Ordering) → IsTotalOrder R → (end : V → ℕ) (old new : List (ℕ × K)) (key : K) (v : V) (es : List (K × V))
      → KeepsPlacesBy R old new → ((k : K) → is_eq (R key k) ≡ true → has_place R end new (k, v) ≡ true)
      → HavePlaces R end old es → HavePlaces R end new (insert_entry R es key v)
  places-insert R total end old new key v es kept own all =
      all-insert R total (λ e. has_place R end new e ≡ true) key v es own
      (places-kept R (λ e. end e.1) old new es kept all)

  pub places-moved :
      (R : K → K → Ordering) (end : K × V → ℕ) (old new : List (ℕ × K)) (es : List (K × V)) → IsPermutation old new
      → HavePlacesBy R end old es → HavePlacesBy R end new es
  places-moved R end old new es moves all =
      places-kept R end old new es
      (λ key by some. sym (list_any-IsPermutation (λ (place : ℕ × K). is_eq (R place.1 key) && nat_le place.0 by) old new moves) ∙ some)
      all

  -- how many entries there are where a value is written under a key that has none
  length-insert_first :
      (R : K → K → Ordering) (key : K) (v : V) (e : K × V) (es : List (K × V)) → lookup (is_at (R key)) (e ∷ es) ≡ None
      → (lookup (is_at (R key)) es ≡ None → length (insert_entry R es key v) ≡ length es + 1)
      → (o : Ordering) → R key e.0 ≡ o → length (insert_entry R (e ∷ es) key v) ≡ length (e ∷ es) + 1
  length-insert_first R key v e es absent rest Less below = rw below (omega arith)
  length-insert_first R key v e es absent rest Equal same = let some : Some e.1 ≡ None = rw same at absent in absurd (cc)
  length-insert_first R key v e es absent rest Greater above =
      let later : lookup (is_at (R key)) es ≡ None = rw above at absent in
      let more = rest later in
      rw above (omega (arith, more))

  pub length-insert :
      (R : K → K → Ordering) (key : K) (v : V) (es : List (K × V)) → lookup (is_at (R key)) es ≡ None
      → length (insert_entry R es key v) ≡ length es + 1
  length-insert R key v [] absent = refl
  length-insert R key v (e ∷ es) absent =
      length-insert_first R key v e es absent (length-insert R key v es) (R key e.0) refl

  -- a write keeps the entries that are there, and makes one more where a key has a value only then
  insert-longer_first :
      (R : K → K → Ordering) (key : K) (v : V) (e : K × V) (es : List (K × V)) → length es ≤ length (insert_entry R es key v)
      → (o : Ordering) → R key e.0 ≡ o → length (e ∷ es) ≤ length (insert_entry R (e ∷ es) key v)
  insert-longer_first R key v e es rest Less below = rw below (omega arith)
  insert-longer_first R key v e es rest Equal same = rw same (omega arith)
  insert-longer_first R key v e es rest Greater above = rw above (omega (arith, rest))

  insert-longer : (R : K → K → Ordering) (key : K) (v : V) (es : List (K × V)) → length es ≤ length (insert_entry R es key v)
  insert-longer R key v [] = omega arith
  insert-longer R key v (e ∷ es) = insert-longer_first R key v e es (insert-longer R key v es) (R key e.0) refl

  insert-more_first :
      (R : K → K → Ordering) (key k : K) (v : V) (e : K × V) (es : List (K × V)) → lookup (is_at (R key)) (e ∷ es) ≡ None
      → is_some (lookup (is_at (R key)) (insert_entry R (e ∷ es) k v)) ≡ true
      → (lookup (is_at (R key)) es ≡ None → is_some (lookup (is_at (R key)) (insert_entry R es k v)) ≡ true
      → length es + 1 ≤ length (insert_entry R es k v))
      → (b : Bool) → is_eq (R key e.0) ≡ b → (o : Ordering) → R k e.0 ≡ o
      → length (e ∷ es) + 1 ≤ length (insert_entry R (e ∷ es) k v)
  insert-more_first R key k v e es absent some rest true here o at =
      let found : Some e.1 ≡ None = rw here at absent in absurd (cc)
  insert-more_first R key k v e es absent some rest false other Less below = rw below (omega arith)
  insert-more_first R key k v e es absent some rest false other Equal same =
      let none : lookup (is_at (R key)) es ≡ None = rw other at absent in
      let is : is_some (lookup (is_at (R key)) es) ≡ true = rw (same, other) at some in
      let never : false ≡ true = rw none at is in
      absurd (cc)
  insert-more_first R key k v e es absent some rest false other Greater above =
      let none : lookup (is_at (R key)) es ≡ None = rw other at absent in
      let is : is_some (lookup (is_at (R key)) (insert_entry R es k v)) ≡ true = rw (above, other) at some in
      let more = rest none is in
      rw above (omega (arith, more))

  insert-more :
      (R : K → K → Ordering) (key k : K) (v : V) (es : List (K × V)) → lookup (is_at (R key)) es ≡ None
      → is_some (lookup (is_at (R key)) (insert_entry R es k v)) ≡ true → length es + 1 ≤ length (insert_entry R es k v)
  insert-more R key k v [] absent some = omega arith
  insert-more R key k v (e ∷ es) absent some =
      insert-more_first R key k v e es absent some (insert-more R key k v es) (is_eq (R key e.0)) refl (R k e.0) refl

  all-longer : (R : K → K → Ordering) (pairs es : List (K × V)) → length es ≤ length (with_all R es pairs)
  all-longer R [] es = omega arith
  all-longer R (p ∷ pairs) es =
      let one = insert-longer R p.0 p.1 es in
      let rest = all-longer R pairs (insert_entry R es p.0 p.1) in
      omega (arith, one, rest)

  pub all-more :
      (R : K → K → Ordering) (key : K) (pairs es : List (K × V)) → lookup (is_at (R key)) es ≡ None
      → is_some (lookup (is_at (R key)) (with_all R es pairs)) ≡ true → length es + 1 ≤ length (with_all R es pairs)
  all-more R key [] es absent some = let never : false ≡ true = rw absent at some in absurd (cc)
  all-more R key (p ∷ pairs) es absent some = elim (cases_Bool (is_some (lookup (is_at (R key)) (insert_entry R es p.0 p.1)))) [
    | inl now ↦
        let one = insert-more R key p.0 p.1 es absent now in
        let rest = all-longer R pairs (insert_entry R es p.0 p.1) in
        omega (arith, one, rest)
    | inr yet ↦
        let one = insert-longer R p.0 p.1 es in
        let rest = all-more R key pairs (insert_entry R es p.0 p.1)
        (none_from (lookup (is_at (R key)) (insert_entry R es p.0 p.1)) yet) some in
        omega (arith, one, rest)
  ]

  pub removed-fewer : (test : K → Bool) (es : List (K × V)) → length es ≤ length (remove_entry test es) + 1
  removed-fewer test [] = omega arith
  removed-fewer test (e ∷ es) = elim (cases_Bool (test e.0)) [
    | inl passes ↦ rw passes (omega arith)
    | inr fails ↦ let rest = removed-fewer test es in rw fails (omega (arith, rest))
  ]
