-- Steps taken back: a write taken back is what it found, and steps in a row go back one after another.
use Rattle.std.proofs.Common.{◌≡◌, List, [], ◌∷◌, ◌++◌, refl, ap, ◌∙◌, inl, inr}
use Rattle.std.specs.Prelude.{Option, Some, None, Bool}
use Rattle.std.specs.BTreeMap.{insert_entry, is_at}
use Rattle.std.specs.Cmp.{IsTotalOrder}
use Rattle.std.specs.List.Sorted.{IsStrictlySortedBy}
use Rattle.std.specs.Map.{keys_of, lookup, set_value}
use Rattle.std.specs.declared.cmp.Ordering.{Ordering}
use Rattle.std.specs.declared.cmp.Ordering.TheVariants.{Less, Equal, Greater}
use Rattle.std.proofs.lemmas.Bool.{cases_Bool}
use Rattle.std.proofs.lemmas.Cmp.{tied_itself}
use Rattle.std.proofs.lemmas.Map.{lookup-none}
use Rattle.std.proofs.lemmas.Map.Entries.{none_below_head}
use Rattle.std.proofs.lemmas.Map.Keys.{sorted_tail}
use Rattle.undo_map.specs.Steps.{before_all, taken_back}
use Rattle.undo_map.specs.declared.step.Step.{Step}

module _ {K V : Type 0} where
  pub before_all-append :
      (R : K → K → Ordering) (early late : List (Step K V)) (es : List (K × V))
      → before_all R (early ++ late) es ≡ before_all R early (before_all R late es)
  before_all-append R [] late es = refl
  before_all-append R (s ∷ early) late es = ap (taken_back R s.key s.was) (before_all-append R early late es)

  taken_back-after :
      (R : K → K → Ordering) (k : K) (was : Option V) (e : K × V) (es : List (K × V)) → R k e.0 ≡ Greater
      → taken_back R k was (e ∷ es) ≡ e ∷ taken_back R k was es
  taken_back-after R k None e es above = rw above refl
  taken_back-after R k (Some was) e es above = rw above refl

  pub set_value-absent :
      (test : K → Bool) (es : List (K × V)) (v : V) → lookup test es ≡ None → set_value test es v ≡ es
  set_value-absent test [] v absent = refl
  set_value-absent test (e ∷ es) v absent = elim (cases_Bool (test e.0)) [
    | inl passes ↦ let some : Some e.1 ≡ None = rw passes at absent in cc some
    | inr fails ↦
        let later : lookup test es ≡ None = rw fails at absent in
        rw fails (ap (λ (more : List (K × V)). e ∷ more) (set_value-absent test es v later))
  ]

  -- a write taken back with what it found, at a first entry by its order
  taken_back-first :
      (R : K → K → Ordering) → IsTotalOrder R → (k : K) (v : V) (e : K × V) (es : List (K × V))
      → IsStrictlySortedBy R (keys_of (e ∷ es)) → taken_back R k (lookup (is_at (R k)) es) (insert_entry R es k v) ≡ es
      → (o : Ordering) → R k e.0 ≡ o
      → taken_back R k (lookup (is_at (R k)) (e ∷ es)) (insert_entry R (e ∷ es) k v) ≡ e ∷ es
  taken_back-first R total k v e es sorted rest Less below =
      let none = none_below_head total k e es sorted below in
      let absent : lookup (is_at (R k)) (e ∷ es) ≡ None = lookup-none (is_at (R k)) (e ∷ es) none in
      rw absent (rw below (rw (tied_itself total k) refl))
  taken_back-first R total k v e es sorted rest Equal same = rw same (rw same refl)
  taken_back-first R total k v e es sorted rest Greater above =
      rw above
      (taken_back-after R k (lookup (is_at (R k)) es) e (insert_entry R es k v) above
      ∙ ap (λ (more : List (K × V)). e ∷ more) rest)

  -- a write taken back with what it found changes nothing
  pub taken_back-insert :
      (R : K → K → Ordering) → IsTotalOrder R → (k : K) (v : V) (es : List (K × V)) → IsStrictlySortedBy R (keys_of es)
      → taken_back R k (lookup (is_at (R k)) es) (insert_entry R es k v) ≡ es
  taken_back-insert R total k v [] sorted = rw (tied_itself total k) refl
  taken_back-insert R total k v (e ∷ es) sorted =
      let rest = taken_back-insert R total k v es (sorted_tail R e.0 (keys_of es) sorted) in
      taken_back-first R total k v e es sorted rest (R k e.0) refl
