-- A map from keys to what is kept, seen as entries: a write is the put of a newer entry, and what has ended falls out.
use Rattle.std.proofs.Common.{◌≡◌, ℕ, true, false, nat_lt, List, [], ◌∷◌, map, filter, None, refl, sym}
use Rattle.std.proofs.Common.{ap, ◌∙◌, inl, inr, subst}
use Rattle.std.specs.BTreeMap.{insert_entry, is_at}
use Rattle.std.specs.List.{AllByRecursion}
use Rattle.std.specs.List.Sorted.{IsStrictlySortedBy}
use Rattle.std.specs.Map.{keys_of, lookup}
use Rattle.std.specs.declared.cmp.Ordering.{Ordering}
use Rattle.std.specs.declared.cmp.Ordering.TheVariants.{Less, Equal, Greater}
use Rattle.std.proofs.lemmas.Bool.{cases_Bool}
use Rattle.std.proofs.lemmas.Map.Keys.{sorted_head, sorted_tail}
use Rattle.picture_core.specs.Entry.{Entry}
use Rattle.picture_core.specs.Kept.{AreAbove, IsRising, keys, live_entries, put}
use Rattle.picture_core.specs.Key.{Key as Named, key_cmp}
use Rattle.picture_core.specs.Views.{kept_entry, key_view, pair_entry}
use Rattle.undo_map.specs.Ends.{is_newer, with_newer}
use Rattle.picture_core.specs.declared.kept.Kept.{Kept}
use Rattle.picture_core.specs.declared.key.Key.{Key}
use Rattle.picture_core.proofs.Keys.{equal_from_key_cmp}
use Rattle.picture_core.proofs.KeysRising.{AreAbove-lower}

abbrev pub version_of : Kept → ℕ
version_of kept = kept.version

-- an order of the code's keys that is the order of the keys that they stand for
pub record IsKeyOrder (R : Key → Key → Ordering) : Type 0 where
  pub agrees : (a b : Key) → R a b ≡ key_cmp (key_view a) (key_view b)

-- keys that rise
above-pairs :
    (R : Key → Key → Ordering) → IsKeyOrder R → (k : Key) (es : List (Key × Kept))
    → AllByRecursion (λ y. R k y ≡ Less) (keys_of es) → AreAbove (key_view k) (keys (map pair_entry es))
above-pairs R order k [] above = tt
above-pairs R order k (e ∷ es) above = (sym (order.agrees k e.0) ∙ above.0, above-pairs R order k es above.1)

pub rising-pairs :
    (R : Key → Key → Ordering) → IsKeyOrder R → (es : List (Key × Kept)) → IsStrictlySortedBy R (keys_of es)
    → IsRising (keys (map pair_entry es))
rising-pairs R order [] sorted = tt
rising-pairs R order (e ∷ es) sorted = (
  above-pairs R order e.0 es (sorted_head R e.0 (keys_of es) sorted),
  rising-pairs R order es (sorted_tail R e.0 (keys_of es) sorted),
)

-- nothing is found at a key below all
lookup-above :
    (R : Key → Key → Ordering) → IsKeyOrder R → (k : Key) (es : List (Key × Kept))
    → AreAbove (key_view k) (keys (map pair_entry es))
    → lookup (is_at (R k)) es ≡ None
lookup-above R order k [] above = refl
lookup-above R order k (e ∷ es) above =
    let below : R k e.0 ≡ Less = order.agrees k e.0 ∙ above.0 in
    rw below (lookup-above R order k es above.1)

-- the entry of a newer version, written over the first entries by its order
put-newer_first :
    (R : Key → Key → Ordering) → IsKeyOrder R → (k : Key) (new : Kept) (e : Key × Kept) (es : List (Key × Kept))
    → is_newer version_of (lookup (is_at (R k)) (e ∷ es)) new.version ≡ true
    → (is_newer version_of (lookup (is_at (R k)) es) new.version ≡ true
    → map pair_entry (insert_entry R es k new) ≡ put (kept_entry k new) (map pair_entry es))
    → (o : Ordering) → R k e.0 ≡ o
    → map pair_entry (insert_entry R (e ∷ es) k new) ≡ put (kept_entry k new) (map pair_entry (e ∷ es))
put-newer_first R order k new e es newer rest Less is =
    let by_key : key_cmp (key_view k) (key_view e.0) ≡ Less = sym (order.agrees k e.0) ∙ is in
    rw (is, by_key) refl
put-newer_first R order k new e es newer rest Equal is =
    let by_key : key_cmp (key_view k) (key_view e.0) ≡ Equal = sym (order.agrees k e.0) ∙ is in
    let same : key_view k ≡ key_view e.0 = equal_from_key_cmp (key_view k) (key_view e.0) by_key in
    let later : nat_lt e.1.version new.version ≡ true = rw is at newer in
    let named : Named → Entry =
    λ n. record { key = n; version = new.version; until = new.until; value = (kept_entry k new).value } in
    rw (is, by_key, later) (ap (λ (n : Named). named n ∷ map pair_entry es) (sym same))
put-newer_first R order k new e es newer rest Greater is =
    let by_key : key_cmp (key_view k) (key_view e.0) ≡ Greater = sym (order.agrees k e.0) ∙ is in
    let newer_yet : is_newer version_of (lookup (is_at (R k)) es) new.version ≡ true = rw is at newer in
    rw (is, by_key) (ap (λ (more : List Entry). pair_entry e ∷ more) (rest newer_yet))

pub put-newer :
    (R : Key → Key → Ordering) → IsKeyOrder R → (k : Key) (new : Kept) (es : List (Key × Kept))
    → is_newer version_of (lookup (is_at (R k)) es) new.version ≡ true
    → map pair_entry (insert_entry R es k new) ≡ put (kept_entry k new) (map pair_entry es)
put-newer R order k new [] newer = refl
put-newer R order k new (e ∷ es) newer = put-newer_first R order k new e es newer (put-newer R order k new es) (R k e.0) refl

-- an entry whose version is no newer changes nothing
put-older_first :
    (R : Key → Key → Ordering) → IsKeyOrder R → (k : Key) (new : Kept) (e : Key × Kept) (es : List (Key × Kept))
    → IsRising (keys (map pair_entry (e ∷ es))) → is_newer version_of (lookup (is_at (R k)) (e ∷ es)) new.version ≡ false
    → (is_newer version_of (lookup (is_at (R k)) es) new.version ≡ false → map pair_entry es ≡ put (kept_entry k new) (map pair_entry es))
    → (o : Ordering) → R k e.0 ≡ o → map pair_entry (e ∷ es) ≡ put (kept_entry k new) (map pair_entry (e ∷ es))
put-older_first R order k new e es rising older rest Less is =
    let by_key : key_cmp (key_view k) (key_view e.0) ≡ Less = sym (order.agrees k e.0) ∙ is in
    let above = AreAbove-lower (key_view k) (key_view e.0) (keys (map pair_entry es)) by_key rising.0 in
    let absent = lookup-above R order k (e ∷ es) (by_key, above) in
    let none : true ≡ false = rw absent at older in
    cc none
put-older_first R order k new e es rising older rest Equal is =
    let by_key : key_cmp (key_view k) (key_view e.0) ≡ Equal = sym (order.agrees k e.0) ∙ is in
    let kept : nat_lt e.1.version new.version ≡ false = rw is at older in
    rw (by_key, kept) refl
put-older_first R order k new e es rising older rest Greater is =
    let by_key : key_cmp (key_view k) (key_view e.0) ≡ Greater = sym (order.agrees k e.0) ∙ is in
    let older_yet : is_newer version_of (lookup (is_at (R k)) es) new.version ≡ false = rw is at older in
    rw by_key (ap (λ (more : List Entry). pair_entry e ∷ more) (rest older_yet))

pub put-older :
    (R : Key → Key → Ordering) → IsKeyOrder R → (k : Key) (new : Kept) (es : List (Key × Kept))
    → IsRising (keys (map pair_entry es))
    → is_newer version_of (lookup (is_at (R k)) es) new.version ≡ false → map pair_entry es ≡ put (kept_entry k new) (map pair_entry es)
put-older R order k new [] rising older = absurd (cc)
put-older R order k new (e ∷ es) rising older =
    put-older_first R order k new e es rising older (put-older R order k new es rising.1) (R k e.0) refl

-- a value that is written where none is as new is put
pub put-with_newer :
    (R : Key → Key → Ordering) → IsKeyOrder R → (k : Key) (new : Kept) (es : List (Key × Kept))
    → IsStrictlySortedBy R (keys_of (with_newer R version_of es k new))
    → map pair_entry (with_newer R version_of es k new) ≡ put (kept_entry k new) (map pair_entry es)
put-with_newer R order k new es sorted = elim (cases_Bool (is_newer version_of (lookup (is_at (R k)) es) new.version)) [
  | inl newer ↦ rw newer (put-newer R order k new es newer)
  | inr older ↦
      let same : with_newer R version_of es k new ≡ es = rw older refl in
      let rising = rising-pairs R order es (subst (λ (xs : List (Key × Kept)). IsStrictlySortedBy R (keys_of xs)) same sorted) in
      ap (map pair_entry) same ∙ put-older R order k new es rising older
]

-- the pairs that have not ended are the entries that have not
pub live-pairs :
    (m : ℕ) (es : List (Key × Kept))
    → map pair_entry (filter (λ pair. nat_lt m pair.1.until) es) ≡ live_entries m (map pair_entry es)
live-pairs m [] = refl
live-pairs m (e ∷ es) = elim (cases_Bool (nat_lt m e.1.until)) [
  | inl lives ↦ rw lives (ap (λ (more : List Entry). pair_entry e ∷ more) (live-pairs m es))
  | inr over ↦ rw over (live-pairs m es)
]
