-- What the entries were before steps of writing.
use Rattle.std.specs.Prelude.{List, [], ◌∷◌, Option, Some, None}
use Rattle.std.specs.BTreeMap.{is_at}
use Rattle.std.specs.Map.{remove_entry, set_value}
use Rattle.std.specs.declared.cmp.Ordering.{Ordering}
use Rattle.undo_map.specs.declared.step.Step.{Step}

-- entries with what stood under a key once more
abbrev pub taken_back : {K V : Type 0} → (K → K → Ordering) → K → Option V → List (K × V)
    → List (K × V)
taken_back cmp key None entries = remove_entry (is_at (cmp key)) entries
taken_back cmp key (Some was) entries = set_value (is_at (cmp key)) entries was

-- steps taken back, the last one first
abbrev pub before_all : {K V : Type 0} → (K → K → Ordering) → List (Step K V) → List (K × V)
    → List (K × V)
before_all cmp [] entries = entries
before_all cmp (step ∷ later) entries =
    taken_back cmp step.key step.was (before_all cmp later entries)
