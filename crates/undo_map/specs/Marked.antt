-- A map that may be taken back: its entries in the order of their keys, and those of the mark, if
-- one stands.
use Rattle.std.specs.Prelude.{List, [], ◌∷◌, Option}
use Rattle.std.specs.BTreeMap.{insert_entry}
use Rattle.std.specs.declared.cmp.Ordering.{Ordering}

pub record Marked (K V : Type 0) : Type 0 where
  pub entries : List (K × V)
  pub mark : Option (List (K × V))

-- entries with others written over them in turn
abbrev pub with_all : {K V : Type 0} → (K → K → Ordering) → List (K × V) → List (K × V)
    → List (K × V)
with_all cmp entries [] = entries
with_all cmp entries (e ∷ more) = with_all cmp (insert_entry cmp entries e.0 e.1) more
