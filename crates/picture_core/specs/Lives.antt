-- The entries that several things give live as each of those does.
use Rattle.std.proofs.Common.{ℕ, List, [], ◌∷◌, flat_map, inl, inr}
use Rattle.list_members.specs.Members.{IsIn-either}
use Rattle.picture_core.specs.Entry.{Entry}
use Rattle.picture_core.specs.Key.{Key}
use Rattle.picture_core.specs.Kept.{HaveLife}

pub HaveLife-flat_map :
    {X : Type 0} (life : Key → ℕ) (f : X → List Entry) (xs : List X)
    → ((x : X) → HaveLife life (f x))
    → HaveLife life (flat_map f xs)
HaveLife-flat_map life f [] each e here = absurd here
HaveLife-flat_map life f (x ∷ xs) each e here = elim (IsIn-either e (f x) (flat_map f xs) here) [
  | inl now ↦ each x e now
  | inr later ↦ HaveLife-flat_map life f xs each e later
]
