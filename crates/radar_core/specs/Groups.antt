-- How the numbers of empty blocks are grouped, one record a group.
use Rattle.std.specs.Prelude.{ℕ, zero, suc, ◌+◌, ◌/◌, Bool, not, ◌&&◌, ◌==◌, nat_le, List, [], ◌∷◌}
use Rattle.std.specs.Prelude.{length, filter}

-- whether a number is of the group that begins at a base: of its ring, and at most 116 further
abbrev pub is_joined : ℕ → ℕ → Bool
is_joined base number = nat_le number (base + 116) && (number / 450 == base / 450)

-- at most so many groups: one begins at the least number that is not grouped yet, which is the
-- first of those that rise, and takes every given number that is joined to it
abbrev pub groups_at_most : ℕ → List ℕ → List (List ℕ)
groups_at_most zero numbers = []
groups_at_most (suc most) [] = []
groups_at_most (suc most) (base ∷ numbers) = (base ∷ filter (is_joined base) numbers)
    ∷ groups_at_most most (filter (λ number. not (is_joined base number)) numbers)

-- the groups of rising numbers
unfoldable pub blank_groups : List ℕ → List (List ℕ)
blank_groups numbers = groups_at_most (length numbers) numbers
