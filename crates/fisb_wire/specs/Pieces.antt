-- A source that gives its bytes in pieces of chosen sizes, as its callers see it.
use Rattle.std.specs.Prelude.{ℕ, ◌-◌, ◌^◌, List, [], ◌∷◌}

pub record Pieces : Type 0 where
  -- the bytes still to come
  pub left : List ℕ
  -- the most bytes that each of the next reads gives
  pub sizes : List ℕ

-- the most bytes that the next read gives: where no size is left, as many as any room has
abbrev pub next_size : List ℕ → ℕ
next_size [] = 2 ^ 64 - 1
next_size (size ∷ more) = size
