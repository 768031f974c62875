-- Where room was made to count, so that counting takes no memory.
use Rattle.std.specs.Prelude.{ℕ, IsSome}
use Rattle.std.specs.BTreeMap.{get}
use Rattle.std.specs.Ordering.{nat_cmp, ordering_then}
use Rattle.ground_core.specs.declared.files.Files.{Files}

abbrev pub HasRoomToCount : Files → ℕ → ℕ → Type 0
HasRoomToCount files version product = IsSome
    (get (λ x y. ordering_then (nat_cmp x.0 y.0) (nat_cmp x.1 y.1)) files.counts (version, product))
