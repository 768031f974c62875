use Rattle.std.proofs.Common.{ℕ, zero, suc, ◌<◌, List, [], ◌∷◌, length, slice_index_or, sym, subst, arith}
use Rattle.wire_trials.proofs.ends.a_piece_source_gives_its_bytes_in_the_sizes_listed.Goals as goal

abbrev listed : List ℕ
listed = 1 ∷ 9 ∷ 2 ∷ []

-- none of the three sizes is 0
sizes : (k d : ℕ) → k < length listed → 0 < slice_index_or listed k d
sizes zero d h = omega arith
sizes (suc zero) d h = omega arith
sizes (suc (suc zero)) d h = omega arith
sizes (suc (suc (suc k))) d h = absurd (omega arith)

-- src/ends.rt:120:22
pub new-source-requires : goal.new-source-requires
new-source-requires g c =
    subst (λ (xs : List ℕ). (k d : ℕ) → k < length xs → 0 < slice_index_or xs k d) (sym c.in_ok-numbers.ensures) sizes
