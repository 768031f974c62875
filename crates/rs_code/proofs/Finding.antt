-- Which words stand among all words.
use Rattle.std.proofs.Common.{◌≡◌, ℕ, zero, suc, ◌<◌, List, [], ◌∷◌, length, get_or, map, refl, arith, inl}
use Rattle.std.specs.List.{range_with_len}
use Rattle.list_members.specs.Membership.{IsIn}
use Rattle.list_members.specs.ListMembers.{flat_map_has, map_has}
use Rattle.list_members.specs.Ranges.{range_has}
use Rattle.rs_code.specs.Functions.{words}

-- a word of bytes stands among all words
pub IsIn-words :
    (count : ℕ) (word : List ℕ) → length word ≡ count → ((i : ℕ) → get_or word i 0 < 256) → IsIn word (words count)
unfolding words
IsIn-words zero [] l bytes = inl refl
IsIn-words zero (b ∷ bs) l bytes = absurd (omega arith)
IsIn-words (suc count) [] l bytes = absurd (omega arith)
IsIn-words (suc count) (b ∷ bs) l bytes =
    let fits = bytes 0 in
    flat_map_has (λ (byte : ℕ). map (λ (word : List ℕ). byte ∷ word) (words count)) b (b ∷ bs) (range_with_len 0 256)
    (range_has b 0 256 (omega arith) (omega arith))
    (map_has (λ (word : List ℕ). b ∷ word) bs (words count)
    (IsIn-words count bs (omega arith) (λ i. bytes (suc i))))
