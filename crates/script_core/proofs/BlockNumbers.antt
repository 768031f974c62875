-- The numbers of blocks, read one part at a time.
use Rattle.std.proofs.Common.{◌≡◌, ℕ, List, [], ◌∷◌, ◌++◌, Some, None, option_and_then, sym, ap, ◌∙◌}
use Rattle.script_core.proofs.ReadLists.{read_before, one_more}
use Rattle.script_core.specs.Fields.{block_number_in, block_numbers}

pub numbers_step : (items : List ℕ) (number : ℕ) (part : List ℕ) (others : List (List ℕ)) → Some number ≡ block_number_in part
    → read_before items (block_numbers (part ∷ others)) ≡ read_before (items ++ number ∷ []) (block_numbers others)
numbers_step items number part others is =
    ap (λ o. read_before items (option_and_then (λ (x : ℕ). option_and_then (λ more. Some (x ∷ more)) (block_numbers others)) o)) (sym is)
    ∙ one_more items number (block_numbers others)

pub numbers_none : (items : List ℕ) (part : List ℕ) (others : List (List ℕ)) → None ≡ block_number_in part
    → read_before items (block_numbers (part ∷ others)) ≡ None
numbers_none items part others is =
    ap (λ o. read_before items (option_and_then (λ (x : ℕ). option_and_then (λ more. Some (x ∷ more)) (block_numbers others)) o)) (sym is)
