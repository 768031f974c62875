-- The wrong bytes of a frame, read one field at a time.
use Rattle.std.proofs.Common.{◌≡◌, ℕ, ◌+◌, ◌<◌, List, [], ◌∷◌, ◌++◌, Some, None, option_and_then, sym, ap, ◌∙◌}
use Rattle.script_core.proofs.ReadLists.{read_before, one_more}
use Rattle.script_core.specs.Fields.{wrong_byte_in, wrong_from}

-- a wrong byte stands within the frame, and is a byte
abbrev pub IsWrongByte : ℕ × ℕ → Type 0
IsWrongByte one = (one.0 < 552) × (one.1 < 256)

pub wrong_step : (items : List (ℕ × ℕ)) (least : ℕ) (one : ℕ × ℕ) (field : List ℕ) (others : List (List ℕ)) → Some one ≡ wrong_byte_in least field
    → read_before items (wrong_from least (field ∷ others)) ≡ read_before (items ++ one ∷ []) (wrong_from (one.0 + 1) others)
wrong_step items least one field others is =
    ap (λ o. read_before items (option_and_then (λ (x : ℕ × ℕ). option_and_then (λ more. Some (x ∷ more)) (wrong_from (x.0 + 1) others)) o)) (sym is)
    ∙ one_more items one (wrong_from (one.0 + 1) others)

pub wrong_none : (items : List (ℕ × ℕ)) (least : ℕ) (field : List ℕ) (others : List (List ℕ)) → None ≡ wrong_byte_in least field
    → read_before items (wrong_from least (field ∷ others)) ≡ None
wrong_none items least field others is =
    ap (λ o. read_before items (option_and_then (λ (x : ℕ × ℕ). option_and_then (λ more. Some (x ∷ more)) (wrong_from (x.0 + 1) others)) o)) (sym is)
