-- A list of which some members were read, and what is left spells the others.
use Rattle.std.proofs.Common.{◌≡◌, List, [], ◌∷◌, ◌++◌, Option, Some, None, option_map, option_and_then, refl, sym, ap, append_assoc}

-- what the parts that are left spell, behind what was read
abbrev pub read_before : {A : Type 0} → List A → Option (List A) → Option (List A)
read_before items rest = option_map (λ more. items ++ more) rest

pub one_more : {A : Type 0} (items : List A) (one : A) (rest : Option (List A))
    → read_before items (option_and_then (λ more. Some (one ∷ more)) rest) ≡ read_before (items ++ one ∷ []) rest
one_more items one None = refl
one_more items one (Some more) = ap Some (sym (append_assoc items (one ∷ []) more))

pub read_start : {A : Type 0} (rest : Option (List A)) → rest ≡ read_before [] rest
read_start None = refl
read_start (Some more) = refl
