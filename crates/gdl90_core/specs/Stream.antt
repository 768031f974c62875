-- A stream of bytes, cut at each flag 7E. A piece stands between two flags; one flag may end a
-- piece and begin the next.
use Rattle.std.specs.Prelude.{ℕ, ◌==◌, if◌then◌else◌, List, [], ◌∷◌, ◌++◌, Option, Some, None}
use Rattle.std.specs.Option.{option_map, option_or, option_to_list}

-- the bytes before the first flag, where there is a flag
abbrev pub before_flag : List ℕ → Option (List ℕ)
before_flag [] = None
before_flag (byte ∷ more) =
    if byte == 0x7E then Some [] else option_map (λ piece. byte ∷ piece) (before_flag more)

-- the bytes after the last flag, where there is a flag
abbrev pub behind_flag : List ℕ → Option (List ℕ)
behind_flag [] = None
behind_flag (byte ∷ more) = option_or (behind_flag more) (if byte == 0x7E then Some more else None)

-- an empty piece says nothing
abbrev pub if_not_empty : Option (List ℕ) → Option (List ℕ)
if_not_empty None = None
if_not_empty (Some []) = None
if_not_empty (Some (byte ∷ more)) = Some (byte ∷ more)

-- the pieces that are not empty, in order: at each flag, what stands before the next one
abbrev pub pieces_of : List ℕ → List (List ℕ)
pieces_of [] = []
pieces_of (byte ∷ more) =
    (if byte == 0x7E then option_to_list (if_not_empty (before_flag more)) else [])
    ++ pieces_of more

-- the piece, not empty, that this byte ends after the stream
abbrev pub ended_piece : List ℕ → ℕ → Option (List ℕ)
ended_piece stream byte = if byte == 0x7E then if_not_empty (behind_flag stream) else None
