-- The pieces of a stream that goes on, and of one that is put together.
use Rattle.std.specs.List.{AllByRecursion}
use Rattle.std.specs.Prelude.{◌==◌, if◌then◌else◌, Option, Some, None}
use Rattle.std.specs.Option.{option_map, option_or, option_to_list}
use Rattle.std.proofs.Common.{◌≡◌, ◌≢◌, ℕ, Bool, true, false, List, [], ◌∷◌, ◌++◌, refl, sym, ◌∙◌, ap}
use Rattle.std.proofs.Math.Path.{ap₂}
use Rattle.std.proofs.lemmas.Bool.{ne_eqb}
use Rattle.std.proofs.lemmas.List.{append-nil, append_assoc}
use Rattle.list_members.specs.Tests.{or_none}
use Rattle.gdl90_core.specs.Stream.{before_flag, behind_flag, if_not_empty, pieces_of}
use Rattle.gdl90_core.specs.Laws.{PiecesGoOn}

before_step :
    (x : ℕ) (begins ends : Bool) (o : Option (List ℕ)) (more : List ℕ)
    → (if begins then Some [] else option_map (λ piece. x ∷ piece) (option_or o (if ends then Some more else None)))
    ≡ option_or (if begins then Some [] else option_map (λ piece. x ∷ piece) o) (if ends then Some (x ∷ more) else None)
before_step x true ends o more = refl
before_step x false true None more = refl
before_step x false false None more = refl
before_step x false true (Some piece) more = refl
before_step x false false (Some piece) more = refl

before_flag-append :
    (stream : List ℕ) (byte : ℕ)
    → before_flag (stream ++ byte ∷ []) ≡ option_or (before_flag stream) (if byte == 0x7E then Some stream else None)
before_flag-append [] byte = refl
before_flag-append (x ∷ more) byte =
    ap (λ (o : Option (List ℕ)). if x == 0x7E then Some [] else option_map (λ piece. x ∷ piece) o) (before_flag-append more byte)
    ∙ before_step x (x == 0x7E) (byte == 0x7E) (before_flag more) more

-- a stream without a flag has no piece
no_flag : (stream : List ℕ) → before_flag stream ≡ None → (behind_flag stream ≡ None) × (pieces_of stream ≡ [])
no_flag [] e = (refl, refl)
no_flag (x ∷ more) e = at (λ is. no_flag more is) (x == 0x7E) (before_flag more) refl e
  where
    at :
        (before_flag more ≡ None → (behind_flag more ≡ None) × (pieces_of more ≡ []))
        → (begins : Bool) (o : Option (List ℕ)) → before_flag more ≡ o
        → (if begins then Some [] else option_map (λ piece. x ∷ piece) o) ≡ None
        → (option_or (behind_flag more) (if begins then Some more else None) ≡ None)
        × ((if begins then option_to_list (if_not_empty (before_flag more)) else []) ++ pieces_of more ≡ [])
    at rec true o is none = cc
    at rec false None is none =
        let none_more = rec is in
        (or_none (behind_flag more) ∙ none_more.0, none_more.1)
    at rec false (Some piece) is none = cc

-- where a flag stands, something stands behind the last one
has_flag : (stream piece : List ℕ) → before_flag stream ≡ Some piece → (last : List ℕ) × (behind_flag stream ≡ Some last)
has_flag [] piece e = cc
has_flag (x ∷ more) piece e = at (λ front is. has_flag more front is) (x == 0x7E) (before_flag more) refl e
  where
    at :
        ((front : List ℕ) → before_flag more ≡ Some front → (last : List ℕ) × (behind_flag more ≡ Some last))
        → (begins : Bool) (o : Option (List ℕ)) → before_flag more ≡ o
        → (if begins then Some [] else option_map (λ front. x ∷ front) o) ≡ Some piece
        → (last : List ℕ) × (option_or (behind_flag more) (if begins then Some more else None) ≡ Some last)
    at rec begins (Some front) is some =
        let later = rec front is in
        (later.0, ap (λ (o : Option (List ℕ)). option_or o (if begins then Some more else None)) later.1)
    at rec true None is some =
        (more, ap (λ (o : Option (List ℕ)). option_or o (Some more)) (no_flag more is).0)
    at rec false None is some = cc

-- what the piece of an option says, as a list of pieces
piece_list : Option (List ℕ) → List (List ℕ)
piece_list o = option_to_list (if_not_empty o)

-- both sides of the law, by whether the first byte begins a piece and the new byte ends one
cut_step :
    (begins ends : Bool) (more : List ℕ) (o : Option (List ℕ)) → before_flag more ≡ o
    → (if begins then piece_list (option_or (before_flag more) (if ends then Some more else None)) else [])
    ++ (pieces_of more ++ option_to_list (if ends then if_not_empty (behind_flag more) else None))
    ≡ ((if begins then piece_list (before_flag more) else []) ++ pieces_of more)
    ++ option_to_list
    (if ends then if_not_empty (option_or (behind_flag more) (if begins then Some more else None)) else None)
unfolding piece_list
cut_step true false more o is =
    ap (λ (b : Option (List ℕ)). piece_list b ++ (pieces_of more ++ [])) (or_none (before_flag more))
    ∙ sym (append_assoc (piece_list (before_flag more)) (pieces_of more) [])
cut_step false ends more o is =
    let side : Option (List ℕ) → List (List ℕ) =
    λ b. pieces_of more ++ option_to_list (if ends then if_not_empty b else None) in
    ap side (sym (or_none (behind_flag more)))
cut_step true true more None is =
    let none = no_flag more is in
    let left : Option (List ℕ) → List (List ℕ) → Option (List ℕ) → List (List ℕ) =
    λ b ps c. piece_list (option_or b (Some more)) ++ (ps ++ piece_list c) in
    let right : Option (List ℕ) → List (List ℕ) → Option (List ℕ) → List (List ℕ) =
    λ b ps c. (piece_list b ++ ps) ++ piece_list (option_or c (Some more)) in
    ap (λ (b : Option (List ℕ)). left b (pieces_of more) (behind_flag more)) is
    ∙ ap₂ (λ (ps : List (List ℕ)) (c : Option (List ℕ)). left None ps c) none.1 none.0
    ∙ append-nil (piece_list (Some more))
    ∙ sym (ap (λ (b : Option (List ℕ)). right b (pieces_of more) (behind_flag more)) is
    ∙ ap₂ (λ (ps : List (List ℕ)) (c : Option (List ℕ)). right None ps c) none.1 none.0)
cut_step true true more (Some front) is =
    let last = has_flag more front is in
    let left : Option (List ℕ) → Option (List ℕ) → List (List ℕ) =
    λ b c. piece_list (option_or b (Some more)) ++ (pieces_of more ++ piece_list c) in
    let right : Option (List ℕ) → Option (List ℕ) → List (List ℕ) =
    λ b c. (piece_list b ++ pieces_of more) ++ piece_list (option_or c (Some more)) in
    ap₂ left is last.1
    ∙ sym (append_assoc (piece_list (Some front)) (pieces_of more) (piece_list (Some last.0)))
    ∙ sym (ap₂ right is last.1)

pub pieces_go_on : PiecesGoOn
unfolding piece_list
pieces_go_on [] byte = at (byte == 0x7E)
  where
    at :
        (ends : Bool)
        → (if ends then piece_list None else []) ++ [] ≡ option_to_list (if ends then if_not_empty None else None)
    at true = refl
    at false = refl
pieces_go_on (x ∷ more) byte =
    let side : Option (List ℕ) → List (List ℕ) → List (List ℕ) =
    λ b ps. (if x == 0x7E then piece_list b else []) ++ ps in
    ap₂ side (before_flag-append more byte) (pieces_go_on more byte)
    ∙ cut_step (x == 0x7E) (byte == 0x7E) more (before_flag more) refl

-- no byte is a flag
abbrev pub NoFlag : List ℕ → Type 0
NoFlag bytes = AllByRecursion (λ byte. byte ≢ 0x7E) bytes

pub before_flag-piece : (piece more : List ℕ) → NoFlag piece → before_flag (piece ++ 0x7E ∷ more) ≡ Some piece
before_flag-piece [] more none = refl
before_flag-piece (byte ∷ piece) more none =
    let later : Option (List ℕ) = option_map (λ front. byte ∷ front) (before_flag (piece ++ 0x7E ∷ more)) in
    ap (λ (b : Bool). if b then Some [] else later) (ne_eqb byte 0x7E none.0)
    ∙ ap (option_map (λ (front : List ℕ). byte ∷ front)) (before_flag-piece piece more none.1)

-- what stands before the first flag is no piece
pub pieces_of-front : (front more : List ℕ) → NoFlag front → pieces_of (front ++ more) ≡ pieces_of more
pieces_of-front [] more none = refl
pieces_of-front (byte ∷ front) more none =
    let here : List (List ℕ) = option_to_list (if_not_empty (before_flag (front ++ more))) in
    ap (λ (b : Bool). (if b then here else []) ++ pieces_of (front ++ more)) (ne_eqb byte 0x7E none.0)
    ∙ pieces_of-front front more none.1

-- a piece between two flags, and then the others
pub pieces_of-piece :
    (byte : ℕ) (piece more : List ℕ) → NoFlag (byte ∷ piece)
    → pieces_of (0x7E ∷ (byte ∷ piece) ++ 0x7E ∷ more) ≡ (byte ∷ piece) ∷ pieces_of (0x7E ∷ more)
pieces_of-piece byte piece more none =
    ap₂ (λ (b : Option (List ℕ)) (ps : List (List ℕ)). option_to_list (if_not_empty b) ++ ps)
    (before_flag-piece (byte ∷ piece) more none) (pieces_of-front (byte ∷ piece) (0x7E ∷ more) none)
