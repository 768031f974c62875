-- What stands behind the last flag of a stream that goes on.
use Rattle.std.specs.Prelude.{◌==◌, if◌then◌else◌, Option, Some, None}
use Rattle.std.specs.Option.{option_map, option_or}
use Rattle.std.proofs.Common.{◌≡◌, ◌≢◌, ℕ, Bool, true, false, List, [], ◌∷◌, ◌++◌, refl, ◌∙◌, ap}
use Rattle.std.proofs.lemmas.Bool.{ne_eqb}
use Rattle.gdl90_core.specs.Stream.{behind_flag, if_not_empty, ended_piece}

option_or-map :
    (f : List ℕ → List ℕ) (o : Option (List ℕ)) (flag : Bool) (more : List ℕ)
    → option_or (option_map f o) (if flag then Some (f more) else None)
    ≡ option_map f (option_or o (if flag then Some more else None))
option_or-map f None true more = refl
option_or-map f None false more = refl
option_or-map f (Some piece) true more = refl
option_or-map f (Some piece) false more = refl

pub behind_other :
    (stream : List ℕ) (byte : ℕ) → byte ≢ 0x7E
    → behind_flag (stream ++ byte ∷ []) ≡ option_map (λ piece. piece ++ byte ∷ []) (behind_flag stream)
behind_other [] byte other = ap (λ (b : Bool). if b then Some [] else None) (ne_eqb byte 0x7E other)
behind_other (x ∷ more) byte other =
    let here : Option (List ℕ) = if x == 0x7E then Some (more ++ byte ∷ []) else None in
    ap (λ (o : Option (List ℕ)). option_or o here) (behind_other more byte other)
    ∙ option_or-map (λ piece. piece ++ byte ∷ []) (behind_flag more) (x == 0x7E) more

pub behind_at_flag : (stream : List ℕ) → behind_flag (stream ++ 0x7E ∷ []) ≡ Some []
behind_at_flag [] = refl
behind_at_flag (x ∷ more) =
    ap (λ (o : Option (List ℕ)). option_or o (if x == 0x7E then Some (more ++ 0x7E ∷ []) else None)) (behind_at_flag more)

pub not_empty : (piece : List ℕ) → (Some piece ≡ Some [] → ⊥) → if_not_empty (Some piece) ≡ Some piece
not_empty [] some = absurd (some refl)
not_empty (byte ∷ more) some = refl

pub behind_flag-flag : (stream : List ℕ) (byte : ℕ) → byte ≡ 0x7E → behind_flag (stream ++ byte ∷ []) ≡ Some []
behind_flag-flag stream byte e = ap (λ (b : ℕ). behind_flag (stream ++ b ∷ [])) e ∙ behind_at_flag stream

pub ended_piece-flag : (stream : List ℕ) (byte : ℕ) → byte ≡ 0x7E → ended_piece stream byte ≡ if_not_empty (behind_flag stream)
ended_piece-flag stream byte e = ap (ended_piece stream) e
