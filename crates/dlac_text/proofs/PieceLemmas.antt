-- A list of codes is cut into pieces in exactly one way.
use Rattle.std.proofs.Common.{◌≡◌, ◌≢◌, ◌⊎◌, ℕ, false, eqb, inl, inr, List, [], ◌∷◌, ◌++◌, refl, sym, ap, ◌∙◌, append_assoc, append-nil, All, arith}
use Rattle.std.specs.List.{flat_map, AllByRecursion}
use Rattle.std.proofs.lemmas.Bool.Decides.{nat_tests, eqb_tells}
use Rattle.std.proofs.lemmas.List.Elements.{All-from_recursion, All-head, All-tail}
use Rattle.dlac_text.specs.SixBits.{six_bit_groups}
use Rattle.dlac_text.specs.Pieces.{Piece, character, spaces, end_of_report, IsPiece, spelling, Spells, IsCutInOneWay, piece_of, pieces_of}
use Rattle.dlac_text.specs.Reports.{reports_among, reports_of, HasReportsOfItsPieces}

-- a code other than a TAB is one piece
pub pieces_of-other : (code : ℕ) (more : List ℕ) → code ≢ 28 → pieces_of (code ∷ more) ≡ piece_of code ∷ pieces_of more
pieces_of-other code [] h = let no : eqb code 28 ≡ false = grind (arith, nat_tests) in rw no refl
pieces_of-other code (n ∷ more) h = let no : eqb code 28 ≡ false = grind (arith, nat_tests) in rw no refl

pub piece_of-end : (code : ℕ) → (code ≡ 0) ⊎ (code ≡ 29) → piece_of code ≡ end_of_report code
piece_of-end code (inl zero) = rw zero refl
piece_of-end code (inr other) = rw other refl

pub piece_of-character : (code : ℕ) → code ≢ 0 → code ≢ 29 → piece_of code ≡ character code
piece_of-character code h i =
    let zero : eqb code 0 ≡ false = grind (arith, nat_tests) in
    let other : eqb code 29 ≡ false = grind (arith, nat_tests) in
    rw (zero, other) refl

-- what may follow the codes of the pieces
abbrev IsTail : List ℕ → Type 0
IsTail tail = (tail ≡ []) ⊎ (tail ≡ 28 ∷ [])

no_pieces : (tail : List ℕ) → IsTail tail → pieces_of tail ≡ []
no_pieces tail (inl none) = ap pieces_of none
no_pieces tail (inr tab) = ap pieces_of tab

-- the pieces of codes that pieces spell are these pieces
back : (pieces : List Piece) (tail : List ℕ) → IsTail tail → All IsPiece pieces → pieces_of (flat_map spelling pieces ++ tail) ≡ pieces
back [] tail t h = no_pieces tail t
back (character code ∷ more) tail t h =
    let known = All-head IsPiece (character code) more h in
    pieces_of-other code (flat_map spelling more ++ tail) known.1 ∙ ap (λ p. p ∷ pieces_of (flat_map spelling more ++ tail)) (piece_of-character code known.0 known.2) ∙ ap (λ ps. character code ∷ ps) (back more tail t (All-tail IsPiece (character code) more h))
back (spaces number ∷ more) tail t h = ap (λ ps. spaces number ∷ ps) (back more tail t (All-tail IsPiece (spaces number) more h))
back (end_of_report code ∷ more) tail t h =
    let known = All-head IsPiece (end_of_report code) more h in
    let other : code ≢ 28 = elim known [ inl zero ↦ omega arith | inr other ↦ omega arith ] in
    pieces_of-other code (flat_map spelling more ++ tail) other ∙ ap (λ p. p ∷ pieces_of (flat_map spelling more ++ tail)) (piece_of-end code known) ∙ ap (λ ps. end_of_report code ∷ ps) (back more tail t (All-tail IsPiece (end_of_report code) more h))

pub only_pieces : (pieces : List Piece) (codes : List ℕ) → Spells codes pieces → pieces ≡ pieces_of codes
only_pieces pieces codes s =
    let end : codes ≡ flat_map spelling pieces → codes ≡ flat_map spelling pieces ++ [] = λ e. e ∙ sym (append-nil (flat_map spelling pieces)) in
    elim s.1 [
      | inl e ↦ sym (ap pieces_of (end e) ∙ back pieces [] (inl refl) s.0)
      | inr e ↦ sym (ap pieces_of e ∙ back pieces (28 ∷ []) (inr refl) s.0)
    ]

-- the same relation, as it is shown by recursion
abbrev Spelled : List Piece → List ℕ → Type 0
Spelled pieces codes = AllByRecursion IsPiece pieces × ((codes ≡ flat_map spelling pieces) ⊎ (codes ≡ flat_map spelling pieces ++ 28 ∷ []))

one_more : (piece : Piece) (pieces : List Piece) (codes : List ℕ) → IsPiece piece → Spelled pieces codes → Spelled (piece ∷ pieces) (spelling piece ++ codes)
one_more piece pieces codes h s =
    let front = spelling piece in
    let spelled = flat_map spelling pieces in
    ((h, s.0), elim s.1 [ inl e ↦ inl (ap (λ cs. front ++ cs) e) | inr e ↦ inr (ap (λ cs. front ++ cs) e ∙ sym (append_assoc front spelled (28 ∷ []))) ])

single : (code : ℕ) (more : List ℕ) → code ≢ 28 → Spelled (pieces_of more) more → Spelled (piece_of code ∷ pieces_of more) (code ∷ more)
single code more h s =
    elim (eqb_tells code 0) [
      | inl zero ↦ rw zero.0 (one_more (end_of_report code) (pieces_of more) more (inl zero.1) s)
      | inr not_zero ↦
          elim (eqb_tells code 29) [
            | inl other ↦ rw (not_zero.0, other.0) (one_more (end_of_report code) (pieces_of more) more (inr other.1) s)
            | inr not_other ↦ rw (not_zero.0, not_other.0) (one_more (character code) (pieces_of more) more (not_zero.1, h, not_other.1) s)
          ]
    ]

spelled_by : (codes : List ℕ) → Spelled (pieces_of codes) codes
spelled_by [] = (tt, inl refl)
spelled_by (code ∷ []) =
    elim (eqb_tells code 28) [
      | inl tab ↦ rw tab.0 (tt, inr (ap (λ c. c ∷ []) tab.1))
      | inr other ↦ rw other.0 (single code [] other.1 (tt, inl refl))
    ]
spelled_by (code ∷ next ∷ more) =
    elim (eqb_tells code 28) [
      | inl tab ↦ rw tab.0 (rw tab.1 (one_more (spaces next) (pieces_of more) more tt (spelled_by more)))
      | inr other ↦ rw other.0 (single code (next ∷ more) other.1 (spelled_by (next ∷ more)))
    ]

spells : (codes : List ℕ) → Spells codes (pieces_of codes)
spells codes = let s = spelled_by codes in (All-from_recursion IsPiece (pieces_of codes) s.0, s.1)

pub one_way : (codes : List ℕ) → IsCutInOneWay codes
one_way codes = (pieces_of codes, spells codes, λ others s. only_pieces others codes s)

pub reports_of-pieces : (payload : List ℕ) → HasReportsOfItsPieces payload
unfolding reports_of
reports_of-pieces payload pieces s = ap reports_among (sym (only_pieces pieces (six_bit_groups payload) s))
