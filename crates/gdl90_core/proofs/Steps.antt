-- What a deframer keeps at each stage, a byte later.
use Rattle.std.specs.Prelude.{◌==◌, if◌then◌else◌, Option, Some, None}
use Rattle.std.specs.Option.{option_map}
use Rattle.std.proofs.Common.{◌≡◌, ◌≢◌, ℕ, Bool, List, [], ◌∷◌, ◌++◌, refl, sym, ◌∙◌, ap, subst}
use Rattle.std.proofs.lemmas.Bool.{ne_eqb}
use Rattle.std.proofs.lemmas.List.{append-nil, append_assoc}
use Rattle.std.proofs.lemmas.List.Concat.{flat_map-append}
use Rattle.gdl90_core.specs.declared.piece_bytes.PieceBytes.{PieceBytes}
use Rattle.gdl90_core.specs.declared.deframer.Stage.{Stage}
use Rattle.gdl90_core.specs.declared.deframer.Stage.TheVariants.{Outside, Start, Inside, Escaping, Broken}
use Rattle.gdl90_core.specs.declared.pieces.Damage.TheVariants.{BadEscape, Short, TooLong, BadFcs}
use Rattle.gdl90_core.specs.Framing.{escaped_byte, escaped_bytes}
use Rattle.gdl90_core.specs.Stream.{behind_flag, if_not_empty}
use Rattle.gdl90_core.specs.Reading.{Reading, message, damaged, BytesSay, Says, HasBadEscape}
use Rattle.gdl90_core.specs.StandsFor.{Keeps, IsAt}
use Rattle.gdl90_core.proofs.Streams.{behind_other, not_empty}

pub escaped_bytes-push :
    (bytes : List ℕ) (byte : ℕ) → escaped_bytes (bytes ++ byte ∷ []) ≡ escaped_bytes bytes ++ escaped_byte byte
escaped_bytes-push bytes byte =
    flat_map-append escaped_byte bytes (byte ∷ [])
    ∙ ap (λ (tail : List ℕ). escaped_bytes bytes ++ tail) (append-nil (escaped_byte byte))

pub plain_byte : (byte : ℕ) → byte ≢ 0x7E → byte ≢ 0x7D → escaped_byte byte ≡ byte ∷ []
plain_byte byte flag escape =
    let other : List ℕ = if byte == 0x7D then 0x7D ∷ 0x5D ∷ [] else byte ∷ [] in
    ap (λ (b : Bool). if b then 0x7D ∷ 0x5E ∷ [] else other) (ne_eqb byte 0x7E flag)
    ∙ ap (λ (b : Bool). if b then 0x7D ∷ 0x5D ∷ [] else byte ∷ []) (ne_eqb byte 0x7D escape)

some_is_not_empty : (front : List ℕ) (byte : ℕ) (more : List ℕ) → Some (front ++ byte ∷ more) ≡ Some [] → ⊥
some_is_not_empty [] byte more e = cc
some_is_not_empty (x ∷ front) byte more e = cc

-- a whole byte more
pub inside_at :
    (kept : PieceBytes) (bytes : List ℕ) (byte first : ℕ) (rest : List ℕ) → escaped_byte byte ≡ first ∷ rest
    → Keeps kept (bytes ++ byte ∷ []) → IsAt Inside kept (Some (escaped_bytes bytes ++ first ∷ rest))
inside_at kept bytes byte first rest e keeps = (
  some_is_not_empty (escaped_bytes bytes) first rest,
  (
    bytes ++ byte ∷ [],
    ap Some
        (ap (λ (tail : List ℕ). escaped_bytes bytes ++ tail) (sym e) ∙ sym (escaped_bytes-push bytes byte)
        ∙ sym (append-nil (escaped_bytes (bytes ++ byte ∷ [])))),
    keeps,
  ),
)

-- the stage is that of the stream that goes on by this byte
pub goes_on :
    (stage : Stage) (kept : PieceBytes) (stream : List ℕ) (byte : ℕ) (piece : Option (List ℕ)) → byte ≢ 0x7E
    → option_map (λ front. front ++ byte ∷ []) (behind_flag stream) ≡ piece → IsAt stage kept piece
    → IsAt stage kept (behind_flag (stream ++ byte ∷ []))
goes_on stage kept stream byte piece other e at =
    let P : Option (List ℕ) → Type 0 = λ o. IsAt stage kept o in subst P (sym (behind_other stream byte other ∙ e)) at

pub outside_on :
    (kept : PieceBytes) (stream : List ℕ) (byte : ℕ) → byte ≢ 0x7E → IsAt Outside kept (behind_flag stream)
    → IsAt Outside kept (behind_flag (stream ++ byte ∷ []))
outside_on kept stream byte other at =
    goes_on Outside kept stream byte None other (ap (option_map (λ (front : List ℕ). front ++ byte ∷ [])) at) refl

pub broken_on :
    (kept : PieceBytes) (stream : List ℕ) (byte : ℕ) → byte ≢ 0x7E → IsAt Broken kept (behind_flag stream)
    → IsAt Broken kept (behind_flag (stream ++ byte ∷ []))
broken_on kept stream byte other at =
    goes_on Broken kept stream byte (Some (escaped_bytes at.0 ++ 0x7D ∷ at.1 ∷ (at.2 ++ byte ∷ []))) other
    (ap (option_map (λ (front : List ℕ). front ++ byte ∷ [])) at.3
    ∙ ap Some (append_assoc (escaped_bytes at.0) (0x7D ∷ at.1 ∷ at.2) (byte ∷ [])))
    (at.0, at.1, at.2 ++ byte ∷ [], refl, at.4)

-- a piece says what its bytes say
pub says_bytes :
    (bytes piece : List ℕ) (reading : Reading) → piece ≡ escaped_bytes bytes → BytesSay bytes reading → Says piece reading
says_bytes bytes piece (message text) e say = (bytes, e, say)
says_bytes bytes piece (damaged BadEscape) e say = absurd say
says_bytes bytes piece (damaged Short) e say = (bytes, e, say)
says_bytes bytes piece (damaged TooLong) e say = (bytes, e, say)
says_bytes bytes piece (damaged BadFcs) e say = (bytes, e, say)

-- an escaped byte more
pub escape_at :
    (kept : PieceBytes) (bytes : List ℕ) (byte second next : ℕ) → next ≡ second → escaped_byte byte ≡ 0x7D ∷ second ∷ []
    → Keeps kept (bytes ++ byte ∷ []) → IsAt Inside kept (Some (escaped_bytes bytes ++ 0x7D ∷ next ∷ []))
escape_at kept bytes byte second next is e keeps =
    let P : ℕ → Type 0 = λ n. IsAt Inside kept (Some (escaped_bytes bytes ++ 0x7D ∷ n ∷ [])) in
    subst P (sym is) (inside_at kept bytes byte 0x7D (second ∷ []) e keeps)

pub at_stage :
    (stage other : Stage) (kept : PieceBytes) (piece : Option (List ℕ)) → stage ≡ other → IsAt stage kept piece
    → IsAt other kept piece
at_stage stage other kept piece e at = let P : Stage → Type 0 = λ s. IsAt s kept piece in subst P e at

-- the first byte of a piece
pub start_on :
    (stage : Stage) (kept old : PieceBytes) (stream : List ℕ) (byte : ℕ) → byte ≢ 0x7E → IsAt Start old (behind_flag stream)
    → IsAt stage kept (Some (escaped_bytes [] ++ byte ∷ [])) → IsAt stage kept (behind_flag (stream ++ byte ∷ []))
start_on stage kept old stream byte other empty at =
    goes_on stage kept stream byte _ other (ap (option_map (λ (front : List ℕ). front ++ byte ∷ [])) empty) at

-- a byte behind whole bytes, or behind a control-escape
pub read_on :
    (stage : Stage) (kept : PieceBytes) (stream bytes behind : List ℕ) (byte : ℕ) → byte ≢ 0x7E
    → behind_flag stream ≡ Some (escaped_bytes bytes ++ behind)
    → IsAt stage kept (Some (escaped_bytes bytes ++ (behind ++ byte ∷ []))) → IsAt stage kept (behind_flag (stream ++ byte ∷ []))
read_on stage kept stream bytes behind byte other is at =
    goes_on stage kept stream byte _ other
    (ap (option_map (λ (front : List ℕ). front ++ byte ∷ [])) is
    ∙ ap Some (append_assoc (escaped_bytes bytes) behind (byte ∷ []))) at

-- a piece that is not empty says what its bytes say
pub inside_says :
    (kept : PieceBytes) (piece : Option (List ℕ)) (reading : Reading) → IsAt Inside kept piece
    → ((bytes : List ℕ) → Keeps kept bytes → BytesSay bytes reading)
    → (whole : List ℕ) × (if_not_empty piece ≡ Some whole) × Says whole reading
inside_says kept piece reading at say =
    let whole : List ℕ = escaped_bytes at.1.0 ++ [] in
    let some : Some whole ≡ Some [] → ⊥ = λ e. at.0 (at.1.1 ∙ e) in (
      whole,
      ap if_not_empty at.1.1 ∙ not_empty whole some,
      says_bytes at.1.0 whole reading (append-nil (escaped_bytes at.1.0)) (say at.1.0 at.1.2),
    )

-- a piece that ends at a control-escape, or has a bad one, says so
pub escaping_says :
    (kept : PieceBytes) (piece : Option (List ℕ)) → IsAt Escaping kept piece
    → (whole : List ℕ) × (if_not_empty piece ≡ Some whole) × HasBadEscape whole
escaping_says kept piece at =
    let whole : List ℕ = escaped_bytes at.0 ++ 0x7D ∷ [] in (
      whole,
      ap if_not_empty at.1 ∙ not_empty whole (some_is_not_empty (escaped_bytes at.0) 0x7D []),
      record { front = at.0; rest = []; escape = refl; bad = tt },
    )

pub broken_says :
    (kept : PieceBytes) (piece : Option (List ℕ)) → IsAt Broken kept piece
    → (whole : List ℕ) × (if_not_empty piece ≡ Some whole) × HasBadEscape whole
broken_says kept piece at =
    let whole : List ℕ = escaped_bytes at.0 ++ 0x7D ∷ at.1 ∷ at.2 in (
      whole,
      ap if_not_empty at.3 ∙ not_empty whole (some_is_not_empty (escaped_bytes at.0) 0x7D (at.1 ∷ at.2)),
      record { front = at.0; rest = at.1 ∷ at.2; escape = refl; bad = at.4 },
    )
