-- A piece says one thing, and framed messages say themselves.
use Rattle.std.specs.Prelude.{All, map}
use Rattle.std.specs.List.{flat_map}
use Rattle.std.proofs.Common.{◌≡◌, ◌≢◌, ℕ, ◌+◌, ◌-◌, ◌*◌, ◌/◌, ◌%◌, ◌<◌, ◌≤◌, ◌⊎◌, inl, inr, List, [], ◌∷◌, ◌++◌}
use Rattle.std.proofs.Common.{refl, sym, ◌∙◌, ap, subst, arith, length, take, drop, length-append}
use Rattle.std.proofs.Math.Path.{ap₂}
use Rattle.std.proofs.Math.Nat.{mod-add-div}
use Rattle.std.proofs.lemmas.Bool.{cases_eq, cases_lt}
use Rattle.std.proofs.lemmas.List.{append_assoc, append_cancel_left}
use Rattle.std.proofs.Math.Seq.{take-append_seam, drop-append_seam}
use Rattle.std.proofs.lemmas.List.Elements.{All-head, All-tail, All-drop, recursion_from_All}
use Rattle.bit_fields.specs.Bits.{AreBytes}
use Rattle.gdl90_core.specs.declared.pieces.Damage.TheVariants.{BadEscape, Short, TooLong, BadFcs}
use Rattle.gdl90_core.specs.CheckSequence.{remainder}
use Rattle.gdl90_core.specs.Framing.{escaped_bytes, with_fcs, framed_message}
use Rattle.gdl90_core.specs.Stream.{pieces_of}
use Rattle.gdl90_core.specs.Reading.{Reading, message, damaged, BytesSay, HasBadEscape, Says, SayInOrder}
use Rattle.gdl90_core.specs.Laws.{OneReading, FitsFrame, MessagesReadBack}
use Rattle.gdl90_core.proofs.Cuts.{NoFlag, pieces_of-piece}
use Rattle.gdl90_core.proofs.Steps.{says_bytes}
use Rattle.gdl90_core.proofs.Escapes.{by_form, escaped_bytes_inj}
use Rattle.gdl90_core.proofs.Escapes.{escaped_bytes-good, escaped_bytes-NoFlag, escaped_bytes-AreBytes}
use Rattle.gdl90_core.proofs.Escapes.{read_piece}

length-two : (front : List ℕ) (low high : ℕ) → length (front ++ low ∷ high ∷ []) ≡ length front + 2
length-two front low high = length-append front (low ∷ high ∷ [])

-- all but the last two bytes
front-two : (front : List ℕ) (low high : ℕ) → take (length (front ++ low ∷ high ∷ []) - 2) (front ++ low ∷ high ∷ []) ≡ front
front-two front low high =
    ap (λ (n : ℕ). take n (front ++ low ∷ high ∷ []))
    (let e : length (front ++ low ∷ high ∷ []) - 2 ≡ length front = omega (arith, length-two front low high) in e)
    ∙ take-append_seam front (low ∷ high ∷ [])

two_inj :
    (front other : List ℕ) (low high l h : ℕ) → front ++ low ∷ high ∷ [] ≡ other ++ l ∷ h ∷ []
    → (front ≡ other) × (low ≡ l) × (high ≡ h)
two_inj front other low high l h e =
    let same : front ≡ other =
    sym (front-two front low high) ∙ ap (λ (xs : List ℕ). take (length xs - 2) xs) e ∙ front-two other l h in
    let rest : low ∷ high ∷ [] ≡ l ∷ h ∷ [] =
    append_cancel_left other (low ∷ high ∷ []) (l ∷ h ∷ []) (ap (λ (xs : List ℕ). xs ++ low ∷ high ∷ []) (sym same) ∙ e) in
    (same, cc, cc)

-- the last two of at least two bytes
last_two : (bytes : List ℕ) → 2 ≤ length bytes → (front : List ℕ) × (low : ℕ) × (high : ℕ) × (bytes ≡ front ++ low ∷ high ∷ [])
last_two [] two = absurd (omega arith)
last_two (low ∷ []) two = absurd (omega arith)
last_two (low ∷ high ∷ []) two = ([], low, high, refl)
last_two (first ∷ low ∷ high ∷ more) two =
    let later = last_two (low ∷ high ∷ more) (omega arith) in
    (first ∷ later.0, later.1, later.2, ap (λ (xs : List ℕ). first ∷ xs) later.3)

length-with_fcs : (text : List ℕ) → length (with_fcs text) ≡ length text + 2
length-with_fcs text = length-two text (remainder text % 256) (remainder text / 256)

-- some bytes say one thing
say_once : (bytes : List ℕ) (one other : Reading) → BytesSay bytes one → BytesSay bytes other → other ≡ one
say_once bytes (damaged BadEscape) other says_one says_other = absurd says_one
say_once bytes one (damaged BadEscape) says_one says_other = absurd says_other
say_once bytes (message text) (message again) says_one says_other =
    ap message (two_inj again text _ _ _ _ (sym says_other.0 ∙ says_one.0)).0
say_once bytes (message text) (damaged Short) says_one says_other =
    absurd (omega (arith, ap length says_one.0, length-with_fcs text, says_one.1, says_other))
say_once bytes (message text) (damaged TooLong) says_one says_other =
    absurd (omega (arith, ap length says_one.0, length-with_fcs text, says_one.2, says_other))
say_once bytes (message text) (damaged BadFcs) says_one says_other =
    absurd (says_other.2 text (remainder text % 256) (remainder text / 256) says_one.0 (mod-add-div (remainder text) 256))
say_once bytes (damaged Short) (message text) says_one says_other =
    absurd (omega (arith, ap length says_other.0, length-with_fcs text, says_other.1, says_one))
say_once bytes (damaged TooLong) (message text) says_one says_other =
    absurd (omega (arith, ap length says_other.0, length-with_fcs text, says_other.2, says_one))
say_once bytes (damaged BadFcs) (message text) says_one says_other =
    absurd (says_one.2 text (remainder text % 256) (remainder text / 256) says_other.0 (mod-add-div (remainder text) 256))
say_once bytes (damaged Short) (damaged Short) says_one says_other = refl
say_once bytes (damaged Short) (damaged TooLong) says_one says_other = absurd (omega (arith, says_one, says_other))
say_once bytes (damaged Short) (damaged BadFcs) says_one says_other = absurd (omega (arith, says_one, says_other.0))
say_once bytes (damaged TooLong) (damaged Short) says_one says_other = absurd (omega (arith, says_one, says_other))
say_once bytes (damaged TooLong) (damaged TooLong) says_one says_other = refl
say_once bytes (damaged TooLong) (damaged BadFcs) says_one says_other = absurd (omega (arith, says_one, says_other.1))
say_once bytes (damaged BadFcs) (damaged Short) says_one says_other = absurd (omega (arith, says_one.0, says_other))
say_once bytes (damaged BadFcs) (damaged TooLong) says_one says_other = absurd (omega (arith, says_one.1, says_other))
say_once bytes (damaged BadFcs) (damaged BadFcs) says_one says_other = refl

-- a bad escape, or bytes that say it
says_form :
    (piece : List ℕ) (reading : Reading) → Says piece reading
    → ((reading ≡ damaged BadEscape) × HasBadEscape piece)
    ⊎ ((bytes : List ℕ) × (piece ≡ escaped_bytes bytes) × BytesSay bytes reading)
says_form piece (message text) says = inr says
says_form piece (damaged BadEscape) says = inl (refl, says)
says_form piece (damaged Short) says = inr says
says_form piece (damaged TooLong) says = inr says
says_form piece (damaged BadFcs) says = inr says

pub says_once : (piece : List ℕ) (one other : Reading) → Says piece one → Says piece other → other ≡ one
says_once piece one other says_one says_other = elim (says_form piece one says_one) [
  | inl bad ↦ elim (says_form piece other says_other) [
    | inl again ↦ again.0 ∙ sym bad.0
    | inr read ↦ absurd (escaped_bytes-good piece read.0 read.1 bad.1)
  ]
  | inr read ↦ elim (says_form piece other says_other) [
    | inl bad ↦ absurd (escaped_bytes-good piece read.0 read.1 bad.1)
    | inr again ↦
        let same : again.0 ≡ read.0 = escaped_bytes_inj again.0 read.0 (sym again.1 ∙ read.1) in
        let P : List ℕ → Type 0 = λ bytes. BytesSay bytes other in
        say_once read.0 one other read.2 (subst P same again.2)
  ]
]

-- some bytes say something
say_some : (bytes : List ℕ) → AreBytes bytes → (reading : Reading) × BytesSay bytes reading
say_some bytes all = elim (cases_lt (length bytes) 3) [
  | inl short ↦ (damaged Short, short)
  | inr three ↦ elim (cases_lt 1024 (length bytes)) [
    | inl long ↦ (damaged TooLong, long)
    | inr fits ↦
        let parts = last_two bytes (omega arith) in
        let P : List ℕ → Type 0 = λ xs. AreBytes xs in
        let byte : parts.1 < 256 = low_is_byte parts.0 parts.1 parts.2 (subst P parts.3 all) in
        say_split bytes parts.0 parts.1 parts.2 parts.3 byte three fits
  ]
]
  where
    low_is_byte : (front : List ℕ) (low high : ℕ) → AreBytes (front ++ low ∷ high ∷ []) → low < 256
    low_is_byte front low high all =
        let B : ℕ → Type 0 = λ b. b < 256 in
        let P : List ℕ → Type 0 = λ xs. AreBytes xs in
        let last : AreBytes (drop (length front) (front ++ low ∷ high ∷ [])) =
        All-drop B (length front) (front ++ low ∷ high ∷ []) all in
        All-head B low (high ∷ []) (subst P (drop-append_seam front (low ∷ high ∷ [])) last)

    say_split :
        (bytes front : List ℕ) (low high : ℕ) → bytes ≡ front ++ low ∷ high ∷ [] → low < 256
        → 3 ≤ length bytes → length bytes ≤ 1024 → (reading : Reading) × BytesSay bytes reading
    say_split bytes front low high e byte three fits = elim (cases_eq (low + 256 * high) (remainder front)) [
      | inl sum ↦
          let low_is : low ≡ remainder front % 256 = omega (arith, sum, byte) in
          let high_is : high ≡ remainder front / 256 = omega (arith, sum, byte) in (
            message front,
            (
              e ∙ ap₂ (λ (l h : ℕ). front ++ l ∷ h ∷ []) low_is high_is,
              (let h : 0 < length front = omega (arith, ap length e, length-two front low high, three) in h),
              (let h : length front ≤ 1022 = omega (arith, ap length e, length-two front low high, fits) in h),
            ),
          )
      | inr bad ↦ (
        damaged BadFcs,
        (
          (let h : 2 < length bytes = omega (arith, three) in h),
          fits,
          λ other l h is sum.
              let same = two_inj front other low high l h (sym e ∙ is) in
              bad (ap₂ (λ (a b : ℕ). a + 256 * b) same.1 same.2 ∙ sum ∙ sym (ap remainder same.0)),
        ),
      )
    ]

pub one_reading : OneReading
one_reading piece bytes none = elim (read_piece piece (recursion_from_All (λ byte. byte ≢ 0x7E) piece none)) [
  | inl read ↦
      let P : List ℕ → Type 0 = λ xs. AreBytes xs in
      let say = say_some read.0 (escaped_bytes-AreBytes read.0 (subst P read.1 bytes)) in
      let says : Says piece say.0 = says_bytes read.0 piece say.0 read.1 say.1 in
      (say.0, record { says = says; only = λ other says_other. says_once piece say.0 other says says_other })
  | inr bad ↦ (
    damaged BadEscape,
    record { says = bad; only = λ other says_other. says_once piece (damaged BadEscape) other bad says_other },
  )
]

-- the piece of a message
body : List ℕ → List ℕ
body text = escaped_bytes (with_fcs text)

body_form : (text : List ℕ) → FitsFrame text → (first : ℕ) × (piece : List ℕ) × (body text ≡ first ∷ piece)
unfolding body
body_form [] fits = absurd (let h : 0 < 0 = fits.not_empty in omega arith)
body_form (byte ∷ text) fits =
    let rest : List ℕ = escaped_bytes (text ++ (remainder (byte ∷ text) % 256) ∷ (remainder (byte ∷ text) / 256) ∷ []) in
    by_form byte (λ b bytes. (first : ℕ) × (piece : List ℕ) × (bytes ++ rest ≡ first ∷ piece))
    (0x7D, 0x5E ∷ rest, refl) (0x7D, 0x5D ∷ rest, refl) (λ flag plain. (byte, rest, refl))

-- a flag more says nothing
again_flag : (texts : List (List ℕ)) → pieces_of (0x7E ∷ flat_map framed_message texts) ≡ pieces_of (flat_map framed_message texts)
again_flag [] = refl
again_flag (text ∷ texts) = refl

pieces_of-framed_message : (texts : List (List ℕ)) → All FitsFrame texts → pieces_of (flat_map framed_message texts) ≡ map body texts
unfolding body
pieces_of-framed_message [] fits = refl
pieces_of-framed_message (text ∷ texts) fits =
    let form = body_form text (All-head FitsFrame text texts fits) in
    let P : List ℕ → Type 0 = λ xs. NoFlag xs in
    let none : NoFlag (form.0 ∷ form.1) = subst P form.2 (escaped_bytes-NoFlag (with_fcs text)) in
    let others : List ℕ = flat_map framed_message texts in
    ap (λ (xs : List ℕ). pieces_of (0x7E ∷ xs)) (append_assoc (body text) (0x7E ∷ []) others)
    ∙ ap (λ (xs : List ℕ). pieces_of (0x7E ∷ xs ++ 0x7E ∷ others)) form.2
    ∙ pieces_of-piece form.0 form.1 others none
    ∙ ap₂ (λ (xs : List ℕ) (ps : List (List ℕ)). xs ∷ ps) (sym form.2)
    (again_flag texts ∙ pieces_of-framed_message texts (All-tail FitsFrame text texts fits))

says_itself : (text : List ℕ) → FitsFrame text → Says (body text) (message text)
unfolding body
says_itself text fits = (with_fcs text, refl, (refl, fits.not_empty, fits.fits))

only_themselves :
    (texts : List (List ℕ)) (readings : List Reading) → All FitsFrame texts → SayInOrder (map body texts) readings
    → readings ≡ map message texts
only_themselves [] [] fits say = refl
only_themselves [] (reading ∷ more) fits say = absurd say
only_themselves (text ∷ texts) [] fits say = absurd say
only_themselves (text ∷ texts) (reading ∷ more) fits say =
    ap₂ (λ (r : Reading) (rs : List Reading). r ∷ rs)
    (says_once (body text) (message text) reading (says_itself text (All-head FitsFrame text texts fits)) say.0)
    (only_themselves texts more (All-tail FitsFrame text texts fits) say.1)

say_themselves : (texts : List (List ℕ)) → All FitsFrame texts → SayInOrder (map body texts) (map message texts)
say_themselves [] fits = tt
say_themselves (text ∷ texts) fits =
    (says_itself text (All-head FitsFrame text texts fits), say_themselves texts (All-tail FitsFrame text texts fits))

pub messages_read_back : MessagesReadBack
messages_read_back texts readings fits =
    let P : List (List ℕ) → Type 0 = λ pieces. SayInOrder pieces readings in
    let Q : List Reading → Type 0 = λ others. SayInOrder (pieces_of (flat_map framed_message texts)) others in
    let R : List (List ℕ) → Type 0 = λ pieces. SayInOrder pieces (map message texts) in (
      (λ say. only_themselves texts readings fits (subst P (pieces_of-framed_message texts fits) say)),
      (λ e. subst Q (sym e) (subst R (sym (pieces_of-framed_message texts fits)) (say_themselves texts fits))),
    )
