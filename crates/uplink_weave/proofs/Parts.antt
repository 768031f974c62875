-- The parts of a payload, and words that are joined.
use Rattle.std.proofs.Common.{◌≡◌, ℕ, zero, suc, ◌+◌, ◌*◌, ◌-◌, ◌<◌, ◌≤◌, List, [], ◌∷◌, ◌++◌, length, get_or, take, drop, map, false, Option, Some, None, refl, sym, ◌∙◌, ap, ap₂, arith, inl, inr, ◌⊎◌, length-append}
use Rattle.std.specs.Option.{option_map, is_none}
use Rattle.std.specs.List.{range_with_len}
use Rattle.std.proofs.lemmas.Bool.{cases_eq}
use Rattle.std.proofs.lemmas.List.{ext_get_or, get_or-take, get_or-drop, length-take-le, length-drop, take-append-drop, drop-drop, drop_all, take_at, drop_at}
use Rattle.uplink_weave.specs.Woven.{BeginsWithPart}
use Rattle.uplink_weave.specs.Functions.{part, payload_of_words}

pub length-part : (r : ℕ) (payload : List ℕ) → r < 6 → length payload ≡ 432 → length (part r payload) ≡ 72
length-part r payload h full =
    length-take-le 72 (drop (72 * r) payload) (let l = length-drop (72 * r) payload in omega arith)

pub get_or-part : (r : ℕ) (payload : List ℕ) (k : ℕ) → k < 72 → get_or (part r payload) k 0 ≡ get_or payload (72 * r + k) 0
get_or-part r payload k h = get_or-take 72 (drop (72 * r) payload) k 0 h ∙ get_or-drop (72 * r) payload k 0

-- a word begins with a part where its front is that part
pub part_from :
    (r : ℕ) (payload word : List ℕ) → r < 6 → length payload ≡ 432 → length word ≡ 92 → BeginsWithPart r payload word
    → take 72 word ≡ part r payload
part_from r payload word h full long begins =
    let l : length (take 72 word) ≡ 72 = length-take-le 72 word (omega arith) in
    ext_get_or 0 (take 72 word) (part r payload) (l ∙ sym (length-part r payload h full))
    (λ k h'.
    let inside : k < 72 = omega arith in
    get_or-take 72 word k 0 inside ∙ begins k inside ∙ sym (get_or-part r payload k inside))

pub part_to :
    (r : ℕ) (payload word : List ℕ) → take 72 word ≡ part r payload → BeginsWithPart r payload word
part_to r payload word same k h =
    sym (get_or-take 72 word k 0 h) ∙ ap (λ (w : List ℕ). get_or w k 0) same ∙ get_or-part r payload k h

joined-some :
    (o : Option (List ℕ)) (os : List (Option (List ℕ))) (word rest : List ℕ) → o ≡ Some word → payload_of_words os ≡ Some rest
    → payload_of_words (o ∷ os) ≡ Some (take 72 word ++ rest)
joined-some o os word rest e e' =
    ap (λ (p : Option (List ℕ)). payload_of_words (p ∷ os)) e ∙ ap (option_map (λ (w : List ℕ). take 72 word ++ w)) e'

-- words that begin with the parts of a payload are joined to it
pub joined_to :
    (f : ℕ → Option (List ℕ)) (payload : List ℕ) (from count : ℕ) → length payload ≡ 72 * (from + count)
    → ((r : ℕ) → from ≤ r → r < from + count → (word : List ℕ) × (f r ≡ Some word) × (take 72 word ≡ part r payload))
    → payload_of_words (map f (range_with_len from count)) ≡ Some (drop (72 * from) payload)
joined_to f payload from zero l words = ap Some (sym (drop_all (72 * from) payload (omega arith)))
joined_to f payload from (suc count) l words =
    let here = words from (omega arith) (omega arith) in
    joined-some (f from) (map f (range_with_len (from + 1) count)) here.0 (drop (72 * (from + 1)) payload) here.1
    (joined_to f payload (from + 1) count (omega arith) (λ r h h'. words r (omega arith) (omega arith)))
    ∙ ap Some (ap₂ (λ (xs ys : List ℕ). xs ++ ys) here.2
    (ap (λ (n : ℕ). drop n payload) (let e : 72 * (from + 1) ≡ 72 * from + 72 = omega arith in e)
    ∙ sym (drop-drop 72 (72 * from) payload))
    ∙ take-append-drop 72 (drop (72 * from) payload))

-- what joined words are
pub record AreJoined (f : ℕ → Option (List ℕ)) (from count : ℕ) (payload : List ℕ) : Type 0 where
  pub long : length payload ≡ 72 * count
  pub words : (i : ℕ) → i < count → (word : List ℕ) × (f (from + i) ≡ Some word) × (take 72 word ≡ part i payload)

abbrev behind_first : List ℕ → Option (List ℕ) → Option (List ℕ)
behind_first word o = option_map (λ (w : List ℕ). take 72 word ++ w) o

AreJoined-more :
    (f : ℕ → Option (List ℕ)) (from count : ℕ) (word rest payload : List ℕ) → f from ≡ Some word → length word ≡ 92
    → payload ≡ take 72 word ++ rest → AreJoined f (from + 1) count rest → AreJoined f from (suc count) payload
AreJoined-more f from count word rest payload e l same are =
    let front : length (take 72 word) ≡ 72 = length-take-le 72 word (omega arith) in
    record {
      long = ap length same ∙ length-append (take 72 word) rest ∙ (let m = are.long in omega arith);
      words = λ i h. elim (cases_eq i 0) [
        | inl first ↦ (
          word,
          ap f (let z : from + i ≡ from = omega arith in z) ∙ e,
          sym (take_at (take 72 word) rest 72 front) ∙ ap (take 72) (sym same)
              ∙ ap (λ (n : ℕ). take 72 (drop n payload)) (let z : 0 ≡ 72 * i = omega arith in z),
        )
        | inr later ↦
            let behind = are.words (i - 1) (omega arith) in (
              behind.0,
              ap f (let z : from + i ≡ from + 1 + (i - 1) = omega arith in z) ∙ behind.1,
              behind.2
                  ∙ ap (λ (w : List ℕ). take 72 (drop (72 * (i - 1)) w)) (sym (drop_at (take 72 word) rest 72 front) ∙ ap (drop 72) (sym same))
                  ∙ ap (take 72) (drop-drop (72 * (i - 1)) 72 payload)
                  ∙ ap (λ (n : ℕ). take 72 (drop n payload)) (let z : 72 + 72 * (i - 1) ≡ 72 * i = omega arith in z),
            )
      ];
    }

AreJoined-cases :
    (f : ℕ → Option (List ℕ)) (from count : ℕ) (payload : List ℕ) (o tail : Option (List ℕ)) → f from ≡ o
    → ((word : List ℕ) → f from ≡ Some word → length word ≡ 92)
    → ((rest : List ℕ) → tail ≡ Some rest → AreJoined f (from + 1) count rest)
    → (os : List (Option (List ℕ))) → payload_of_words os ≡ tail → payload_of_words (o ∷ os) ≡ Some payload → AreJoined f from (suc count) payload
AreJoined-cases f from count payload None tail e long more os t j = cc
AreJoined-cases f from count payload (Some word) None e long more os t j =
    let none : payload_of_words (Some word ∷ os) ≡ None = ap (behind_first word) t in
    cc
AreJoined-cases f from count payload (Some word) (Some rest) e long more os t j =
    let both : payload_of_words (Some word ∷ os) ≡ Some (take 72 word ++ rest) = ap (behind_first word) t in
    let same : payload ≡ take 72 word ++ rest = cc in
    AreJoined-more f from count word rest payload e (long word e) same (more rest refl)

pub joined_from :
    (f : ℕ → Option (List ℕ)) (from count : ℕ) (payload : List ℕ)
    → ((r : ℕ) (word : List ℕ) → f r ≡ Some word → length word ≡ 92)
    → payload_of_words (map f (range_with_len from count)) ≡ Some payload → AreJoined f from count payload
joined_from f from zero payload long e =
    let same : payload ≡ [] = cc in
    record { long = ap length same; words = λ i h. absurd (omega arith) }
joined_from f from (suc count) payload long e =
    AreJoined-cases f from count payload (f from) (payload_of_words (map f (range_with_len (from + 1) count))) refl (long from)
    (λ rest e'. joined_from f (from + 1) count rest long e') (map f (range_with_len (from + 1) count)) refl e

pub word_there : (o : Option (List ℕ)) → is_none o ≡ false → (word : List ℕ) × (o ≡ Some word)
word_there None e = cc
word_there (Some word) e = (word, refl)

pub cases_option : (o : Option (List ℕ)) → (o ≡ None) ⊎ ((word : List ℕ) × (o ≡ Some word))
cases_option None = inl refl
cases_option (Some word) = inr (word, refl)

-- where joined words are missing one of them is
joined_none-cases :
    (f : ℕ → Option (List ℕ)) (from count : ℕ) (o tail : Option (List ℕ)) → f from ≡ o
    → (tail ≡ None → (i : ℕ) × (i < count) × (f (from + 1 + i) ≡ None)) → (os : List (Option (List ℕ))) → payload_of_words os ≡ tail
    → payload_of_words (o ∷ os) ≡ None → (i : ℕ) × (i < suc count) × (f (from + i) ≡ None)
joined_none-cases f from count None tail e more os t j =
    (0, omega arith, ap f (let z : from + 0 ≡ from = omega arith in z) ∙ e)
joined_none-cases f from count (Some word) None e more os t j =
    let behind = more refl in
    (suc behind.0, omega arith, ap f (let z : from + suc behind.0 ≡ from + 1 + behind.0 = omega arith in z) ∙ behind.2)
joined_none-cases f from count (Some word) (Some rest) e more os t j =
    let both : payload_of_words (Some word ∷ os) ≡ Some (take 72 word ++ rest) = ap (behind_first word) t in
    cc

pub joined_none :
    (f : ℕ → Option (List ℕ)) (from count : ℕ) → payload_of_words (map f (range_with_len from count)) ≡ None
    → (i : ℕ) × (i < count) × (f (from + i) ≡ None)
joined_none f from zero e = cc
joined_none f from (suc count) e =
    joined_none-cases f from count (f from) (payload_of_words (map f (range_with_len (from + 1) count))) refl
    (λ e'. joined_none f (from + 1) count e') (map f (range_with_len (from + 1) count)) refl e
