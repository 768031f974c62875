-- The bytes of hexadecimal digits, two digits a byte.
use Rattle.std.proofs.Common.{◌≡◌, ℕ, suc, ◌+◌, ◌*◌, ◌%◌, ◌<◌, ◌≤◌, nat_lt, max, true, List, [], ◌∷◌, length, Option, Some, None, is_some, Ok, Err, IsOk, Result, get_or, set, unwrap_or, if◌then◌else◌, refl, sym, ap, ◌∙◌, arith, inl, inr}
use Rattle.std.proofs.lemmas.Bool.{cases_Bool, cases_eq}
use Rattle.std.proofs.lemmas.Bool.Decides.{nat_tests}
use Rattle.std.specs.Result.{result_ok}
use Rattle.list_members.specs.Places.{set_next}
use Rattle.hex.specs.Hex.{decode_pairs, decode_sized, hex_digit_value, is_hex_digit, pair_value}
use Rattle.hex.specs.declared.error.FromHexError.{FromHexError}
use Rattle.hex.proofs.HexLemmas.{IsOk-decode_sized, decode_sized-twice, decode_of-even}
use Rattle.hex.proofs.Pairs.{decode_pairs-ok_pair, cons_byte}

-- the value of a digit, and 255 for another byte
abbrev pub value_of : ℕ → ℕ
value_of c = unwrap_or (hex_digit_value c) 255

some_value : (c : ℕ) (o : Option ℕ) → hex_digit_value c ≡ o → unwrap_or o 255 < 16 → (v : ℕ) × (hex_digit_value c ≡ Some v) × (unwrap_or o 255 ≡ v)
some_value c None is small = absurd (omega (arith, small))
some_value c (Some v) is small = (v, is, refl)

pub digit_of : (c : ℕ) → value_of c < 16 → hex_digit_value c ≡ Some (value_of c)
digit_of c small = let some = some_value c (hex_digit_value c) refl small in some.1 ∙ ap Some (sym some.2)

pair_of : (a b i : ℕ) → value_of a < 16 → value_of b < 16 → pair_value a b i ≡ Ok (value_of a * 16 + value_of b)
pair_of a b i high low =
    let h = digit_of a high in
    let l = digit_of b low in
    rw (h, l) refl

-- digits whose values make up the bytes decode to them
pub decoded : (i : ℕ) (s bytes : List ℕ) → length s ≡ 2 * length bytes
    → ((k : ℕ) → k < length s → value_of (get_or s k 0) < 16)
    → ((k : ℕ) → k < length bytes
    → get_or bytes k 0 ≡ value_of (get_or s (2 * k) 0) * 16 + value_of (get_or s (2 * k + 1) 0))
    → decode_pairs i s ≡ Ok bytes
unfolding decode_pairs
decoded i [] [] long digits made = refl
decoded i [] (v ∷ bytes) long digits made = absurd (omega (arith, long))
decoded i (a ∷ []) [] long digits made = absurd (omega (arith, long))
decoded i (a ∷ []) (v ∷ bytes) long digits made = absurd (omega (arith, long))
decoded i (a ∷ b ∷ rest) [] long digits made = absurd (omega (arith, long))
decoded i (a ∷ b ∷ rest) (v ∷ bytes) long digits made =
    let first : v ≡ value_of a * 16 + value_of b = made 0 (omega arith) in
    let later = decoded (i + 2) rest bytes (omega (arith, long))
    (λ k within. digits (suc (suc k)) (omega (arith, within)))
    (λ k within. let high : 2 * suc k ≡ suc (suc (2 * k)) = omega arith in
    let low : 2 * suc k + 1 ≡ suc (suc (2 * k + 1)) = omega arith in
    made (suc k) (omega (arith, within))
    ∙ ap (λ n. value_of (get_or (a ∷ b ∷ rest) n 0) * 16 + value_of (get_or (a ∷ b ∷ rest) (2 * suc k + 1) 0)) high
    ∙ ap (λ n. value_of (get_or rest (2 * k) 0) * 16 + value_of (get_or (a ∷ b ∷ rest) n 0)) low) in
    decode_pairs-ok_pair i a b v rest (pair_of a b i (digits 0 (omega arith)) (digits 1 (omega arith)) ∙ ap Ok (sym first))
    ∙ ap (cons_byte v) later

pub all_decoded : (s bytes : List ℕ) → length s ≡ 2 * length bytes
    → ((k : ℕ) → k < length s → value_of (get_or s k 0) < 16)
    → ((k : ℕ) → k < length bytes
    → get_or bytes k 0 ≡ value_of (get_or s (2 * k) 0) * 16 + value_of (get_or s (2 * k + 1) 0))
    → result_ok (decode_sized s (length bytes)) ≡ Some bytes
all_decoded s bytes long digits made =
    ap result_ok (decode_sized-twice s (length bytes) long ∙ decode_of-even s (omega (arith, long))
    ∙ decoded 0 s bytes long digits made)

not_ok : (r : Result (List ℕ) FromHexError) → (IsOk r → ⊥) → result_ok r ≡ None
not_ok (Ok bytes) none = absurd (none refl)
not_ok (Err e) none = refl

no_digit : (c : ℕ) (o : Option ℕ) → hex_digit_value c ≡ o → 16 ≤ unwrap_or o 255 → is_hex_digit c ≡ true → ⊥
no_digit c None is great digit = (let none = ap is_some is in cc)
no_digit c (Some v) is great digit = grind (arith, nat_tests)

-- no bytes are those of digits of which one is none
pub none_decoded : (s : List ℕ) (size k : ℕ) → k < length s → 16 ≤ value_of (get_or s k 0)
    → result_ok (decode_sized s size) ≡ None
none_decoded s size k within great =
    not_ok (decode_sized s size) (λ ok. no_digit (get_or s k 0) (hex_digit_value (get_or s k 0)) refl great
    (((IsOk-decode_sized s size).0 ok).1 k 0 within))

-- ---- the loop over the pairs of digits

-- the byte that two digits make up
abbrev pub byte_at : List ℕ → ℕ → ℕ
byte_at digits k = (value_of (get_or digits (2 * k) 0) * 16 + value_of (get_or digits (2 * k + 1) 0)) % 256

-- a byte more is made
pub made_more : (digits bytes : List ℕ) (place high low : ℕ) → place < length bytes
    → high ≡ value_of (get_or digits (2 * place) 0) → low ≡ value_of (get_or digits (2 * place + 1) 0)
    → ((k : ℕ) → k < place → get_or bytes k 0 ≡ byte_at digits k)
    → (k : ℕ) → k < place + 1 → get_or (set bytes place ((high * 16 % 256 + low) % 256)) k 0 ≡ byte_at digits k
made_more digits bytes place high low within is_high is_low =
    set_next (byte_at digits) bytes place ((high * 16 % 256 + low) % 256) within
    ((let sum : (high * 16 % 256 + low) % 256 ≡ (high * 16 + low) % 256 = omega arith in sum)
    ∙ ap (λ n. (n * 16 + low) % 256) is_high
    ∙ ap (λ n. (value_of (get_or digits (2 * place) 0) * 16 + n) % 256) is_low)

module _ (digits : List ℕ) (place high low greatest first last : ℕ)
    (is_high : high ≡ value_of (get_or digits (2 * place) 0)) (is_low : low ≡ value_of (get_or digits (2 * place + 1) 0))
    (is_first : first ≡ max greatest high) (is_last : last ≡ max first low) where
  pub above_more : ((k : ℕ) → k < 2 * place → value_of (get_or digits k 0) ≤ greatest)
      → (k : ℕ) → k < 2 * (place + 1) → value_of (get_or digits k 0) ≤ last
  above_more above k below =
      let old : greatest ≤ last = grind (arith, nat_tests) in
      let one : high ≤ last = grind (arith, nat_tests) in
      let other : low ≤ last = grind (arith, nat_tests) in
      elim (cases_eq k (2 * place)) [
        | inl here ↦ rw here (rw is_high at one)
        | inr past ↦
            elim (cases_eq k (2 * place + 1)) [
              | inl here ↦ rw here (rw is_low at other)
              | inr before ↦ (let earlier = above k (omega (arith, below, past, before)) in omega (arith, earlier, old))
            ]
      ]

  pub reached_more : (16 ≤ greatest → (k : ℕ) × (k < 2 * place) × (16 ≤ value_of (get_or digits k 0)))
      → 16 ≤ last → (k : ℕ) × (k < 2 * (place + 1)) × (16 ≤ value_of (get_or digits k 0))
  reached_more reached great =
      elim (cases_Bool (nat_lt low 16)) [
        | inl small ↦
            elim (cases_Bool (nat_lt high 16)) [
              | inl little ↦
                  let old = reached (grind (arith, nat_tests)) in
                  (old.0, (let below = old.1 in omega (arith, below)), old.2)
              | inr big ↦ (2 * place, omega arith, (let above : 16 ≤ high = grind (arith, nat_tests) in rw is_high at above))
            ]
        | inr big ↦ (2 * place + 1, omega arith, (let above : 16 ≤ low = grind (arith, nat_tests) in rw is_low at above))
      ]

whole : (high low : ℕ) → high < 16 → low < 16 → (high * 16 + low) % 256 ≡ high * 16 + low
whole high low h l = omega (arith, h, l)

-- what the loop leaves
pub pairs_read : (digits bytes : List ℕ) (greatest : ℕ) → length digits ≡ 2 * length bytes
    → ((k : ℕ) → k < length bytes → get_or bytes k 0 ≡ byte_at digits k)
    → ((k : ℕ) → k < 2 * length bytes → value_of (get_or digits k 0) ≤ greatest)
    → (16 ≤ greatest → (k : ℕ) × (k < 2 * length bytes) × (16 ≤ value_of (get_or digits k 0)))
    → result_ok (decode_sized digits (length bytes)) ≡ (if nat_lt greatest 16 then Some bytes else None)
pairs_read digits bytes greatest long made above reached =
    elim (cases_Bool (nat_lt greatest 16)) [
      | inl small ↦
          let below : greatest < 16 = grind (arith, nat_tests) in
          let each : (k : ℕ) → k < length digits → value_of (get_or digits k 0) < 16 =
          (λ k within. let most = above k (omega (arith, within, long)) in omega (arith, most, below)) in
          rw small (all_decoded digits bytes long each
          (λ k within. let high = each (2 * k) (omega (arith, within, long)) in
          let low = each (2 * k + 1) (omega (arith, within, long)) in
          made k within ∙ whole (value_of (get_or digits (2 * k) 0)) (value_of (get_or digits (2 * k + 1) 0)) high low))
      | inr big ↦
          let one = reached (grind (arith, nat_tests)) in
          rw big (none_decoded digits (length bytes) one.0 (let w = one.1 in omega (arith, w, long)) one.2)
    ]
