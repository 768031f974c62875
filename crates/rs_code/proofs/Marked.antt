-- Marked bytes of a word: they fall out of its power sums, and the points of their places become roots.
use Rattle.std.proofs.Common.{◌≡◌, ℕ, zero, suc, ◌+◌, ◌-◌, ◌<◌, ◌≤◌, ◌⊎◌, List, [], ◌∷◌, length, get_or, set, take, refl, sym, ◌∙◌, ap, ap₂, arith, inl, inr, length-set}
use Rattle.std.specs.Int.Bits.{bit_xor, xor_zero_r, xor_self}
use Rattle.std.proofs.lemmas.Bool.{cases_eq, cases_lt, leb-true}
use Rattle.std.proofs.lemmas.List.{get_or_past, get_or-set_other}
use Rattle.bit_fields.specs.Xors.{xor-equal}
use Rattle.list_members.specs.Places.{get_or-front}
use Rattle.gf256_core.specs.Field.{IsField}
use Rattle.poly256.specs.Polynomial.{element_product, element_power, value_at, sum_of, scaled_coefficients, shifted_coefficients}
use Rattle.poly256.specs.Laws.{HasDegrees, HasValues, IgnoresEndZeros}
use Rattle.rs_code.specs.CodeWord.{IsNear, power_sum, differences, bound}
use Rattle.rs_code.specs.Mending.{weighed_word, without, blanked_word, HasLead, IsNearWith}
use Rattle.rs_code.proofs.Powers.{power-fits}
use Rattle.rs_code.proofs.Distance.{weight, weight-cons, length-weighed_word, weighed_word-fits, power_sum-weighed_word, difference, length-difference, get_or-difference, weight-difference}

pub without-none : (word : List ℕ) → without [] word ≡ word
unfolding without
without-none word = refl

-- one more mark, after those before it
pub without-more :
    (marks word : List ℕ) (i : ℕ) → i < length marks
    → without (take (suc i) marks) word ≡ weighed_word (element_power 2 (length word - 1 - get_or marks i 0)) (without (take i marks) word)
unfolding without
without-more [] word i h = absurd (omega arith)
without-more (mark ∷ marks) word zero h = refl
without-more (mark ∷ marks) word (suc i) h =
    without-more marks (weighed_word (element_power 2 (length word - 1 - mark)) word) i (omega arith)
    ∙ ap (λ (n : ℕ). weighed_word (element_power 2 (n - 1 - get_or marks i 0)) (without (take i marks) (weighed_word (element_power 2 (length word - 1 - mark)) word)))
    (length-weighed_word (element_power 2 (length word - 1 - mark)) word)

pub length-without : (marks word : List ℕ) → length (without marks word) ≡ length word
unfolding without
length-without [] word = refl
length-without (mark ∷ marks) word =
    length-without marks (weighed_word (element_power 2 (length word - 1 - mark)) word)
    ∙ length-weighed_word (element_power 2 (length word - 1 - mark)) word

pub without-fits :
    (F : IsField 391) (marks word : List ℕ) → ((k : ℕ) → get_or word k 0 < 256) → (k : ℕ) → get_or (without marks word) k 0 < 256
unfolding without
without-fits F [] word bytes k = bytes k
without-fits F (mark ∷ marks) word bytes k =
    without-fits F marks (weighed_word (element_power 2 (length word - 1 - mark)) word)
    (weighed_word-fits F (element_power 2 (length word - 1 - mark)) word) k

get_or-weighed_word :
    (y : ℕ) (bs : List ℕ) (k place : ℕ) → k + suc place ≡ length bs
    → get_or (weighed_word y bs) k 0 ≡ element_product (get_or bs k 0) (bit_xor (element_power 2 place) y)
unfolding weighed_word
get_or-weighed_word y [] k place e = absurd (omega arith)
get_or-weighed_word y (b ∷ bs) zero place e =
    ap (λ (n : ℕ). element_product b (bit_xor (element_power 2 n) y)) (let l : length bs ≡ place = omega arith in l)
get_or-weighed_word y (b ∷ bs) (suc k) place e = get_or-weighed_word y bs k place (omega arith)

-- one more sum of the bytes without one more mark
pub sums_without :
    (F : IsField 391) (marks word sums old : List ℕ) (point i first k : ℕ) → i < length marks
    → point ≡ element_power 2 (length word - 1 - get_or marks i 0)
    → get_or old k 0 ≡ power_sum (without (take i marks) word) (first + k)
    → get_or old (suc k) 0 ≡ power_sum (without (take i marks) word) (first + suc k)
    → get_or sums k 0 ≡ bit_xor (get_or old (suc k) 0) (element_product point (get_or old k 0))
    → get_or sums k 0 ≡ power_sum (without (take (suc i) marks) word) (first + k)
sums_without F marks word sums old point i first k h is_point here next e =
    e
    ∙ ap₂ bit_xor (next ∙ ap (power_sum (without (take i marks) word)) (let m : first + suc k ≡ suc (first + k) = omega arith in m))
    (ap₂ element_product is_point here)
    ∙ sym (power_sum-weighed_word F (element_power 2 (length word - 1 - get_or marks i 0)) (without (take i marks) word) (first + k))
    ∙ sym (ap (λ (w : List ℕ). power_sum w (first + k)) (without-more marks word i h))

get_or-shifted_coefficients : (cs : List ℕ) (k : ℕ) → get_or (shifted_coefficients cs) k 0 ≡ get_or (0 ∷ cs) k 0
unfolding shifted_coefficients
get_or-shifted_coefficients [] zero = refl
get_or-shifted_coefficients [] (suc k) = refl
get_or-shifted_coefficients (c ∷ cs) k = refl

behind_all : (cs : List ℕ) (k : ℕ) → length cs ≤ k → get_or cs (length cs - 1) 0 ≡ 0 → get_or (0 ∷ cs) k 0 ≡ 0
behind_all cs zero h none = refl
behind_all cs (suc k) h none = elim (cases_eq (suc k) (length cs)) [
  | inl last ↦ ap (λ (n : ℕ). get_or cs n 0) (let m : k ≡ length cs - 1 = omega arith in m) ∙ none
  | inr past ↦ get_or_past cs k 0 (omega arith)
]

-- the value of a polynomial times x + a
pub value-root :
    (F : IsField 391) (D : HasDegrees) (V : HasValues) (E : IgnoresEndZeros) (old new : List ℕ) (a x : ℕ) → length new ≡ length old
    → get_or old (length old - 1) 0 ≡ 0
    → ((k : ℕ) → k < length old → get_or new k 0 ≡ bit_xor (get_or (0 ∷ old) k 0) (element_product a (get_or old k 0)))
    → value_at new x ≡ element_product (bit_xor x a) (value_at old x)
value-root F D V E old new a x long room written =
    let same : (k : ℕ) → get_or new k 0 ≡ get_or (sum_of (shifted_coefficients old) (scaled_coefficients a old)) k 0 = λ k.
    elim (cases_lt k (length old)) [
      | inl inside ↦ written k inside
      | inr past ↦
          get_or_past new k 0 (omega arith)
          ∙ sym (ap₂ bit_xor (behind_all old k past room) (ap (element_product a) (get_or_past old k 0 past) ∙ F.product_zero_right a) ∙ xor_zero_r 0)
    ]
    ∙ sym (D.sum_coefficient (shifted_coefficients old) (scaled_coefficients a old) k ∙ ap₂ bit_xor (get_or-shifted_coefficients old k) (D.scaled_coefficient a old k)) in
    sym (E.values new x)
    ∙ ap (λ (cs : List ℕ). value_at cs x) (E.by_coefficients new (sum_of (shifted_coefficients old) (scaled_coefficients a old)) same)
    ∙ E.values (sum_of (shifted_coefficients old) (scaled_coefficients a old)) x
    ∙ V.of_sum (shifted_coefficients old) (scaled_coefficients a old) x
    ∙ ap₂ bit_xor (V.of_shifted old x) (V.of_scaled a old x)
    ∙ sym (F.distributive x a (value_at old x))

pub value-root_kept :
    (F : IsField 391) (x a v w : ℕ) → w ≡ element_product (bit_xor x a) v → v ≡ 0 → w ≡ 0
value-root_kept F x a v w e none =
    e ∙ ap (element_product (bit_xor x a)) none ∙ F.product_zero_right (bit_xor x a)

pub value-root_here : (F : IsField 391) (a v w : ℕ) → w ≡ element_product (bit_xor a a) v → w ≡ 0
value-root_here F a v w e = e ∙ ap (λ (b : ℕ). element_product b v) (xor_self a) ∙ F.product_zero v

pub lead-root :
    (F : IsField 391) (old new : List ℕ) (a degree : ℕ) → length new ≡ length old → degree + 1 < length old → HasLead old degree
    → ((k : ℕ) → k < length old → get_or new k 0 ≡ bit_xor (get_or (0 ∷ old) k 0) (element_product a (get_or old k 0)))
    → HasLead new (degree + 1)
lead-root F old new a degree long room is written = record {
  lead =
      written (degree + 1) room
      ∙ ap₂ bit_xor (ap (λ (k : ℕ). get_or (0 ∷ old) k 0) (let m : degree + 1 ≡ suc degree = omega arith in m) ∙ is.lead)
      (ap (element_product a) (is.past (degree + 1) (omega arith)) ∙ F.product_zero_right a)
      ∙ xor_zero_r 1;
  past = λ k h.
      elim (cases_lt k (length old)) [
        | inl inside ↦
            written k inside
            ∙ ap₂ bit_xor
            (ap (λ (i : ℕ). get_or (0 ∷ old) i 0) (let m : k ≡ suc (k - 1) = omega arith in m) ∙ is.past (k - 1) (omega arith))
            (ap (element_product a) (is.past k (omega arith)) ∙ F.product_zero_right a)
            ∙ xor_zero_r 0
        | inr past ↦ get_or_past new k 0 (omega arith)
      ];
}

weighed_word-zero : (y : ℕ) (bs : List ℕ) (k : ℕ) (F : IsField 391) → get_or bs k 0 ≡ 0 → get_or (weighed_word y bs) k 0 ≡ 0
unfolding weighed_word
weighed_word-zero y [] k F e = refl
weighed_word-zero y (b ∷ bs) zero F e =
    ap (λ (a : ℕ). element_product a (bit_xor (element_power 2 (length bs)) y)) e ∙ F.product_zero (bit_xor (element_power 2 (length bs)) y)
weighed_word-zero y (b ∷ bs) (suc k) F e = weighed_word-zero y bs k F e

pub length-blanked_word : (marks word : List ℕ) → length (blanked_word marks word) ≡ length word
unfolding blanked_word
length-blanked_word [] word = refl
length-blanked_word (mark ∷ marks) word = length-blanked_word marks (set word mark 0) ∙ length-set word mark 0

-- where two words are the same without their marked bytes, the byte that is left is 0
without-same :
    (F : IsField 391) (marks word other ds : List ℕ) → ((i : ℕ) → i < length marks → get_or marks i 0 < length ds)
    → ((k : ℕ) → get_or word k 0 ≡ get_or other k 0 → get_or ds k 0 ≡ 0) → (k : ℕ)
    → get_or (blanked_word marks word) k 0 ≡ get_or (blanked_word marks other) k 0 → get_or (without marks ds) k 0 ≡ 0
unfolding without blanked_word
without-same F [] word other ds inside same k e = same k e
without-same F (mark ∷ marks) word other ds inside same k e =
    let low : mark < length ds = inside 0 (omega arith) in
    let l : length (weighed_word (element_power 2 (length ds - 1 - mark)) ds) ≡ length ds = length-weighed_word (element_power 2 (length ds - 1 - mark)) ds in
    without-same F marks (set word mark 0) (set other mark 0) (weighed_word (element_power 2 (length ds - 1 - mark)) ds)
    (λ i h. let b = inside (suc i) (omega arith) in omega arith)
    (λ i e'. elim (cases_eq i mark) [
      | inl here ↦
          ap (λ (n : ℕ). get_or (weighed_word (element_power 2 (length ds - 1 - mark)) ds) n 0) here
          ∙ get_or-weighed_word (element_power 2 (length ds - 1 - mark)) ds mark (length ds - 1 - mark) (omega arith)
          ∙ ap (element_product (get_or ds mark 0)) (xor_self (element_power 2 (length ds - 1 - mark)))
          ∙ F.product_zero_right (get_or ds mark 0)
      | inr apart ↦
          weighed_word-zero (element_power 2 (length ds - 1 - mark)) ds i F
          (same i (sym (get_or-set_other word mark i 0 0 apart) ∙ e' ∙ get_or-set_other other mark i 0 0 apart))
    ]) k e

weight-covered :
    (xs ys : List ℕ) → length xs ≡ length ys → ((k : ℕ) → get_or ys k 0 ≡ 0 → get_or xs k 0 ≡ 0) → weight xs ≤ weight ys
unfolding weight
weight-covered [] ys l zeros = omega arith
weight-covered (x ∷ xs) [] l zeros = absurd (omega arith)
weight-covered (zero ∷ xs) (zero ∷ ys) l zeros = weight-covered xs ys (omega arith) (λ k. zeros (suc k))
weight-covered (suc x ∷ xs) (zero ∷ ys) l zeros = let none : suc x ≡ 0 = zeros 0 refl in absurd (omega arith)
weight-covered (x ∷ xs) (suc y ∷ ys) l zeros =
    let first = weight-cons x xs in
    let rest = weight-covered xs ys (omega arith) (λ k. zeros (suc k)) in
    omega arith

-- of the differences of two words as many bytes are left as they differ without their marked bytes
pub weight-without :
    (F : IsField 391) (marks word other : List ℕ) → length word ≡ length other
    → ((i : ℕ) → i < length marks → get_or marks i 0 < length word)
    → weight (without marks (difference word other)) ≤ differences (blanked_word marks word) (blanked_word marks other)
weight-without F marks word other l inside =
    let long : length (difference word other) ≡ length word = length-difference word other l in
    let l' : length (blanked_word marks word) ≡ length (blanked_word marks other) = length-blanked_word marks word ∙ l ∙ sym (length-blanked_word marks other) in
    let covered = weight-covered (without marks (difference word other)) (difference (blanked_word marks word) (blanked_word marks other))
    (length-without marks (difference word other) ∙ long ∙ sym (length-difference (blanked_word marks word) (blanked_word marks other) l' ∙ length-blanked_word marks word))
    (λ k e.
    without-same F marks word other (difference word other) (λ i h. let b = inside i h in omega arith)
    (λ i e'. get_or-difference word other l i ∙ ap (bit_xor (get_or word i 0)) (sym e') ∙ xor_self (get_or word i 0)) k
    (xor-equal (get_or (blanked_word marks word) k 0) (get_or (blanked_word marks other) k 0)
    (sym (get_or-difference (blanked_word marks word) (blanked_word marks other) l' k) ∙ e))) in
    let most = weight-difference (blanked_word marks word) (blanked_word marks other) in
    omega arith

-- a byte that is not left is 0, or stands at a mark
pub without-located :
    (F : IsField 391) (cs marks ds : List ℕ)
    → ((i : ℕ) → i < length marks → value_at cs (element_power 2 (length ds - 1 - get_or marks i 0)) ≡ 0)
    → ((k : ℕ) → get_or ds k 0 < 256) → (k place : ℕ) → k + suc place ≡ length ds → get_or (without marks ds) k 0 ≡ 0
    → (get_or ds k 0 ≡ 0) ⊎ (value_at cs (element_power 2 place) ≡ 0)
unfolding without
without-located F cs [] ds roots bytes k place e none = inl none
without-located F cs (mark ∷ marks) ds roots bytes k place e none =
    let l : length (weighed_word (element_power 2 (length ds - 1 - mark)) ds) ≡ length ds = length-weighed_word (element_power 2 (length ds - 1 - mark)) ds in
    elim (without-located F cs marks (weighed_word (element_power 2 (length ds - 1 - mark)) ds)
    (λ i h. ap (λ (n : ℕ). value_at cs (element_power 2 (n - 1 - get_or marks i 0))) l ∙ roots (suc i) (omega arith))
    (weighed_word-fits F (element_power 2 (length ds - 1 - mark)) ds) k place (e ∙ sym l) none) [
      | inl gone ↦
          elim (F.zero_factor (get_or ds k 0) (bit_xor (element_power 2 place) (element_power 2 (length ds - 1 - mark))) (bytes k)
          (F.sum_fits (element_power 2 place) (element_power 2 (length ds - 1 - mark)) (power-fits F 2 place) (power-fits F 2 (length ds - 1 - mark)))
          (sym (get_or-weighed_word (element_power 2 (length ds - 1 - mark)) ds k place e) ∙ gone)) [
            | inl zero_byte ↦ inl zero_byte
            | inr same ↦
                inr (ap (value_at cs) (xor-equal (element_power 2 place) (element_power 2 (length ds - 1 - mark)) same) ∙ roots 0 (omega arith))
          ]
      | inr root ↦ inr root
    ]

-- the value of a front behind which all is 0
pub value-front :
    (E : IgnoresEndZeros) (n : ℕ) (cs : List ℕ) (x : ℕ) → n ≤ length cs → ((k : ℕ) → n ≤ k → get_or cs k 0 ≡ 0)
    → value_at (take n cs) x ≡ value_at cs x
value-front E n cs x room zeros =
    sym (E.values (take n cs) x)
    ∙ ap (λ (ds : List ℕ). value_at ds x) (E.by_coefficients (take n cs) cs (get_or-front n cs zeros))
    ∙ E.values cs x

-- a code word near a word without marks
pub near_without_marks :
    (count roots first : ℕ) (word other : List ℕ) → IsNear count roots first word other → IsNearWith count roots first [] word other
unfolding blanked_word
near_without_marks count roots first word other near = record {
  code = near.code;
  near = let few = leb-true (differences word other) (bound roots) near.near in omega arith;
}
