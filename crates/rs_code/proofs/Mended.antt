-- A word that is near a code word becomes that code word, once the errors at the places of its locator are added.
use Rattle.std.proofs.Common.{◌≡◌, ℕ, suc, ◌+◌, ◌-◌, ◌*◌, ◌/◌, ◌<◌, ◌≤◌, List, [], length, get_or, take, lit<, refl, sym, ◌∙◌, ap, subst, arith, inl, inr}
use Rattle.std.specs.Int.Bits.{bit_xor, xor_zero_r}
use Rattle.std.proofs.lemmas.List.{get_or-take, length-take-le}
use Rattle.list_members.specs.Places.{take-below}
use Rattle.gf256_core.specs.Field.{IsField}
use Rattle.poly256.specs.Polynomial.{element_product, element_power, value_at}
use Rattle.poly256.specs.Laws.{HasDegrees, HasFewRoots, HasValues, IgnoresEndZeros}
use Rattle.rs_code.specs.CodeWord.{IsInstance, power_sum}
use Rattle.rs_code.specs.Mending.{zero_places, points_of, points_sum, with_errors, without, IsLocator, IsNearWith, HasLead}
use Rattle.rs_code.proofs.PowerSums.{power_sum-sum}
use Rattle.rs_code.proofs.Distance.{difference, length-difference, get_or-difference, weight}
use Rattle.rs_code.proofs.Marked.{length-without, without-fits, weight-without, without-located, value-front}
use Rattle.rs_code.proofs.Pairing.{paired_sum-front, paired_sum-same_below}
use Rattle.rs_code.proofs.Weighing.{located}
use Rattle.rs_code.proofs.ZeroPlaces.{few_zero_places, length-points_of}
use Rattle.rs_code.proofs.Solving.{Solves}
use Rattle.rs_code.proofs.Mending.{gathered, AreLocated, length-gathered, gathered-fits, raised_errors, length-raised_errors, raised_errors-fits, get_or-raised_errors, sums_of_errors, all_errors, difference-back}

-- a locator of the wrong bytes without marks, whose sums these are, and the product of it and the points of the marks
pub record IsLocatorOf (count roots : ℕ) (marks locator sums whole : List ℕ) (low degree : ℕ) : Type 0 where
  pub pairs : IsLocator locator sums low (length sums / 2)
  pub few : low ≤ length sums / 2
  pub long : length locator ≡ count
  pub bytes : (k : ℕ) → get_or locator k 0 < 256
  pub many_sums : length sums + length marks ≡ roots
  pub many : low + length marks ≡ degree
  pub lead : HasLead whole degree
  pub whole_long : length whole ≡ count
  pub whole_bytes : (k : ℕ) → get_or whole k 0 < 256
  pub kept : (x : ℕ) → value_at locator x ≡ 0 → value_at whole x ≡ 0
  pub marked : (i : ℕ) → i < length marks → value_at whole (element_power 2 (count - 1 - get_or marks i 0)) ≡ 0

pub locator_of :
    (count roots : ℕ) (marks all locator whole : List ℕ) (low : ℕ) → length all ≡ roots → length marks ≤ roots
    → IsLocator locator (take (roots - length marks) all) low (length (take (roots - length marks) all) / 2)
    → low ≤ length (take (roots - length marks) all) / 2 → length locator ≡ count → ((k : ℕ) → get_or locator k 0 < 256)
    → HasLead whole (low + length marks) → length whole ≡ count → ((k : ℕ) → get_or whole k 0 < 256)
    → ((x : ℕ) → value_at locator x ≡ 0 → value_at whole x ≡ 0)
    → ((i : ℕ) → i < length marks → value_at whole (element_power 2 (count - 1 - get_or marks i 0)) ≡ 0)
    → IsLocatorOf count roots marks locator (take (roots - length marks) all) whole low (low + length marks)
locator_of count roots marks all locator whole low all_long few_marks pairs few long bytes lead whole_long whole_bytes kept marked =
    record {
      pairs = pairs;
      few = few;
      long = long;
      bytes = bytes;
      many_sums = let l = length-take-le (roots - length marks) all (omega arith) in omega arith;
      many = refl;
      lead = lead;
      whole_long = whole_long;
      whole_bytes = whole_bytes;
      kept = kept;
      marked = marked;
    }

-- there are at most as many places as roots
pub few_places :
    (F : IsField 391) (D : HasDegrees) (R : HasFewRoots) (count roots : ℕ) (marks locator sums whole : List ℕ) (low degree : ℕ)
    → IsLocatorOf count roots marks locator sums whole low degree → roots < count → count ≤ 255
    → length (zero_places (take (degree + 1) whole) count) ≤ roots
few_places F D R count roots marks locator sums whole low degree is below short =
    let few = is.few in
    let many = is.many in
    let many_sums = is.many_sums in
    let l : length (take (degree + 1) whole) ≡ suc degree =
    length-take-le (degree + 1) whole (let m = is.whole_long in omega arith) ∙ (let e : degree + 1 ≡ suc degree = omega arith in e) in
    let most : length (zero_places (take (degree + 1) whole) count) ≤ degree =
    few_zero_places F D R (take (degree + 1) whole) count degree short (take-below 256 (degree + 1) whole (lit< tt) is.whole_bytes) l
    (get_or-take (degree + 1) whole degree 0 (omega arith) ∙ is.lead.lead) in
    omega arith

pub few_found :
    (F : IsField 391) (D : HasDegrees) (R : HasFewRoots) (count roots : ℕ) (marks locator sums whole places : List ℕ) (low degree found : ℕ)
    → IsLocatorOf count roots marks locator sums whole low degree → roots < count → count ≤ 255 → length places ≡ count
    → found ≤ count → take found places ≡ zero_places (take (degree + 1) whole) count → found ≤ roots
few_found F D R count roots marks locator sums whole places low degree found is below short long within e =
    let few = few_places F D R count roots marks locator sums whole low degree is below short in
    let l : length (take found places) ≡ found = length-take-le found places (omega arith) in
    let m = ap length e in
    omega arith

-- the errors of a word that is near a code word
record HasErrors (count roots first : ℕ) (marks word other sums errors : List ℕ) : Type 0 where
  long : length errors ≡ count
  bytes : (k : ℕ) → get_or errors k 0 < 256
  few : 2 * weight (without marks errors) + length marks ≤ roots
  sums_are : (n : ℕ) → n < roots → power_sum errors (first + n) ≡ get_or sums n 0

has_errors :
    (F : IsField 391) (count roots first : ℕ) (marks word other sums : List ℕ) → IsNearWith count roots first marks word other
    → ((i : ℕ) → i < length marks → get_or marks i 0 < count) → length word ≡ count → ((k : ℕ) → get_or word k 0 < 256)
    → ((n : ℕ) → n < roots → get_or sums n 0 ≡ power_sum word (first + n))
    → HasErrors count roots first marks word other sums (difference word other)
has_errors F count roots first marks word other sums near inside long bytes sums_are =
    let l : length word ≡ length other = long ∙ sym near.code.long in
    record {
      long = length-difference word other l ∙ long;
      bytes = λ k.
          subst (λ (x : ℕ). x < 256) (sym (get_or-difference word other l k))
          (F.sum_fits (get_or word k 0) (get_or other k 0) (bytes k) (near.code.bytes k));
      few =
          let few = near.near in
          let most = weight-without F marks word other l (λ i h. let b = inside i h in omega arith) in
          omega arith;
      sums_are = λ n h.
          power_sum-sum F (difference word other) word other (sym (length-difference word other l))
          (sym l ∙ sym (length-difference word other l)) (get_or-difference word other l) (first + n)
          ∙ ap (bit_xor (power_sum word (first + n))) (near.code.sums (first + n) (omega arith) (omega arith))
          ∙ xor_zero_r (power_sum word (first + n))
          ∙ sym (sums_are n h);
    }

-- the sums without marks are those of the bytes without marks
abbrev pub TakesMarks : ℕ → ℕ → ℕ → List ℕ → List ℕ → List ℕ → Type 0
TakesMarks count roots first marks all sums =
    (word : List ℕ) → length word ≡ count → ((n : ℕ) → n < roots → get_or all n 0 ≡ power_sum word (first + n)) → (n : ℕ)
    → n < length sums → get_or sums n 0 ≡ power_sum (without marks word) (first + n)

-- each wrong place is one where the product is 0
errors-located :
    (F : IsField 391) (V : HasValues) (E : IgnoresEndZeros) (count roots first : ℕ) (marks word other all sums errors locator whole : List ℕ) (low degree : ℕ)
    → HasErrors count roots first marks word other all errors → TakesMarks count roots first marks all sums
    → IsLocatorOf count roots marks locator sums whole low degree → count ≤ 255 → roots < count
    → AreLocated (take (degree + 1) whole) errors
errors-located F V E count roots first marks word other all sums errors locator whole low degree has takes is short below = λ k place e.
    let few = is.few in
    let many = is.many in
    let many_sums = is.many_sums in
    let errors_long = has.long in
    let long = is.long in
    let whole_long = is.whole_long in
    let left_long = length-without marks errors in
    let few_left = has.few in
    let fronted : value_at (take (degree + 1) whole) (element_power 2 place) ≡ value_at whole (element_power 2 place) =
    value-front E (degree + 1) whole (element_power 2 place) (omega arith) (λ i h. is.lead.past i (omega arith)) in
    elim (located F V (take (low + 1) locator) (without marks errors) (length sums / 2) first (omega arith)
    (without-fits F marks errors has.bytes) (take-below 256 (low + 1) locator (lit< tt) is.bytes) (omega arith)
    (λ j h.
    paired_sum-same_below (take (low + 1) locator) (λ i. power_sum (without marks errors) (first + (j + i))) (λ i. get_or sums (j + i) 0)
    (λ i h'.
    sym (takes errors has.long (λ n h''. sym (has.sums_are n h'')) (j + i)
    (let l = length-take-le (low + 1) locator (omega arith) in omega arith)))
    ∙ paired_sum-front F (low + 1) locator (λ i. get_or sums (j + i) 0) (λ i h'. is.pairs.past i (omega arith))
    ∙ is.pairs.zero j h) k place (e ∙ sym left_long)) [
      | inl gone ↦
          elim (without-located F whole marks errors
          (λ i h. ap (λ (n : ℕ). value_at whole (element_power 2 (n - 1 - get_or marks i 0))) has.long ∙ is.marked i h) has.bytes k place e gone) [
            | inl none ↦ inl none
            | inr root ↦ inr (fronted ∙ root)
          ]
      | inr root ↦
          inr (fronted
          ∙ is.kept (element_power 2 place)
          (sym (value-front E (low + 1) locator (element_power 2 place) (omega arith) (λ i h. is.pairs.past i (omega arith))) ∙ root))
    ]

-- what the steps of `mend` give
pub mended :
    (F : IsField 391) (D : HasDegrees) (R : HasFewRoots) (V : HasValues) (E : IgnoresEndZeros) (count roots first : ℕ) (marks word other all sums locator whole places points solved result : List ℕ) (low degree found : ℕ)
    → IsInstance count roots first → IsNearWith count roots first marks word other
    → ((i : ℕ) → i < length marks → get_or marks i 0 < count) → length word ≡ count
    → ((k : ℕ) → get_or word k 0 < 256) → ((n : ℕ) → n < roots → get_or all n 0 ≡ power_sum word (first + n))
    → TakesMarks count roots first marks all sums → IsLocatorOf count roots marks locator sums whole low degree
    → places ≡ zero_places (take (degree + 1) whole) count → points ≡ points_of places → found ≡ length places
    → Solves points (take found all) solved
    → ((errors : List ℕ) → length errors ≡ length places → ((i : ℕ) → get_or errors i 0 < 256)
    → ((i : ℕ) → i < length errors → element_product (get_or errors i 0) (element_power 2 (first * get_or places i 0)) ≡ get_or solved i 0)
    → result ≡ with_errors word places errors)
    → result ≡ other
mended F D R V E count roots first marks word other all sums locator whole places points solved result low degree found instance near inside long bytes sums_are takes is are_places are_points are_found solves adds =
    let has = has_errors F count roots first marks word other all near inside long bytes sums_are in
    let there = errors-located F V E count roots first marks word other all sums (difference word other) locator whole low degree has takes is instance.short instance.below in
    let few = few_places F D R count roots marks locator sums whole low degree is instance.below instance.short in
    let many : length (gathered (take (degree + 1) whole) (difference word other)) ≡ length places =
    length-gathered (take (degree + 1) whole) (difference word other)
    ∙ ap (λ (n : ℕ). length (zero_places (take (degree + 1) whole) n)) has.long ∙ sym (ap length are_places) in
    let values : solved ≡ raised_errors first places (gathered (take (degree + 1) whole) (difference word other)) =
    solves (raised_errors first places (gathered (take (degree + 1) whole) (difference word other)))
    (length-raised_errors first places (gathered (take (degree + 1) whole) (difference word other)) many
    ∙ sym (ap length are_points ∙ length-points_of places))
    (raised_errors-fits F first places (gathered (take (degree + 1) whole) (difference word other)))
    (λ n h.
    let inside : n < length places =
    let l = length-raised_errors first places (gathered (take (degree + 1) whole) (difference word other)) many in omega arith in
    let low : n < roots = let p = ap length are_places in omega arith in
    get_or-take found all n 0 (omega arith)
    ∙ sym (has.sums_are n low)
    ∙ sums_of_errors F (take (degree + 1) whole) (difference word other) first n there
    ∙ ap (λ (m : ℕ). points_sum (points_of (zero_places (take (degree + 1) whole) m)) (raised_errors first (zero_places (take (degree + 1) whole) m) (gathered (take (degree + 1) whole) (difference word other))) n) has.long
    ∙ ap (λ (ps : List ℕ). points_sum (points_of ps) (raised_errors first ps (gathered (take (degree + 1) whole) (difference word other))) n) (sym are_places)
    ∙ ap (λ (xs : List ℕ). points_sum xs (raised_errors first places (gathered (take (degree + 1) whole) (difference word other))) n) (sym are_points)) in
    adds (gathered (take (degree + 1) whole) (difference word other)) many
    (gathered-fits (take (degree + 1) whole) (difference word other) has.bytes)
    (λ i h.
    sym (get_or-raised_errors first places (gathered (take (degree + 1) whole) (difference word other)) i many (omega arith))
    ∙ ap (λ (xs : List ℕ). get_or xs i 0) (sym values))
    ∙ ap (λ (ps : List ℕ). with_errors word ps (gathered (take (degree + 1) whole) (difference word other))) (are_places ∙ ap (zero_places (take (degree + 1) whole)) (sym has.long))
    ∙ all_errors F (take (degree + 1) whole) [] word (difference word other) (has.long ∙ sym long) there
    ∙ difference-back word other (long ∙ sym near.code.long)
