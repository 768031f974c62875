-- What a line of radar says is within its ranges.
use Rattle.std.proofs.Common.{ℕ, ◌+◌, ◌<◌, ◌≤◌, ◌^◌, ◌==◌, Bool, All, List, [], ◌∷◌, Option, Some, None, option_and_then, length, length-append, subst, arith, inl, inr, lit<}
use Rattle.std.proofs.lemmas.Bool.{cases_Bool}
use Rattle.std.proofs.lemmas.List.Elements.{All-append, All-push}
use Rattle.std.specs.List.{join_with_byte}
use Rattle.std.specs.Option.{IfSome}
use Rattle.fisb_time.specs.Moment.{IsMoment}
use Rattle.script_core.specs.Fields.{◌>>=◌, number_within, moment_in}
use Rattle.script_core.specs.Script.{Line}
use Rattle.std.proofs.lemmas.List.Sums.{count_by-le-length}
use Rattle.std.proofs.lemmas.List.Splits.{length-slice_split}
use Rattle.std.specs.List.{slice_split}
use Rattle.radar_core.specs.Cells.{IsCells}
use Rattle.script_core.specs.declared.radar.RadarHead.{RadarHead}
use Rattle.script_core.specs.Fields.{is_cells, intensities_in, south_in, block_number_in, block_numbers, numbers_in, head_in, block_behind, radar_line, blanks_behind, blank_line}
use Rattle.script_core.specs.Script.{radar, blank}
use Rattle.script_core.proofs.CellDigits.{cells_of_digits}
use Rattle.script_core.proofs.FieldRanges.{IsRanged, number_below, moment_range, joined_behind}

cells_ranged : (field : List ℕ) → IfSome (intensities_in field) IsCells
cells_ranged field =
    elim (cases_Bool (is_cells field)) [
      | inl holds ↦ rw holds (cells_of_digits field holds)
      | inr fails ↦ rw fails tt
    ]

-- what begins a line of radar
record IsHead (head : RadarHead) : Type 0 where
  moment : IsMoment head.moment
  version : IsMoment head.version
  product : head.product < 2048
  scale : head.scale < 4

abbrev head_by : Option ℕ → Option ℕ → Option ℕ → Option ℕ → Option Bool → Option RadarHead
head_by moment version product scale south = do
  m ← moment
  v ← version
  p ← product
  s ← scale
  h ← south
  Some (record { moment = m; version = v; product = p; scale = s; south = h })

head_by_ranged : (moment version product scale : Option ℕ) (south : Option Bool) → IfSome moment IsMoment → IfSome version IsMoment → IfSome product (λ n. n < 2048) → IfSome scale (λ n. n < 4)
    → IfSome (head_by moment version product scale south) IsHead
head_by_ranged None version product scale south m v p s = tt
head_by_ranged (Some moment) None product scale south m v p s = tt
head_by_ranged (Some moment) (Some version) None scale south m v p s = tt
head_by_ranged (Some moment) (Some version) (Some product) None south m v p s = tt
head_by_ranged (Some moment) (Some version) (Some product) (Some scale) None m v p s = tt
head_by_ranged (Some moment) (Some version) (Some product) (Some scale) (Some south) m v p s = record { moment = m; version = v; product = p; scale = s }

head_ranged : (moment version product scale hemisphere : List ℕ) → IfSome (head_in moment version product scale hemisphere) IsHead
head_ranged moment version product scale hemisphere =
    head_by_ranged (moment_in moment) (moment_in version) (number_within 0 2047 product) (number_within 0 3 scale) (south_in hemisphere)
    (moment_range moment) (moment_range version) (number_below 2047 2048 product (lit< tt)) (number_below 3 4 scale (lit< tt))

-- the line of a head, where the fields behind it are of its form
behind_head : (size : ℕ) (head : Option RadarHead) (rest : List (List ℕ)) (line : RadarHead → List (List ℕ) → Option Line) → IfSome head IsHead
    → ((h : RadarHead) → IsHead h → IsRanged size (line h rest))
    → IsRanged size (option_and_then (λ (front : RadarHead × List (List ℕ)). line front.0 front.1) (option_and_then (λ h. Some (h, rest)) head))
behind_head size None rest line is next = tt
behind_head size (Some head) rest line is next = next head is

abbrev block_by : RadarHead → Option ℕ → Option (List ℕ) → Option Line
block_by head number cells = do
  n ← number
  c ← cells
  Some (radar head.moment head.version (record { product = head.product; scale = head.scale; south = head.south; number = n }) c)

block_by_ranged : (size : ℕ) (head : RadarHead) (number : Option ℕ) (cells : Option (List ℕ)) → IsHead head → IfSome number (λ n. n < 2 ^ 20) → IfSome cells IsCells
    → IsRanged size (block_by head number cells)
block_by_ranged size head None cells is n c = tt
block_by_ranged size head (Some number) None is n c = tt
block_by_ranged size head (Some number) (Some cells) is n c = (is.moment, is.version, record { product = is.product; scale = is.scale; number = n }, c)

number_ranged : (field : List ℕ) → IfSome (block_number_in field) (λ n. n < 2 ^ 20)
number_ranged field = number_below 1048575 (2 ^ 20) field (lit< tt)

block_ranged : (size : ℕ) (head : RadarHead) (rest : List (List ℕ)) → IsHead head → IsRanged size (block_behind head rest)
block_ranged size head [] is = tt
block_ranged size head (number ∷ []) is = tt
block_ranged size head (number ∷ cells ∷ []) is = block_by_ranged size head (block_number_in number) (intensities_in cells) is (number_ranged number) (cells_ranged cells)
block_ranged size head (number ∷ cells ∷ more ∷ others) is = tt

pub radar_ranged : (size : ℕ) (rest : List (List ℕ)) → IsRanged size (radar_line rest)
radar_ranged size [] = tt
radar_ranged size (moment ∷ []) = tt
radar_ranged size (moment ∷ version ∷ []) = tt
radar_ranged size (moment ∷ version ∷ product ∷ []) = tt
radar_ranged size (moment ∷ version ∷ product ∷ scale ∷ []) = tt
radar_ranged size (moment ∷ version ∷ product ∷ scale ∷ hemisphere ∷ rest) =
    behind_head size (head_in moment version product scale hemisphere) rest block_behind (head_ranged moment version product scale hemisphere)
    (λ head is. block_ranged size head rest is)

-- as many numbers as parts
numbers_where : (number : Option ℕ) (count : ℕ) (rest : Option (List ℕ)) → IfSome number (λ n. n < 2 ^ 20) → IfSome rest (λ more. All (λ n. n < 2 ^ 20) more × (length more ≤ count))
    → IfSome (option_and_then (λ (n : ℕ). option_and_then (λ more. Some (n ∷ more)) rest) number) (λ all. All (λ n. n < 2 ^ 20) all × (length all ≤ count + 1))
numbers_where None count rest n r = tt
numbers_where (Some number) count None n r = tt
numbers_where (Some number) count (Some more) n r =
    let counted = r.1 in
    (All-append (λ x. x < 2 ^ 20) (number ∷ []) more (All-push (λ x. x < 2 ^ 20) [] number (λ k d within. absurd (omega (arith, within))) n) r.0, omega (arith, counted))

numbers_ranged : (parts : List (List ℕ)) → IfSome (block_numbers parts) (λ all. All (λ n. n < 2 ^ 20) all × (length all ≤ length parts))
numbers_ranged [] = (λ k d within. absurd (omega (arith, within)), omega arith)
numbers_ranged (part ∷ others) =
    subst (λ count. IfSome (block_numbers (part ∷ others)) (λ all. All (λ n. n < 2 ^ 20) all × (length all ≤ count))) (omega arith)
    (numbers_where (block_number_in part) (length others) (block_numbers others) (number_ranged part) (numbers_ranged others))

parts_count : (field : List ℕ) → length (slice_split (λ b. b == 44) field) ≤ length field + 1
parts_count field =
    let parts = length-slice_split (λ b. b == 44) field in
    let most = count_by-le-length (λ b. b == 44) field in
    omega (arith, parts, most)

abbrev blanks_by : RadarHead → Option (List ℕ) → Option Line
blanks_by head numbers = do
  n ← numbers
  Some (blank head.moment head.version head.product head.scale head.south n)

blanks_by_ranged : (size count : ℕ) (head : RadarHead) (numbers : Option (List ℕ)) → IsHead head → count ≤ size
    → IfSome numbers (λ all. All (λ n. n < 2 ^ 20) all × (length all ≤ count)) → IsRanged size (blanks_by head numbers)
blanks_by_ranged size count head None is fits n = tt
blanks_by_ranged size count head (Some numbers) is fits n =
    let counted = n.1 in
    (is.moment, is.version, record { product_range = is.product; scale_range = is.scale; numbers_range = n.0; count = omega (arith, counted, fits) })

blanks_ranged : (size : ℕ) (head : RadarHead) (hemisphere : List ℕ) (rest : List (List ℕ)) → IsHead head → length (join_with_byte 32 (hemisphere ∷ rest)) ≤ size
    → IsRanged size (blanks_behind head rest)
blanks_ranged size head hemisphere [] is fits = tt
blanks_ranged size head hemisphere (numbers ∷ []) is fits =
    let whole = length-append hemisphere (32 ∷ numbers) in
    let parts = parts_count numbers in
    blanks_by_ranged size (length (slice_split (λ b. b == 44) numbers)) head (numbers_in numbers) is (omega (arith, whole, parts, fits)) (numbers_ranged (slice_split (λ b. b == 44) numbers))
blanks_ranged size head hemisphere (numbers ∷ more ∷ others) is fits = tt

pub blank_ranged : (size : ℕ) (rest : List (List ℕ)) → length (join_with_byte 32 rest) ≤ size → IsRanged size (blank_line rest)
blank_ranged size [] fits = tt
blank_ranged size (moment ∷ []) fits = tt
blank_ranged size (moment ∷ version ∷ []) fits = tt
blank_ranged size (moment ∷ version ∷ product ∷ []) fits = tt
blank_ranged size (moment ∷ version ∷ product ∷ scale ∷ []) fits = tt
blank_ranged size (moment ∷ version ∷ product ∷ scale ∷ hemisphere ∷ rest) fits =
    let one = joined_behind moment (version ∷ product ∷ scale ∷ hemisphere ∷ rest) in
    let two = joined_behind version (product ∷ scale ∷ hemisphere ∷ rest) in
    let three = joined_behind product (scale ∷ hemisphere ∷ rest) in
    let four = joined_behind scale (hemisphere ∷ rest) in
    behind_head size (head_in moment version product scale hemisphere) rest blanks_behind (head_ranged moment version product scale hemisphere)
    (λ head is. blanks_ranged size head hemisphere rest is (omega (arith, one, two, three, four, fits)))
