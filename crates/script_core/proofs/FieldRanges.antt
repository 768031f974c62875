-- The ranges of fields that spell numbers, and how long fields are, joined.
use Rattle.std.proofs.Common.{ℕ, ◌<◌, ◌≤◌, Bool, ◌&&◌, nat_le, cond, List, [], ◌∷◌, Option, Some, None, length, length-append, arith, inl, inr}
use Rattle.std.proofs.lemmas.Bool.{cases_Bool}
use Rattle.std.proofs.lemmas.Bool.Decides.{nat_tests}
use Rattle.std.specs.List.{join_with_byte}
use Rattle.std.specs.Option.{IfSome}
use Rattle.fisb_time.specs.Moment.{IsMoment, first_moment, last_moment}
use Rattle.script_core.specs.Fields.{is_number, digits_value, number_within, moment_in}
use Rattle.script_core.specs.LineView.{HasRanges}
use Rattle.script_core.specs.Script.{Line}

-- a line, if there is one, is within its ranges
abbrev pub IsRanged : ℕ → Option Line → Type 0
IsRanged size line = IfSome line (HasRanges size)

number_where : (b : Bool) (low high n : ℕ) → IfSome (cond (b && nat_le low n && nat_le n high) (Some n) None) (λ m. (low ≤ m) × (m ≤ high))
number_where b low high n =
    elim (cases_Bool (b && nat_le low n && nat_le n high)) [
      | inl holds ↦ rw holds (grind (arith, nat_tests), grind (arith, nat_tests))
      | inr fails ↦ rw fails tt
    ]

pub number_bounds : (low high : ℕ) (field : List ℕ) → IfSome (number_within low high field) (λ m. (low ≤ m) × (m ≤ high))
number_bounds low high field = number_where (is_number field) low high (digits_value field)

lower : (high bound : ℕ) (number : Option ℕ) → high < bound → IfSome number (λ m. (0 ≤ m) × (m ≤ high)) → IfSome number (λ m. m < bound)
lower high bound None below h = tt
lower high bound (Some n) below h = let most : n ≤ high = h.1 in omega (arith, most)

pub number_below : (high bound : ℕ) (field : List ℕ) → high < bound → IfSome (number_within 0 high field) (λ m. m < bound)
number_below high bound field below = lower high bound (number_within 0 high field) below (number_bounds 0 high field)

pub moment_range : (field : List ℕ) → IfSome (moment_in field) IsMoment
moment_range field = number_bounds first_moment last_moment field

-- the parts behind the first are no longer, joined, than all
pub joined_behind : (part : List ℕ) (others : List (List ℕ)) → length (join_with_byte 32 others) ≤ length (join_with_byte 32 (part ∷ others))
joined_behind part [] = omega arith
joined_behind part (next ∷ more) =
    let whole = length-append part (32 ∷ join_with_byte 32 (next ∷ more)) in
    omega (arith, whole)
