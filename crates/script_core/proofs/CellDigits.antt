-- The cells of a block, from their digits.
use Rattle.std.proofs.Common.{◌≡◌, ℕ, ◌-◌, ◌<◌, true, All, List, length, map, Option, Some, None, IsSome, IfSome, get_or, ap, sym, ◌∙◌, arith}
use Rattle.std.proofs.lemmas.Bool.Decides.{nat_tests}
use Rattle.std.proofs.lemmas.List.{ext_get_or, length-map}
use Rattle.std.proofs.lemmas.List.{get_or-map}
use Rattle.std.proofs.lemmas.List.Elements.{All-map}
use Rattle.std.proofs.lemmas.List.Sums.{AllPass-from_list_all}
use Rattle.std.specs.Int.{is_in_range}
use Rattle.std.specs.List.{list_all}
use Rattle.radar_core.specs.Cells.{IsCells}
use Rattle.script_core.specs.Fields.{is_cells, intensities_in}

-- a digit of a cell spells an intensity
digit_cell : (digit : ℕ) → is_in_range 48 55 digit ≡ true → digit - 48 < 8
digit_cell digit within = grind (arith, nat_tests)

pub cells_of_digits : (field : List ℕ) → is_cells field ≡ true → IsCells (map (λ digit. digit - 48) field)
cells_of_digits field are =
    let count : length field ≡ 128 = grind (arith, nat_tests) in
    let all : list_all (is_in_range 48 55) field ≡ true = grind (arith, nat_tests) in
    record {
      count = length-map field (λ digit. digit - 48) ∙ count;
      intensities = All-map (λ cell. cell < 8) (λ digit. digit - 48) field (λ k d within. digit_cell _ (AllPass-from_list_all (is_in_range 48 55) field all k d within));
    }

-- the list of which each member is the value of the digit at its place
pub values_of_digits : (digits cells : List ℕ) → length digits ≡ length cells → ((k : ℕ) → k < length digits → get_or cells k 0 ≡ get_or digits k 0 - 48)
    → cells ≡ map (λ digit. digit - 48) digits
values_of_digits digits cells long each =
    ext_get_or 0 cells (map (λ digit. digit - 48) digits) (sym long ∙ sym (length-map digits (λ digit. digit - 48)))
    (λ k within. each k (omega (arith, within, long)) ∙ sym (get_or-map (λ digit. digit - 48) digits k 0 0 (omega (arith, within, long))))

some_of : (result : Option (List ℕ)) (cells : List ℕ) → IsSome result → IfSome result (λ same. same ≡ cells) → result ≡ Some cells
some_of None cells some same = absurd (cc)
some_of (Some other) cells some same = ap Some same

-- what `Cells::new` makes of them
pub cells_made : (field cells : List ℕ) (result : Option (List ℕ)) → is_cells field ≡ true → cells ≡ map (λ digit. digit - 48) field
    → (All (λ cell. cell < 8) cells → IsSome result) → IfSome result (λ same. same ≡ cells) → result ≡ intensities_in field
cells_made field cells result are is some same =
    let fits = cells_of_digits field are in
    some_of result cells (some (rw is fits.intensities)) same ∙ ap Some is ∙ rw are
