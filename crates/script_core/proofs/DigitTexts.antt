-- The digits of cells are a text.
use Rattle.std.proofs.Common.{ℕ, ◌+◌, ◌<◌, List, Result, Ok, Err, MatchResult, arith, refl}
use Rattle.std.proofs.lemmas.List.Elements.{All-map}
use Rattle.std.proofs.lemmas.Str.{IsUtf8-from_ascii}
use Rattle.std.proofs.lemmas.Str.Ascii.{IsAscii-from_all}
use Rattle.std.specs.Result.{IsOk}
use Rattle.std.specs.Str.{IsUtf8}
use Rattle.radar_core.specs.Cells.{IsCells}
use Rattle.script_core.specs.Printed.{cell_digits}

digit_small : (cell : ℕ) → cell < 8 → 48 + cell < 128
digit_small cell small = omega (arith, small)

pub utf8_of_cells : (cells : List ℕ) → IsCells cells → IsUtf8 (cell_digits cells)
utf8_of_cells cells are =
    IsUtf8-from_ascii (cell_digits cells)
    (IsAscii-from_all (cell_digits cells) (All-map (λ b. b < 128) (λ cell. 48 + cell) cells (λ k d within. digit_small _ (are.intensities k d within))))

-- what is an error only where something does not hold, is none where it holds
pub ok_where : {T E : Type 0} (r : Result T E) (P : T → Type 0) (U : Type 0) (V : E → Type 0) → MatchResult r P (λ e. ¬ U × V e) → U → IsOk r
ok_where (Ok x) P U V m u = refl
ok_where (Err e) P U V m u = absurd (m.0 u)
