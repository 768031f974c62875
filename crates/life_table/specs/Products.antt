-- The products that are read (RTCA DO-358): radar of a region, radar of the whole country, and
-- text.
use Rattle.std.specs.Prelude.{ℕ, Bool, ◌||◌, ◌==◌}

abbrev pub regional_radar : ℕ
regional_radar = 63

abbrev pub conus_radar : ℕ
conus_radar = 64

abbrev pub text_product : ℕ
text_product = 413

abbrev pub is_read_product : ℕ → Bool
is_read_product product =
    (product == regional_radar) || (product == conus_radar) || (product == text_product)
