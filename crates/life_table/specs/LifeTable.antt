-- How long weather lives, and in which form its time is sent. Lives are seconds.
use Rattle.std.specs.Prelude.{ℕ, ◌==◌, if◌then◌else◌, List, [], ◌∷◌, map, filter, fold, max, find}
use Rattle.std.specs.Prelude.{Option, Some, None, unwrap_or, codes}
use Rattle.std.specs.Str.{bytes_eq}
use Rattle.fisb_time.specs.declared.form.TimeForm.{TimeForm}
use Rattle.fisb_time.specs.declared.form.TimeForm.TheVariants.{Minute, DayMinute}
use Rattle.life_table.specs.Products.{regional_radar, conus_radar, text_product}

-- a type of report: the type that keys name, how many words make a key, the life, the form
pub record TextRow : Type 0 where
  pub word : List ℕ
  pub kind : List ℕ
  pub words : ℕ
  pub life : ℕ
  pub form : TimeForm

pub record RadarRow : Type 0 where
  pub product : ℕ
  pub life : ℕ
  pub form : TimeForm

-- no life is longer
abbrev pub thirty_days : ℕ
thirty_days = 2592000

-- late: how long after it was sent a frame may be heard
pub record LifeTable : Type 0 where
  pub late : ℕ
  pub texts : List TextRow
  pub radars : List RadarRow

abbrev pub row : List ℕ → List ℕ → ℕ → ℕ → TimeForm → TextRow
row word kind words life form =
    record { word = word; kind = kind; words = words; life = life; form = form }

abbrev pub radar : ℕ → ℕ → TimeForm → RadarRow
radar product life form = record { product = product; life = life; form = form }

-- the table that holds where none is given; a SPECI is kept as a METAR, an amended TAF as a TAF
unfoldable pub default_table : LifeTable
default_table = record {
  late = 600;
  texts = row (codes "METAR") (codes "METAR") 2 7200 Minute
      ∷ row (codes "SPECI") (codes "METAR") 2 7200 Minute
      ∷ row (codes "TAF") (codes "TAF") 2 28800 Minute
      ∷ row (codes "TAF.AMD") (codes "TAF") 2 28800 Minute
      ∷ row (codes "PIREP") (codes "PIREP") 3 10800 Minute
      ∷ row (codes "WINDS") (codes "WINDS") 3 86400 DayMinute ∷ [];
  radars = radar regional_radar 1200 Minute ∷ radar conus_radar 2700 Minute ∷ [];
}

-- the row of reports that begin with this word
abbrev pub text_row : LifeTable → List ℕ → Option TextRow
text_row table word = find (λ r. bytes_eq r.word word) table.texts

-- the row of a radar product
abbrev pub radar_row : LifeTable → ℕ → Option RadarRow
radar_row table product = find (λ r. r.product == product) table.radars

-- the greatest number, where there is one
abbrev pub greatest_of : List ℕ → Option ℕ
greatest_of [] = None
greatest_of (n ∷ more) = Some (fold max n more)

-- the greatest life of a product's rows
abbrev pub longest : LifeTable → ℕ → Option ℕ
longest table product = if product == text_product then greatest_of (map (λ r. r.life) table.texts)
    else greatest_of (map (λ r. r.life) (filter (λ r. r.product == product) table.radars))

-- the same, 0 where the product has no row
abbrev pub longest_life : LifeTable → ℕ → ℕ
longest_life table product = unwrap_or (longest table product) 0

-- the greatest life of all rows
abbrev pub greatest_life : LifeTable → ℕ
greatest_life table = max (longest_life table text_product)
    (max (longest_life table regional_radar) (longest_life table conus_radar))
