-- The rules that every life table keeps, for every row of its lists.
use Rattle.std.specs.Prelude.{◌≡◌, ℕ, ◌+◌, ◌≤◌, ◌⊎◌, IsTrue, List, ◌∷◌, ◌++◌, length, Some}
use Rattle.std.specs.List.{All, Contains}
use Rattle.fisb_time.specs.declared.form.TimeForm.{TimeForm}
use Rattle.fisb_time.specs.declared.form.TimeForm.TheVariants.{Minute, Second, DayMinute, DaySecond}
use Rattle.fisb_time.specs.Moment.{day_seconds}
use Rattle.life_table.specs.Products.{regional_radar, conus_radar}
use Rattle.life_table.specs.LifeTable.{LifeTable, TextRow, RadarRow, row, text_row, radar_row}
use Rattle.life_table.specs.LifeTable.{thirty_days}
use Rattle.life_table.specs.Document.{is_word}

-- A life and what may pass until a frame is heard, with the minute that clocks may differ, stay
-- below the time after which a received time could name a later moment: a day where the form has no
-- date. With a date a life is at most thirty days.
abbrev pub IsWithinForm : ℕ → TimeForm → ℕ → Type 0
IsWithinForm late Minute life = life + late + 60 ≤ day_seconds
IsWithinForm late Second life = life + late + 60 ≤ day_seconds
IsWithinForm late DayMinute life = life ≤ thirty_days
IsWithinForm late DaySecond life = life ≤ thirty_days

-- the row without `as` that a row is kept as
abbrev pub own_row : TextRow → TextRow
own_row r = row r.kind r.kind r.words r.life r.form

-- a row of reports: its word finds it, so that no type stands twice, and the type that it names
-- finds the row that it is kept as
pub record IsTextRow (table : LifeTable) (row : TextRow) : Type 0 where
  pub word : IsTrue (is_word row.word)
  pub kind : IsTrue (is_word row.kind)
  pub words : (row.words ≡ 2) ⊎ (row.words ≡ 3)
  pub lives : 1 ≤ row.life
  pub within : IsWithinForm table.late row.form row.life
  pub found : text_row table row.word ≡ Some row
  pub named : text_row table row.kind ≡ Some (own_row row)

-- a row of radar: its product finds it, so that no product stands twice
pub record IsRadarRow (table : LifeTable) (row : RadarRow) : Type 0 where
  pub product : (row.product ≡ regional_radar) ⊎ (row.product ≡ conus_radar)
  pub lives : 1 ≤ row.life
  pub within : IsWithinForm table.late row.form row.life
  pub found : radar_row table row.product ≡ Some row

pub record IsTable (table : LifeTable) : Type 0 where
  pub late : table.late ≤ 43200
  pub few_texts : length table.texts ≤ 64
  pub few_radars : length table.radars ≤ 2
  pub all_texts : All (IsTextRow table) table.texts
  pub all_radars : All (IsRadarRow table) table.radars
  -- a row with `as` stands after the row without `as` that it is kept as
  pub earlier : (before after : List TextRow) (row : TextRow) → table.texts ≡ before ++ row ∷ after
      → (row.kind ≡ row.word) ⊎ Contains before (own_row row)
  -- the rows that a look-up finds keep the rules too
  pub texts : (word : List ℕ) (row : TextRow) → text_row table word ≡ Some row → IsTextRow table row
  pub radars : (product : ℕ) (row : RadarRow) → radar_row table product ≡ Some row
      → IsRadarRow table row
