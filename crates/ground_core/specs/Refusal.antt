-- The first reason for which an update is refused.
use Rattle.std.specs.Prelude.{ℕ, ◌+◌, ◌^◌, Bool, true, not, ◌&&◌, nat_lt, nat_le, if◌then◌else◌}
use Rattle.std.specs.Prelude.{List, [], ◌∷◌, length, map, filter, Option, Some, None, is_none}
use Rattle.std.specs.Prelude.{Result, Ok, Err}
use Rattle.std.specs.List.{list_all}
use Rattle.std.specs.Str.{chars}
use Rattle.fisb_time.specs.TimeForm.{shows}
use Rattle.fisb_time.specs.declared.form.TimeForm.{TimeForm}
use Rattle.dlac_text.specs.Refusal.{TextRefusal, text_refusal}
use Rattle.life_table.specs.LifeTable.{LifeTable, RadarRow, radar_row, text_row, greatest_of}
use Rattle.radar_core.specs.Keys.{first_high}
use Rattle.radar_core.specs.declared.key.BlockKey.{BlockKey}
use Rattle.text_reports.specs.TextKey.{TextKey, KeyFault, unlisted, text_key}
use Rattle.picture_core.specs.Key.{Key, radar_block, text_report}
use Rattle.picture_core.specs.Contents.{report_entries}
use Rattle.ground_core.specs.Item.{Weather, Item, is_segmented}
use Rattle.ground_core.specs.Update.{Update, text, block, blanks, weather_by_row, block_key}
use Rattle.ground_core.specs.History.{number_for}
use Rattle.ground_core.specs.Airing.{has_key}

pub data GiveRefusal : Type 0 where
  bad_text : (cause : TextRefusal) → GiveRefusal
  no_key : (fault : KeyFault) → GiveRefusal
  bad_block : GiveRefusal
  coarse : GiveRefusal
  ahead : GiveRefusal
  expired : GiveRefusal
  not_newer : (kept : ℕ) → GiveRefusal
  no_file : GiveRefusal

-- the greatest version that was given for a key
abbrev pub given_version : Key → List Item → Option ℕ
given_version key before =
    greatest_of (map (λ item. item.weather.version) (filter (has_key key) before))

abbrev pub given_versions : List Item → List Key → List (Option ℕ)
given_versions before keys = map (λ key. given_version key before) keys

-- weather in segments needs a file number
abbrev pub file_refusal : LifeTable → List Item → ℕ → Weather → Option GiveRefusal
file_refusal table before moment w =
    if is_segmented w && is_none (number_for table moment before w) then Some no_file else None

-- the first of the given versions of an update's keys that the version is not above
abbrev pub age_refusal : ℕ → List (Option ℕ) → Option GiveRefusal → Option GiveRefusal
age_refusal version [] later = later
age_refusal version (None ∷ more) later = age_refusal version more later
age_refusal version (Some kept ∷ more) later =
    if nat_le version kept then Some (not_newer kept) else age_refusal version more later

-- a version, the form in which it is sent, and the life that its row gives it
pub record Timing : Type 0 where
  pub form : TimeForm
  pub version : ℕ
  pub life : ℕ

abbrev pub timing : TimeForm → ℕ → ℕ → Timing
timing form version life = record { form = form; version = version; life = life }

-- the version: shown by the form, at most a minute ahead, its life not over, and above all versions
-- of each key
abbrev pub version_refusal : ℕ → Timing → List (Option ℕ) → Option GiveRefusal
    → Option GiveRefusal
version_refusal moment t kept later = if not (shows t.form t.version) then Some coarse
    else (if nat_lt (moment + 60) t.version then Some ahead
    else (if nat_le (t.version + t.life) moment then Some expired
    else age_refusal t.version kept later))

abbrev pub weather_refusal : LifeTable → List Item → ℕ → TextKey → List Weather → Option GiveRefusal
weather_refusal table before moment key [] = Some (no_key unlisted)
weather_refusal table before moment key (w ∷ more) =
    version_refusal moment (timing w.form w.version w.life)
    (given_versions before (text_report key ∷ []))
    (file_refusal table before moment w)

abbrev pub key_refusal : LifeTable → List Item → ℕ → ℕ → List ℕ → Result TextKey KeyFault
    → Option GiveRefusal
key_refusal table before moment version chars (Err fault) = Some (no_key fault)
key_refusal table before moment version chars (Ok key) = weather_refusal table before moment key
    (weather_by_row version chars (report_entries table version chars) (text_row table key.kind))

abbrev pub text_fault_refusal : Option TextRefusal → Option GiveRefusal → Option GiveRefusal
text_fault_refusal (Some cause) later = Some (bad_text cause)
text_fault_refusal None later = later

-- a block that a record can name: of scale 0 to 2, with a number that fits its field
abbrev pub is_block : BlockKey → Bool
is_block key = nat_le key.scale 2 && nat_lt key.number (2 ^ 20)

-- numbers that rise strictly, from above one of them
abbrev pub rise_above : ℕ → List ℕ → Bool
rise_above low [] = true
rise_above low (number ∷ more) = nat_lt low number && rise_above number more

abbrev pub rise : List ℕ → Bool
rise [] = true
rise (number ∷ more) = rise_above number more

-- so many empty blocks one update may have at most
abbrev pub most_blanks : ℕ
most_blanks = 1024

-- empty blocks that records can name: of scale 0 to 2, one at least, with numbers that rise
abbrev pub are_blanks : ℕ → List ℕ → Bool
are_blanks scale numbers = nat_le scale 2 && nat_lt 0 (length numbers)
    && nat_le (length numbers) most_blanks && rise numbers
    && list_all (λ number. nat_lt number first_high) numbers

-- radar: a row of its product, blocks that records can name, and then the version. It is sent whole
abbrev pub radar_refusal : ℕ → ℕ → Bool → List (Option ℕ) → Option RadarRow → Option GiveRefusal
radar_refusal moment version named kept None = Some (no_key unlisted)
radar_refusal moment version named kept (Some row) = if not named then Some bad_block
    else version_refusal moment (timing row.form version row.life) kept None

-- the first reason against an update at this moment, after the items that were given before
unfoldable pub give_refusal : LifeTable → List Item → ℕ → Update → Option GiveRefusal
give_refusal table before moment (text version text_chars) =
    text_fault_refusal (text_refusal (chars text_chars))
    (key_refusal table before moment version text_chars (text_key table text_chars))
give_refusal table before moment (block version key intensities) =
    radar_refusal moment version (is_block key) (given_versions before (radar_block key ∷ []))
    (radar_row table key.product)
give_refusal table before moment (blanks version product scale south numbers) =
    radar_refusal moment version (are_blanks scale numbers)
    (given_versions before (map (λ n. radar_block (block_key product scale south n)) numbers))
    (radar_row table product)
