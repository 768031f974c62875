-- By which fault a refusal is told, and the refusal by what is kept.
use Rattle.std.specs.Prelude.{◌≡◌, ⊤, ℕ, not, ◌&&◌, nat_lt, if◌then◌else◌, List, [], ◌∷◌, Option}
use Rattle.std.specs.Prelude.{map, Some, None, option_map, Result, Ok, Err}
use Rattle.std.specs.Str.{chars}
use Rattle.dlac_text.specs.declared.text_fault.TextFault.{TextFault}
use Rattle.dlac_text.specs.declared.text_fault.TextFault.TheVariants.{BadCharacter, TooLong}
use Rattle.dlac_text.specs.declared.text_fault.TextFault.TheVariants.{NoMemory as NoMemoryForText}
use Rattle.dlac_text.specs.Refusal.{bad_character, too_long, text_refusal}
use Rattle.life_table.specs.LifeTable.{LifeTable, radar_row, text_row}
use Rattle.text_reports.specs.TextKey.{TextKey, KeyFault, few_words, unlisted, text_key}
use Rattle.picture_core.specs.Key.{Key, radar_block, text_report}
use Rattle.picture_core.specs.Contents.{report_entries}
use Rattle.apdu_core.specs.Apdu.{file_numbers}
use Rattle.ground_core.specs.Item.{Weather, is_segmented}
use Rattle.ground_core.specs.Update.{Update, text, block, blanks, weather_by_row, block_key}
use Rattle.ground_core.specs.Refusal.{GiveRefusal, bad_text, no_key, bad_block, coarse, ahead}
use Rattle.ground_core.specs.Refusal.{expired, not_newer, no_file, timing, version_refusal}
use Rattle.ground_core.specs.Refusal.{text_fault_refusal, radar_refusal, is_block, are_blanks}
use Rattle.ground_core.specs.Piece.{Latest}
use Rattle.ground_core.specs.declared.fault.FillFault.{FillFault}
use Rattle.ground_core.specs.declared.fault.FillFault.TheVariants.{Clock as FillClock}
use Rattle.ground_core.specs.declared.fault.GiveFault.{GiveFault}
use Rattle.ground_core.specs.declared.fault.GiveFault.TheVariants.{Clock, BadText, FewWords}
use Rattle.ground_core.specs.declared.fault.GiveFault.TheVariants.{Unlisted, BadBlock, Coarse}
use Rattle.ground_core.specs.declared.fault.GiveFault.TheVariants.{Ahead}
use Rattle.ground_core.specs.declared.fault.GiveFault.TheVariants.{Expired, NotNewer, NoFile}
use Rattle.ground_core.specs.declared.fault.GiveFault.TheVariants.{NoMemory}

-- out of memory is never told as a fault of the text
abbrev pub IsToldOfText : Option GiveRefusal → TextFault → Type 0
IsToldOfText refusal (BadCharacter place) = refusal ≡ Some (bad_text (bad_character place))
IsToldOfText refusal TooLong = refusal ≡ Some (bad_text too_long)
IsToldOfText refusal NoMemoryForText = ⊥

-- the fault is the one of this refusal; out of memory may come at any
abbrev pub IsTold : Option GiveRefusal → GiveFault → Type 0
IsTold refusal (Clock kept) = ⊥
IsTold refusal (BadText fault) = IsToldOfText refusal fault
IsTold refusal FewWords = refusal ≡ Some (no_key few_words)
IsTold refusal Unlisted = refusal ≡ Some (no_key unlisted)
IsTold refusal BadBlock = refusal ≡ Some bad_block
IsTold refusal Coarse = refusal ≡ Some coarse
IsTold refusal Ahead = refusal ≡ Some ahead
IsTold refusal Expired = refusal ≡ Some expired
IsTold refusal (NotNewer kept) = refusal ≡ Some (not_newer kept)
IsTold refusal NoFile = refusal ≡ Some no_file
IsTold refusal NoMemory = ⊤

-- at a moment that is too early that alone is told
abbrev pub IsToldAt : Option ℕ → Option GiveRefusal → GiveFault → Type 0
IsToldAt None refusal fault = IsTold refusal fault
IsToldAt (Some last) refusal fault = fault ≡ Clock last

-- the last moment that a fill was refused for
abbrev pub kept_told : FillFault → ℕ
kept_told (FillClock kept) = kept

-- the refusal by the last version of each key and by how many items in segments a version and a
-- product had
abbrev pub latest_version : Option Latest → Option ℕ
latest_version latest = option_map (λ l. l.version) latest

abbrev pub latest_versions : (Key → Option Latest) → List Key → List (Option ℕ)
latest_versions latest keys = map (λ key. latest_version (latest key)) keys

abbrev pub count_refusal : Weather → ℕ → Option GiveRefusal
count_refusal w count = if is_segmented w && not (nat_lt count file_numbers) then Some no_file
    else None

abbrev pub weather_refusal_by : (Key → Option Latest) → (ℕ → ℕ → ℕ) → ℕ → TextKey → List Weather
    → Option GiveRefusal
weather_refusal_by latest count moment key [] = Some (no_key unlisted)
weather_refusal_by latest count moment key (w ∷ more) =
    version_refusal moment (timing w.form w.version w.life)
    (latest_versions latest (text_report key ∷ []))
    (count_refusal w (count w.version w.product))

abbrev pub key_refusal_by : LifeTable → (Key → Option Latest) → (ℕ → ℕ → ℕ) → ℕ → ℕ → List ℕ
    → Result TextKey KeyFault → Option GiveRefusal
key_refusal_by table latest count moment version chars (Err fault) = Some (no_key fault)
key_refusal_by table latest count moment version chars (Ok key) =
    weather_refusal_by latest count moment key
    (weather_by_row version chars (report_entries table version chars) (text_row table key.kind))

abbrev pub refusal_by : LifeTable → (Key → Option Latest) → (ℕ → ℕ → ℕ) → ℕ → Update
    → Option GiveRefusal
refusal_by table latest count moment (text version text_chars) =
    text_fault_refusal (text_refusal (chars text_chars))
    (key_refusal_by table latest count moment version text_chars (text_key table text_chars))
refusal_by table latest count moment (block version key intensities) =
    radar_refusal moment version (is_block key) (latest_versions latest (radar_block key ∷ []))
    (radar_row table key.product)
refusal_by table latest count moment (blanks version product scale south numbers) =
    radar_refusal moment version (are_blanks scale numbers)
    (latest_versions latest (map (λ n. radar_block (block_key product scale south n)) numbers))
    (radar_row table product)
