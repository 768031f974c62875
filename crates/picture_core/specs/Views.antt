-- What the types of the code stand for.
use Rattle.std.specs.Prelude.{◌≡◌, ℕ, List, Some, map, All}
use Rattle.std.specs.Option.{option_map}
use Rattle.list_members.specs.Membership.{IsIn}
use Rattle.text_reports.specs.Views.{key_view as text_key_view}
use Rattle.picture_core.specs.Key.{Key, radar_block, text_report}
use Rattle.picture_core.specs.Entry.{Entry, Value, cells, report, IsOfKind}
use Rattle.picture_core.specs.Marked.{MarkedEntries}
use Rattle.undo_map.specs.Marked.{Marked}
use Rattle.picture_core.specs.declared.entry.Entry.{Entry as ShownEntry}
use Rattle.picture_core.specs.declared.kept.Kept.{Kept}
use Rattle.picture_core.specs.declared.key.Key.{Key as NamedKey}
use Rattle.picture_core.specs.declared.key.Key.TheVariants.{Radar, Text}
use Rattle.picture_core.specs.declared.shown.Shown.{Shown}
use Rattle.picture_core.specs.declared.shown.Shown.TheVariants.{Cells, Text as Words}

abbrev pub key_view : NamedKey → Key
key_view (Radar key) = radar_block key
key_view (Text key) = text_report (text_key_view key)

abbrev pub value_view : Shown → Value
value_view (Cells intensities) = cells intensities
value_view (Words text) = report text

-- an entry as it is shown: without the end of its life
abbrev pub ShownValue : Type 0
ShownValue = Key × ℕ × Value

abbrev pub shown_value : Entry → ShownValue
shown_value entry = (entry.key, entry.version, entry.value)

abbrev pub entry_view : ShownEntry → ShownValue
entry_view entry = (key_view entry.key, entry.version, value_view entry.value)

-- each value is cells exactly where its key names a block
abbrev pub AreShownOfKind : List ShownEntry → Type 0
AreShownOfKind entries =
    All (λ entry. IsOfKind (key_view entry.key) (value_view entry.value)) entries

-- what is kept under a key
abbrev pub kept_entry : NamedKey → Kept → Entry
kept_entry key kept =
    record {
      key = key_view key;
      version = kept.version;
      until = kept.until;
      value = value_view kept.value;
    }

abbrev pub pair_entry : NamedKey × Kept → Entry
pair_entry pair = kept_entry pair.0 pair.1

-- what a map from keys to what is kept holds
abbrev pub marked_entries : Marked NamedKey Kept → MarkedEntries
marked_entries marked = record {
  entries = map pair_entry marked.entries;
  mark = option_map (λ pairs. map pair_entry pairs) marked.mark;
}

-- each entry is so, and each at the mark too
abbrev pub AreMarked : (Entry → Type 0) → MarkedEntries → Type 0
AreMarked IsSo marked = ((entry : Entry) → IsIn entry marked.entries → IsSo entry)
    × ((mark : List Entry) → marked.mark ≡ Some mark → (entry : Entry) → IsIn entry mark
    → IsSo entry)

-- the values are of the kinds of their keys
abbrev pub AreMarkedOfKind : MarkedEntries → Type 0
AreMarkedOfKind = AreMarked (λ entry. IsOfKind entry.key entry.value)
