-- What a picture is made of: under a key, a version, the end of its life, and a value.
use Rattle.std.specs.Prelude.{ℕ, List}
use Rattle.list_members.specs.Membership.{IsIn}
use Rattle.picture_core.specs.Key.{Key, radar_block, text_report}

-- the 128 intensities of a block, or the text of a report
pub data Value : Type 0 where
  cells : (intensities : List ℕ) → Value
  report : (text : List ℕ) → Value

-- an entry is shown before the second `until`
pub record Entry : Type 0 where
  pub key : Key
  pub version : ℕ
  pub until : ℕ
  pub value : Value

-- a value is cells exactly where its key names a block
abbrev pub IsOfKind : Key → Value → Type 0
IsOfKind (radar_block key) (cells intensities) = Unit {0}
IsOfKind (radar_block key) (report text) = ⊥
IsOfKind (text_report key) (cells intensities) = ⊥
IsOfKind (text_report key) (report text) = Unit {0}

abbrev pub AreOfKind : List Entry → Type 0
AreOfKind entries = (entry : Entry) → IsIn entry entries → IsOfKind entry.key entry.value
