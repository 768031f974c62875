-- What is shown at a key, told without looking for it, and what is added to it.
use Rattle.std.specs.Prelude.{◌≡◌, ℕ, ◌<◌, ◌≤◌, ◌⊎◌, List, Option, Some, None}
use Rattle.list_members.specs.Membership.{IsIn}
use Rattle.picture_core.specs.Key.{Key}
use Rattle.picture_core.specs.Entry.{Entry}
use Rattle.picture_core.specs.Kept.{newer_of}

-- an entry of the key that lives at the moment, with a version that none of them is above
pub record IsShown (entries : List Entry) (moment : ℕ) (key : Key) (entry : Entry) : Type 0 where
  pub there : IsIn entry entries
  pub own : entry.key ≡ key
  pub lives : moment < entry.until
  pub most : (other : Entry) → IsIn other entries → other.key ≡ key → moment < other.until
      → other.version ≤ entry.version

-- what is shown where later entries show something too: the newer of the two, the earlier one among
-- equals
abbrev pub shown_with : Option Entry → Option Entry → Option Entry
shown_with None later = later
shown_with (Some entry) None = Some entry
shown_with (Some entry) (Some later) = Some (newer_of entry later)

-- an entry that is not above the shown one changes nothing
abbrev pub IsOutdone : Option Entry → Entry → Type 0
IsOutdone None entry = ⊥
IsOutdone (Some shown) entry = entry.version ≤ shown.version

-- each entry of the key that lives at the moment is among the other ones, or is not above what is
-- shown
abbrev pub ReachNoFurther : ℕ → Key → Option Entry → List Entry → List Entry → Type 0
ReachNoFurther moment key shown one other =
    (entry : Entry) → IsIn entry one → entry.key ≡ key → moment < entry.until → IsIn entry other
    ⊎ IsOutdone shown entry

-- Two lists that are added where this is shown at a key: they differ by entries alone that are not
-- above it, and in the first of them one version of the key is one entry.
pub record AddsSame (moment : ℕ) (key : Key) (shown : Option Entry)
    (one other : List Entry) : Type 0 where
  pub there : ReachNoFurther moment key shown one other
  pub back : ReachNoFurther moment key shown other one
  pub untied : (e f : Entry) → IsIn e one → IsIn f one → e.key ≡ key → f.key ≡ key
      → e.version ≡ f.version → e ≡ f
