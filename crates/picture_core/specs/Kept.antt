-- What may be kept in place of all entries that were brought: for each key the one entry that can
-- still be shown.
use Rattle.std.specs.Prelude.{◌≡◌, ℕ, ◌+◌, ◌<◌, ◌≤◌, nat_lt, if◌then◌else◌, List, [], ◌∷◌, ◌++◌}
use Rattle.std.specs.Prelude.{map, filter, find, Option}
use Rattle.std.specs.Ordering.{match_ordering}
use Rattle.std.specs.declared.cmp.Ordering.TheVariants.{Less}
use Rattle.list_members.specs.Membership.{IsIn}
use Rattle.picture_core.specs.Key.{Key, key_cmp, same_key}
use Rattle.picture_core.specs.Entry.{Entry}
use Rattle.picture_core.specs.Picture.{picture}

-- keys that rise: each stands below all after it
abbrev pub AreAbove : Key → List Key → Type 0
AreAbove key [] = Unit {0}
AreAbove key (k ∷ more) = (key_cmp key k ≡ Less) × AreAbove key more

abbrev pub IsRising : List Key → Type 0
IsRising [] = Unit {0}
IsRising (key ∷ more) = AreAbove key more × IsRising more

abbrev pub keys : List Entry → List Key
keys entries = map (λ e. e.key) entries

-- of a kept entry and a new one of its key the one of greater version, the kept one among equals
abbrev pub newer_of : Entry → Entry → Entry
newer_of kept entry = if nat_lt kept.version entry.version then entry else kept

-- the first entry of a key
abbrev pub kept_at : Key → List Entry → Option Entry
kept_at key entries = find (λ entry. same_key key entry.key) entries

-- a new entry at the place of its key; `put_keeps_newer` says what it is at each key
abbrev pub put : Entry → List Entry → List Entry
put entry [] = entry ∷ []
put entry (kept ∷ more) =
    match_ordering (key_cmp entry.key kept.key) (entry ∷ kept ∷ more) (newer_of kept entry ∷ more)
    (kept ∷ put entry more)

abbrev pub put_all : List Entry → List Entry → List Entry
put_all [] kept = kept
put_all (entry ∷ more) kept = put_all more (put entry kept)

-- the entries whose life has not passed
abbrev pub live_entries : ℕ → List Entry → List Entry
live_entries moment kept = filter (λ entry. nat_lt moment entry.until) kept

-- The kept entries stand for what was brought, from a moment on: they rise by key, were brought,
-- and those alive are the picture of all, at that moment and at every later one.
pub record IsStore (now : ℕ) (contents kept : List Entry) : Type 0 where
  pub rising : IsRising (keys kept)
  pub brought : (entry : Entry) → IsIn entry kept → IsIn entry contents
  pub pictures : (moment : ℕ) → now ≤ moment → picture contents moment ≡ live_entries moment kept

-- of a key a newer entry does not end before an older one
pub record IsMonotone (contents : List Entry) (entry : Entry) : Type 0 where
  pub newer_lasts : (other : Entry) → IsIn other contents → other.key ≡ entry.key
      → other.version < entry.version
      → other.until ≤ entry.until
  pub older_ends : (other : Entry) → IsIn other contents → other.key ≡ entry.key
      → entry.version ≤ other.version
      → entry.until ≤ other.until

-- the same of each further entry against all before it
abbrev pub AreMonotone : List Entry → List Entry → Type 0
AreMonotone contents [] = Unit {0}
AreMonotone contents (entry ∷ more) =
    IsMonotone contents entry × AreMonotone (contents ++ entry ∷ []) more

-- the life of each entry is that of its key
abbrev pub HasLife : (Key → ℕ) → Entry → Type 0
HasLife life entry = entry.until ≡ entry.version + life entry.key

abbrev pub HaveLife : (Key → ℕ) → List Entry → Type 0
HaveLife life entries = (entry : Entry) → IsIn entry entries → HasLife life entry
