-- What is done to a picture, the newest first: entries are put, and those that have ended at a
-- moment are purged.
use Rattle.std.specs.Prelude.{ℕ, max, List, [], ◌∷◌, ◌++◌}
use Rattle.picture_core.specs.Entry.{Entry}
use Rattle.picture_core.specs.Kept.{IsMonotone, live_entries, put}

pub data Change : Type 0 where
  puts : (entry : Entry) → Change
  purges : (moment : ℕ) → Change

-- the entries that were put, the oldest first
abbrev pub entries_put : List Change → List Entry
entries_put [] = []
entries_put (puts entry ∷ past) = entries_put past ++ entry ∷ []
entries_put (purges moment ∷ past) = entries_put past

-- what is kept after it all
abbrev pub kept_after : List Change → List Entry
kept_after [] = []
kept_after (puts entry ∷ past) = put entry (kept_after past)
kept_after (purges moment ∷ past) = live_entries moment (kept_after past)

-- the greatest moment of a purge
abbrev pub last_purge : List Change → ℕ
last_purge [] = 0
last_purge (puts entry ∷ past) = last_purge past
last_purge (purges moment ∷ past) = max moment (last_purge past)

-- of a key a newer entry never ends before an older one
abbrev pub PutMonotone : List Change → Type 0
PutMonotone [] = Unit {0}
PutMonotone (puts entry ∷ past) = IsMonotone (entries_put past) entry × PutMonotone past
PutMonotone (purges moment ∷ past) = PutMonotone past
