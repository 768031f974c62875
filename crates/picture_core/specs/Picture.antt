-- The picture of some entries at a moment: for each key the newest version whose life has not
-- passed.
use Rattle.std.specs.Prelude.{ℕ, ◌&&◌, nat_lt, List, [], ◌∷◌, filter, filter_map, Option, Some}
use Rattle.std.specs.Prelude.{None}
use Rattle.std.specs.List.{best_of}
use Rattle.std.specs.Ordering.{match_ordering}
use Rattle.picture_core.specs.Key.{Key, same_key, key_cmp}
use Rattle.picture_core.specs.Entry.{Entry}

-- the entry with the greatest version, the earliest among equals
abbrev pub newest_of : List Entry → Option Entry
newest_of [] = None
newest_of (entry ∷ more) = Some (best_of (λ a b. nat_lt b.version a.version) entry more)

-- the newest of the entries of the key whose end is above the moment
abbrev pub shown_at : List Entry → ℕ → Key → Option Entry
shown_at entries moment key =
    newest_of (filter (λ entry. same_key key entry.key && nat_lt moment entry.until) entries)

-- the key at its place in a list of keys that stand in order, once
abbrev pub with_key : Key → List Key → List Key
with_key key [] = key ∷ []
with_key key (k ∷ more) =
    match_ordering (key_cmp key k) (key ∷ k ∷ more) (k ∷ more) (k ∷ with_key key more)

abbrev pub keys_of : List Entry → List Key
keys_of [] = []
keys_of (entry ∷ more) = with_key entry.key (keys_of more)

abbrev pub picture : List Entry → ℕ → List Entry
picture entries moment = filter_map (shown_at entries moment) (keys_of entries)
