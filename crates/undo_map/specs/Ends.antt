-- Keys in a queue by the second at which they are to be looked at, and the entries that have a
-- place in it.
use Rattle.std.specs.Prelude.{◌≡◌, ℕ, ◌+◌, ◌<◌, ◌≤◌, Bool, true, false, ◌&&◌, nat_le, nat_lt}
use Rattle.std.specs.Prelude.{List, [], ◌++◌, All, length, filter, Option, Some, None}
use Rattle.std.specs.Prelude.{if◌then◌else◌}
use Rattle.std.specs.BTreeMap.{insert_entry, is_at}
use Rattle.std.specs.List.{AllByRecursion, list_any, sum_by}
use Rattle.std.specs.List.Sorted.{IsPermutation, IsStrictlySortedBy}
use Rattle.std.specs.Map.{keys_of, lookup, remove_entry}
use Rattle.std.specs.Ordering.{is_eq}
use Rattle.std.specs.declared.cmp.Ordering.{Ordering}
use Rattle.undo_map.specs.Marked.{Marked}

-- the places of a queue, in no order, those that were added since the mark, and how many more of
-- both it has room for
pub record Queue (K : Type 0) : Type 0 where
  pub places : List (ℕ × K)
  pub added : List (ℕ × K)
  pub spare : ℕ
  pub added_spare : ℕ

-- all places, and how many they are
abbrev pub all_places : {K : Type 0} → Queue K → List (ℕ × K)
all_places queue = queue.places ++ queue.added

abbrev pub place_count : {K : Type 0} → Queue K → ℕ
place_count queue = length queue.places + length queue.added

-- one more can be added, and settled later
abbrev pub HasRoom : {K : Type 0} → Queue K → Type 0
HasRoom queue = (0 < queue.spare) × (0 < queue.added_spare)

-- whether a version is newer than that of what is kept
abbrev pub is_newer : {V : Type 0} → (V → ℕ) → Option V → ℕ → Bool
is_newer version_of None version = true
is_newer version_of (Some kept) version = nat_lt (version_of kept) version

-- a test that holds of one of the places still holds of one
abbrev pub KeepsPlaces : {K : Type 0} → List (ℕ × K) → List (ℕ × K) → Type 0
KeepsPlaces {K} old new = (test : ℕ × K → Bool) → list_any test old ≡ true
    → list_any test new ≡ true

-- a test that holds of the added place holds of one
abbrev pub HasAdded : {K : Type 0} → ℕ × K → List (ℕ × K) → Type 0
HasAdded {K} place new = (test : ℕ × K → Bool) → test place ≡ true → list_any test new ≡ true

-- a test that does not hold of the place that was taken out still holds of one
abbrev pub HasLeft : {K : Type 0} → ℕ × K → List (ℕ × K) → List (ℕ × K) → Type 0
HasLeft {K} place old new = (test : ℕ × K → Bool) → test place ≡ false → list_any test old ≡ true
    → list_any test new ≡ true

-- the key has a place at a second that is no later than this one
abbrev pub has_place_by : {K : Type 0} → (K → K → Ordering) → List (ℕ × K) → K → ℕ → Bool
has_place_by cmp places key second =
    list_any (λ place. is_eq (cmp place.1 key) && nat_le place.0 second) places

-- a key that has a place by a second still has one
abbrev pub KeepsPlacesBy : {K : Type 0} → (K → K → Ordering) → List (ℕ × K) → List (ℕ × K) → Type 0
KeepsPlacesBy {K} cmp old new = (key : K) (second : ℕ) → has_place_by cmp old key second ≡ true
    → has_place_by cmp new key second ≡ true

-- a key that has a place has one by a second
abbrev pub HasPlaceSooner : {K : Type 0} → (K → K → Ordering) → K → ℕ → List (ℕ × K)
    → List (ℕ × K) → Type 0
HasPlaceSooner {K} cmp key second old new = (same : K) (by : ℕ) → is_eq (cmp key same) ≡ true
    → has_place_by cmp old same by ≡ true → has_place_by cmp new same second ≡ true

-- how many places have come by a second
abbrev pub due_places : {K : Type 0} → ℕ → List (ℕ × K) → ℕ
due_places now places = sum_by (λ place. if nat_le place.0 now then 1 else 0) places

module _ {K V : Type 0} where
  -- the entry has a place: its key at a second that is no later than its end
  abbrev pub has_place : (K → K → Ordering) → (V → ℕ) → List (ℕ × K) → K × V → Bool
  has_place cmp end places entry = has_place_by cmp places entry.0 (end entry.1)

  -- each entry has a place by its end, which is told from key and value
  abbrev pub HavePlacesBy : (K → K → Ordering) → (K × V → ℕ) → List (ℕ × K) → List (K × V) → Type 0
  HavePlacesBy cmp end places entries =
      AllByRecursion (λ entry. has_place_by cmp places entry.0 (end entry) ≡ true) entries

  -- each entry has a place by its end, and there are no more places than entries
  pub record IsQueueAt (cmp : K → K → Ordering) (end : K × V → ℕ) (places : List (ℕ × K))
      (entries : List (K × V)) : Type 0 where
    pub placed : HavePlacesBy cmp end places entries
    pub few : length places ≤ length entries

  -- so it is now, and at the mark without the places that were added since
  pub record IsQueueOf (cmp : K → K → Ordering) (end : K × V → ℕ) (queue : Queue K)
      (marked : Marked K V) : Type 0 where
    pub now : IsQueueAt cmp end (all_places queue) marked.entries
    pub before : (mark : List (K × V)) → marked.mark ≡ Some mark
        → IsQueueAt cmp end queue.places mark

  -- the same where the value alone has an end
  abbrev pub HavePlaces : (K → K → Ordering) → (V → ℕ) → List (ℕ × K) → List (K × V) → Type 0
  HavePlaces cmp end places entries = HavePlacesBy cmp (λ entry. end entry.1) places entries

  abbrev pub IsQueueOfEnds : (K → K → Ordering) → (V → ℕ) → Queue K → Marked K V → Type 0
  IsQueueOfEnds cmp end queue marked = IsQueueOf cmp (λ entry. end entry.1) queue marked

  -- entries with a value under its key, where none stands there that is at least as new
  abbrev pub with_newer : (K → K → Ordering) → (V → ℕ) → List (K × V) → K → V → List (K × V)
  with_newer cmp version_of entries key value =
      if is_newer version_of (lookup (is_at (cmp key)) entries) (version_of value)
      then insert_entry cmp entries key value else entries

-- where no place has come by a second, no entry that has a place by its end is over
abbrev pub NoneIsOver : (K V : Type 0) → Type 0
NoneIsOver K V = (cmp : K → K → Ordering) (end : K × V → ℕ) (now : ℕ) (places : List (ℕ × K))
    (entries : List (K × V))
    → All (λ place. now < place.0) places → HavePlacesBy cmp end places entries
    → filter (λ entry. nat_lt now (end entry)) entries ≡ entries

-- what is a queue of entries stays one where a mark is set, is undone or is let go, and where a
-- place is added for an entry that is written; and it is one of the entries alone, once all is
-- settled
pub record QueuesStay (K V : Type 0) : Type 0 where
  pub marked : (cmp : K → K → Ordering) (end : K × V → ℕ) (before after : Queue K)
      (old new : Marked K V)
      → IsPermutation (all_places before) after.places → after.added ≡ []
      → new ≡ record old { mark = Some old.entries } → IsQueueOf cmp end before old
      → IsQueueOf cmp end after new
  pub undone : (cmp : K → K → Ordering) (end : K × V → ℕ) (before after : Queue K)
      (old new : Marked K V)
      → after.places ≡ before.places → after.added ≡ [] → old.mark ≡ Some new.entries
      → new.mark ≡ None → IsQueueOf cmp end before old → IsQueueOf cmp end after new
  pub settled : (cmp : K → K → Ordering) (end : K × V → ℕ) (queue : Queue K) (old new : Marked K V)
      → new ≡ record old { mark = None } → IsQueueOf cmp end queue old → IsQueueOf cmp end queue new
  pub written : (cmp : K → K → Ordering) (end : K × V → ℕ) (before after : Queue K)
      (old new : Marked K V)
      → after.places ≡ before.places
      → (HavePlacesBy cmp end (all_places before) old.entries
      → HavePlacesBy cmp end (all_places after) new.entries)
      → place_count after + length old.entries ≤ place_count before + length new.entries
      → new.mark ≡ old.mark → IsQueueOf cmp end before old → IsQueueOf cmp end after new
  pub alone : (cmp : K → K → Ordering) (end : K × V → ℕ) (before after : Queue K)
      (marked : Marked K V)
      → IsPermutation (all_places before) after.places → IsQueueOf cmp end before marked
      → IsQueueAt cmp end after.places marked.entries
  pub unmarked : (cmp : K → K → Ordering) (end : K × V → ℕ) (queue : Queue K) (marked : Marked K V)
      → queue.added ≡ [] → marked.mark ≡ None → IsQueueAt cmp end queue.places marked.entries
      → IsQueueOf cmp end queue marked

-- where a place of a key was taken out, the entries that are left without the key have places yet
abbrev pub OthersHavePlaces : (K V : Type 0) → (K → K → Ordering) → Type 0
OthersHavePlaces K V cmp = (end : K × V → ℕ) (second : ℕ) (key : K) (old new : List (ℕ × K))
    (entries : List (K × V))
    → IsStrictlySortedBy cmp (keys_of entries) → HasLeft (second, key) old new
    → HavePlacesBy cmp end old entries
    → HavePlacesBy cmp end new (remove_entry (is_at (cmp key)) entries)
