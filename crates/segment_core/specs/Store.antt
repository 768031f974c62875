-- What a joiner holds, and the arrivals for which it stands.
use Rattle.std.specs.Prelude.{◌≡◌, ℕ, ◌+◌, ◌≤◌, Bool, true, ◌==◌, nat_lt, if◌then◌else◌, List, []}
use Rattle.std.specs.Prelude.{◌∷◌, ◌++◌}
use Rattle.std.specs.Prelude.{filter, Option, Some, None, is_some}
use Rattle.std.specs.List.{list_all}
use Rattle.apdu_core.specs.declared.apdu.Seg.{Seg}
use Rattle.life_table.specs.Products.{regional_radar, conus_radar}
use Rattle.segment_core.specs.File.{most_segments}
use Rattle.segment_core.specs.Arrival.{Arrival, has_piece, other_numbers, joined_payload}
use Rattle.segment_core.specs.Kept.{KeptPieces, IsNumbered, kept_under, kept_of}
use Rattle.segment_core.specs.declared.piece_name.PieceName.{PieceName}
use Rattle.segment_core.specs.declared.arrived.Longest.{Longest}
use Rattle.segment_core.specs.declared.arrived.Taken.{Taken}
use Rattle.segment_core.specs.declared.arrived.Taken.TheVariants.{Whole, Waits, Again, Stale}

-- the longest lives that it was given, the last moment, and the pieces
pub record Store : Type 0 where
  pub longest : Longest
  pub clock : Option ℕ
  pub pieces : KeptPieces

-- what it holds now, and what it held at the mark, if one stands
pub record MarkedStore : Type 0 where
  pub store : Store
  pub mark : Option Store

abbrev pub longest_of : Longest → ℕ → ℕ
longest_of longest product = if product == regional_radar then longest.regional
    else (if product == conus_radar then longest.conus else longest.text)

-- the longest life of the product has not passed since the version
abbrev pub is_in_life : Longest → ℕ → ℕ → ℕ → Bool
is_in_life longest moment product version = nat_lt moment (version + longest_of longest product)

abbrev pub is_in_life_at : Longest → Option ℕ → PieceName → Bool
is_in_life_at longest None name = true
is_in_life_at longest (Some moment) name = is_in_life longest moment name.product name.version

-- A store stands for the arrivals that were taken: of each file that is not stale it holds the
-- first piece of each number, or the number alone once the file was whole; and it holds no numbers
-- but those of files.
pub record StandsFor (store : Store) (taken : List Arrival) : Type 0 where
  pub keeps : (name : PieceName) → IsNumbered name
      → is_in_life_at store.longest store.clock name ≡ true
      → kept_under store.pieces name ≡ kept_of taken name
  pub numbered : (name : PieceName) → is_some (kept_under store.pieces name) ≡ true
      → IsNumbered name

-- the last moment, where this one is below it
abbrev pub last_above : Option ℕ → ℕ → Option ℕ
last_above None moment = None
last_above (Some last) moment = if nat_lt moment last then Some last else None

abbrev pub IsNotBefore : Option ℕ → ℕ → Type 0
IsNotBefore None moment = Unit {0}
IsNotBefore (Some kept) moment = kept ≤ moment

-- a segment's count is not too large, and its number is from 1 to the count
abbrev pub FitsFile : Option Seg → Type 0
FitsFile None = Unit {0}
FitsFile (Some s) = (1 ≤ s.number) × (s.number ≤ s.count) × (s.count ≤ most_segments)

-- what an arrival that is not stale brings
abbrev pub live_answer : List Arrival → Arrival → Option Seg → Taken
live_answer taken a None = Whole a.payload
live_answer taken a (Some s) = if has_piece taken a s s.number then Again
    else (if list_all (has_piece taken a s) (other_numbers s)
    then Whole (joined_payload (taken ++ a ∷ []) a s) else Waits)

abbrev pub answer_of : Longest → ℕ → List Arrival → Arrival → Taken
answer_of longest moment taken a =
    if is_in_life longest moment a.product a.version then live_answer taken a a.segmentation
    else Stale

-- an arrival that is not stale is taken
abbrev pub taken_with : Longest → ℕ → List Arrival → Arrival → List Arrival
taken_with longest moment taken a =
    if is_in_life longest moment a.product a.version then taken ++ a ∷ [] else taken

-- the pieces of files that are not stale
abbrev pub live_pieces : Longest → ℕ → KeptPieces → KeptPieces
live_pieces longest moment pieces =
    filter (λ e. is_in_life longest moment e.0.product e.0.version) pieces
