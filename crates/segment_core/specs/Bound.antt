-- How much a store holds: no more than the arrivals of files that are not stale.
use Rattle.std.specs.Prelude.{◌≡◌, ℕ, ◌≤◌, true, List, [], ◌∷◌, length, filter, Option, Some, None}
use Rattle.std.specs.Prelude.{is_some}
use Rattle.std.specs.List.{sum_by}
use Rattle.std.specs.Map.{values_of}
use Rattle.std.specs.Option.{option_map}
use Rattle.segment_core.specs.Arrival.{Arrival, whole_with, completes}
use Rattle.segment_core.specs.Kept.{KeptPieces, kept_under}
use Rattle.segment_core.specs.Store.{Store, StandsFor, is_in_life, live_answer}
use Rattle.segment_core.specs.declared.piece_name.PieceName.{PieceName}
use Rattle.segment_core.specs.declared.arrived.Longest.{Longest}
use Rattle.segment_core.specs.declared.arrived.Taken.{Taken}
use Rattle.segment_core.specs.declared.arrived.Taken.TheVariants.{Whole, Waits, Again, Stale}

-- no name stands twice
abbrev pub AreNamedOnce : KeptPieces → Type 0
AreNamedOnce [] = Unit {0}
AreNamedOnce (e ∷ pieces) = (kept_under pieces e.0 ≡ None) × AreNamedOnce pieces

-- its clock stands at the moment, and it holds nothing that is stale there
pub record IsPurged (store : Store) (moment : ℕ) : Type 0 where
  pub clock : store.clock ≡ Some moment
  pub once : AreNamedOnce store.pieces
  pub live : (name : PieceName) → is_some (kept_under store.pieces name) ≡ true
      → is_in_life store.longest moment name.product name.version ≡ true

abbrev pub piece_size : Option (List ℕ) → ℕ
piece_size None = 0
piece_size (Some bytes) = length bytes

-- the bytes of all pieces
abbrev pub pieces_size : KeptPieces → ℕ
pieces_size pieces = sum_by piece_size (values_of pieces)

abbrev pub live_arrivals : Longest → ℕ → List Arrival → List Arrival
live_arrivals longest moment taken =
    filter (λ a. is_in_life longest moment a.product a.version) taken

-- numbers and bytes are at most those of the arrivals that are not stale
pub record IsBounded (store : Store) (moment : ℕ) (taken : List Arrival) : Type 0 where
  pub numbers : length store.pieces ≤ length (live_arrivals store.longest moment taken)
  pub bytes : pieces_size store.pieces
      ≤ sum_by (λ a. length a.payload) (live_arrivals store.longest moment taken)

abbrev pub StoresAreBounded : Type 0
StoresAreBounded = (store : Store) (moment : ℕ) (taken : List Arrival) → StandsFor store taken
    → IsPurged store moment
    → IsBounded store moment taken

-- the payload of an answer that says that one is whole
abbrev pub payload_made_whole : Taken → Option (List ℕ)
payload_made_whole (Whole payload) = Some payload
payload_made_whole Waits = None
payload_made_whole Again = None
payload_made_whole Stale = None

-- an answer says that a payload is whole exactly where the arrival completes it
abbrev pub AnswersComplete : Type 0
AnswersComplete = (taken : List Arrival) (a : Arrival)
    → completes taken a a.segmentation
    ≡ option_map (whole_with a) (payload_made_whole (live_answer taken a a.segmentation))
