-- What a read of a source and a write into a sink answer and leave.
-- Which bytes they move is said by the standard library's `ReadConsumes` and `WriteAppends`.
use Rattle.std.specs.Prelude.{◌≡◌, ℕ, ◌+◌, ◌<◌, ◌≤◌, List, length, Option, Some, None, Result}
use Rattle.std.specs.Prelude.{MatchResult, IfOk, ⊤}

-- a write of a piece of so many bytes takes at most these, and at least one where there is one
abbrev pub TakesSome : {E : Type 0} → Result ℕ E → ℕ → Type 0
TakesSome result size = IfOk result (λ n. (n ≤ size) × (0 < size → 0 < n))

-- so many bytes may still be written, where the sink asks its caller to keep within a room
abbrev pub FitsSpare : Option ℕ → ℕ → Type 0
FitsSpare None size = ⊤
FitsSpare (Some spare) size = size ≤ spare

-- the new spare room is the old one, less n bytes; a sink that has none goes on to have none
abbrev pub SpendsCount : Option ℕ → Option ℕ → ℕ → Type 0
SpendsCount None new n = new ≡ None
SpendsCount (Some old) None n = ⊥
SpendsCount (Some old) (Some new) n = new + n ≡ old

-- the spare room falls by exactly the bytes that the write took
abbrev pub SpendsTaken : {E : Type 0} → Option ℕ → Option ℕ → Result ℕ E → Type 0
SpendsTaken old new result = MatchResult result (SpendsCount old new) (λ _. SpendsCount old new 0)

-- where a sink has a reach, its bytes are told, and it has faults only once so many bytes were
-- written
abbrev pub IsReached : Option ℕ → Option (List ℕ) → ℕ → Type 0
IsReached None written faults = ⊤
IsReached (Some reach) None faults = ⊥
IsReached (Some reach) (Some bytes) faults = 0 < faults → reach ≤ length bytes
