-- A source and a sink in memory, as their callers see them. Both fail at chosen calls.
use Rattle.fisb_wire.specs.Faults.{u64_count}
use Rattle.fisb_wire.specs.Ends.{IsReached}
use Rattle.std.specs.Prelude.{◌≡◌, ℕ, ◌<◌, ◌≤◌, ◌⊎◌, Bool, true, false, eqb, leb, ◌&&◌, ◌||◌}
use Rattle.std.specs.Prelude.{if◌then◌else◌, List, length, Contains, Option, Some, None, refl}
use Rattle.std.proofs.Common.{arith}

-- a source in memory
pub record Supply : Type 0 where
  -- the bytes still to come
  pub left : List ℕ
  -- the number of the next call: the first one is 0, and from 2^64 − 1 on it stands still
  pub next : ℕ
  -- the numbers of the calls that fail
  pub fails : List ℕ
  -- the most bytes that one read gives
  pub piece : ℕ
  -- how many calls failed, up to 2^64 − 1
  pub faults : ℕ

-- a sink in memory
pub record Store : Type 0 where
  -- the bytes taken so far
  pub bytes : List ℕ
  -- how many bytes it can take in all
  pub room : ℕ
  -- the number of the next call: the first one is 0, and from 2^64 − 1 on it stands still
  pub next : ℕ
  -- the numbers of the calls that fail
  pub fails : List ℕ
  -- how many calls failed, up to 2^64 − 1
  pub faults : ℕ

-- the next read fails exactly where it is listed
abbrev pub FailsNext : Supply → Type 0
FailsNext supply = Contains supply.fails supply.next

-- the next write, of a piece of so many bytes, fails exactly where it is listed, or where there is
-- something to take and the room is full
abbrev pub RefusesNext : Store → ℕ → Type 0
RefusesNext store size =
    Contains store.fails store.next ⊎ ((0 < size) × (store.room ≤ length store.bytes))

-- Where no call is listed, a write fails at the full room alone: so the room is reached before any
-- fault. A store that has a fault, an empty list and room left comes about by no call; it has no
-- reach.
abbrev pub store_reach : Store → Option ℕ
store_reach store =
    if eqb (length store.fails) 0 && (eqb store.faults 0 || leb store.room (length store.bytes))
    then Some store.room
    else None

-- What the fields of the sink keep: the bytes taken are within the room, and where no call is
-- listed there is a fault only once the room is full.
pub record IsWhole (used room : ℕ) (fails : List ℕ) (failed : ℕ) : Type 0 where
  pub within : used ≤ room
  pub full : length fails ≡ 0 → 0 < failed → room ≤ used

-- a reach that has to hold only where there is one
reached-where : (has_reach : Bool) (reach faults : ℕ) (taken : List ℕ)
    → (has_reach ≡ true → 0 < faults → reach ≤ length taken)
    → IsReached (if has_reach then Some reach else None) (Some taken) faults
reached-where true reach faults taken full = full refl
reached-where false reach faults taken full = tt

-- where the test of `store_reach` holds, a fault comes only at the full room
no-fault-or-full : (a b c : Bool) (room faults size : ℕ)
    → b ≡ eqb faults 0 → c ≡ leb room size → a && (b || c) ≡ true
    → 0 < u64_count faults → room ≤ size
no-fault-or-full a b c room faults size b-is c-is holds faulty = grind arith

-- a store's reach is reached before its first fault
pub store-reached : (store : Store)
    → IsReached (store_reach store) (Some store.bytes) (u64_count store.faults)
store-reached store =
    reached-where _ store.room _ store.bytes
    (no-fault-or-full (eqb (length store.fails) 0) _ _ _ _ _ refl refl)
