-- Moments are whole seconds since 1970-01-01 00:00:00 UTC, without leap seconds. The broadcast is
-- decoded over one century, from the first second of 2000 to the last second of 2099.
use Rattle.std.specs.Prelude.{ℕ, ◌≤◌, Bool, ◌&&◌, nat_le}

-- 2000-01-01 00:00:00
abbrev pub first_moment : ℕ
first_moment = 946684800

-- 2099-12-31 23:59:59
abbrev pub last_moment : ℕ
last_moment = 4102444799

-- the seconds of a day
abbrev pub day_seconds : ℕ
day_seconds = 86400

-- the number of seconds is a moment of the century
abbrev pub IsMoment : ℕ → Type 0
IsMoment m = (first_moment ≤ m) × (m ≤ last_moment)

-- the same as a test
abbrev pub is_moment : ℕ → Bool
is_moment m = nat_le first_moment m && nat_le m last_moment
