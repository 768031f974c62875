-- The generator of the uplink's code, as it stands in the table of its multiples.
use Rattle.std.specs.Prelude.{ℕ, List, take, drop}
use Rattle.rs_code.specs.declared.uplink_rows.TheConstants.{UPLINK_ROWS}

-- the polynomial that is 0 at the 20 roots of the uplink's code, highest power first; its first
-- coefficient is 1 and does not stand in the list
unfoldable pub uplink_generator : List ℕ
uplink_generator = take 20 (drop 20 UPLINK_ROWS)
