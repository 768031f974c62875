-- Why a text writes no table.
use Rattle.std.specs.Prelude.{ℕ}
use Rattle.life_table.specs.declared.fault.RowFault.{RowFault}

-- it is no TOML document, or this is its first faulty row, with the row's first fault
pub data Fault : Type 0 where
  not_toml : Fault
  bad_row : (row : ℕ) (reason : RowFault) → Fault
