-- What a picture holds: its entries in the order of their keys, and those of the mark, if one
-- stands.
use Rattle.std.specs.Prelude.{List, Option}
use Rattle.picture_core.specs.Entry.{Entry}

pub record MarkedEntries : Type 0 where
  pub entries : List Entry
  pub mark : Option (List Entry)
