-- The order of the code's keys is that of the keys that they stand for.
use Rattle.std.proofs.Common.{◌≡◌, rules}
use Rattle.picture_core.specs.Key.{key_cmp}
use Rattle.picture_core.specs.Views.{key_view}
use Rattle.picture_core.specs.contracts.key.KeyOrd.TheImpl as order
use Rattle.picture_core.specs.declared.key.Key.{Key}
use Rattle.picture_core.specs.declared.key.Key.TheVariants.{Radar, Text}
use Rattle.picture_core.proofs.KeptPairs.{IsKeyOrder}

agrees : (a b : Key) → order.ghosts.cmp a b ≡ key_cmp (key_view a) (key_view b)
agrees (Radar a) (Radar b) = search rules
agrees (Radar a) (Text b) = search rules
agrees (Text a) (Radar b) = search rules
agrees (Text a) (Text b) = search rules

pub code_order : IsKeyOrder order.ghosts.cmp
code_order = record { agrees = agrees }
