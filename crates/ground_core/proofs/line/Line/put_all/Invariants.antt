use Rattle.std.proofs.Common.{◌≡◌, ◌++◌, flat_map, take}
use Rattle.ground_core.specs.Views.{pieces_in}
use Rattle.ground_core.specs.Putting.{pieces_at, values_of}
use Rattle.ground_core.proofs.line.Line.put_all.Given as goal

abbrev pub invariant-loop-item : goal.invariant-loop-item
invariant-loop-item l = record {
  pieces : pieces_in l.self ≡ pieces_in l.fn.self ++ flat_map pieces_at (values_of (take l.item-index l.items));
}
