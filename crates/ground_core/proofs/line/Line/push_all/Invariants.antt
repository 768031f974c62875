use Rattle.std.proofs.Common.{◌≡◌, ◌++◌, map, take, length}
use Rattle.std.specs.List.{range_with_len}
use Rattle.ground_core.specs.Views.{place_view, piece_at}
use Rattle.ground_core.proofs.line.Line.push_all.Given as goal

abbrev pub invariant-loop-number : goal.invariant-loop-number
invariant-loop-number l = record {
  pieces : map place_view l.self.places.items
      ≡ map place_view l.fn.self.places.items ++ map (piece_at l.item.value) (range_with_len 1 l.number);
  others : take (length l.fn.self.places.items) l.self.places.items ≡ l.fn.self.places.items;
}
