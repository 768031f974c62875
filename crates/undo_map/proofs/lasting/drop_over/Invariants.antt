-- What lives is what lived at first, and each entry that is left has a place.
use Rattle.std.proofs.Common.{◌≡◌, ◌≤◌, filter, length, nat_lt}
use Rattle.std.specs.Prelude.{None}
use Rattle.undo_map.specs.Ends.{HavePlaces, due_places}
use Rattle.undo_map.proofs.lasting.drop_over.Given as goal

abbrev pub invariant-loop-key : goal.invariant-loop-key
invariant-loop-key g l = record {
  entries :
      filter (λ e. nat_lt l.now (g.V.Lasting.end e.1)) l.map.entries
      ≡ filter (λ e. nat_lt l.now (g.V.Lasting.end e.1)) l.initial.map.entries;
  mark : l.map.mark ≡ None;
  placed : HavePlaces g.K.Ord.cmp g.V.Lasting.end l.ends.places l.map.entries;
  few : length l.ends.places ≤ length l.map.entries;
  added : l.ends.added ≡ l.initial.ends.added;
}

abbrev pub decreases-loop-key : goal.decreases-loop-key
decreases-loop-key g l = due_places l.now l.ends.places
