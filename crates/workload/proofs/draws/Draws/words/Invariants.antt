-- What is written and what the draws that are left give is the whole text.
use Rattle.std.proofs.Common.{◌≡◌, ◌-◌, ◌++◌, flat_map}
use Rattle.workload.specs.Draws.{draws}
use Rattle.workload.specs.Texts.{word}
use Rattle.workload.proofs.draws.Draws.words.Given as goal

abbrev pub invariant-loop : goal.invariant-loop
invariant-loop l =
    (l.text ++ flat_map word (draws 100000 (l.count - l.counter) l.self.state).0
    ≡ l.initial.text ++ flat_map word (draws 100000 l.count l.initial.self.state).0)
    × ((draws 100000 (l.count - l.counter) l.self.state).1 ≡ (draws 100000 l.count l.initial.self.state).1)
