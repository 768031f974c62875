use Rattle.std.proofs.Common.{◌≡◌, ◌++◌, replicate}
use Rattle.dlac_text.proofs.draft.Draft.push_spaces.Given as goal

abbrev pub invariant-loop : goal.invariant-loop
invariant-loop l = l.self ≡ l.initial.self ++ replicate l.counter 32
