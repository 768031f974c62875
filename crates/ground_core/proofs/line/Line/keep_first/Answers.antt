use Rattle.std.proofs.Common.{map, sym, ap, ◌∙◌}
use Rattle.std.proofs.lemmas.List.{take-map}
use Rattle.ground_core.specs.Views.{place_view}
use Rattle.ground_core.proofs.line.Line.keep_first.Goals as goal

pub returns : goal.returns
returns c = ap (map place_view) c.truncate.ensures.items ∙ sym (take-map place_view c.args.count c.args.self.now.places.items)
