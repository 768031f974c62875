use Rattle.picture_core.specs.Entry.{Entry, IsOfKind}
use Rattle.picture_core.proofs.MarkedKept.{marked-settle}
use Rattle.picture_core.proofs.picture.Picture.settle.Goals as goal

pub invariant_of-self : goal.invariant_of-self
invariant_of-self c =
    marked-settle (λ (e : Entry). IsOfKind e.key e.value) c.self.inside.kept c.settle.new.self c.settle.ensures
    c.self.invariant
