use Rattle.picture_core.specs.Entry.{Entry, IsOfKind}
use Rattle.picture_core.proofs.MarkedKept.{marked-mark}
use Rattle.picture_core.proofs.picture.Picture.mark.Goals as goal

pub invariant_of-self : goal.invariant_of-self
invariant_of-self c =
    marked-mark (λ (e : Entry). IsOfKind e.key e.value) c.self.inside.kept c.mark.new.self c.mark.ensures c.self.invariant
