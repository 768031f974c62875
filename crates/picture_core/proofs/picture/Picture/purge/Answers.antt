-- What is left was there.
use Rattle.picture_core.specs.Entry.{Entry, IsOfKind}
use Rattle.picture_core.proofs.MarkedKept.{marked-live}
use Rattle.picture_core.proofs.picture.Picture.purge.Goals as goal

pub invariant_of-self : goal.invariant_of-self
invariant_of-self c =
    marked-live (λ (e : Entry). IsOfKind e.key e.value) c.args.moment c.self.inside.kept c.drop_ended.new.kept
    c.drop_ended.ensures.entries c.drop_ended.ensures.mark c.self.invariant
