-- A new entry is of the kind of its key.
use Rattle.picture_core.specs.Entry.{Entry, IsOfKind}
use Rattle.picture_core.specs.Views.{kept_entry}
use Rattle.picture_core.proofs.MarkedKept.{marked-put}
use Rattle.picture_core.proofs.picture.Picture.put.Goals as goal

pub invariant_of-self : goal.invariant_of-self
invariant_of-self c =
    let e : Entry = kept_entry c.args.key (record { version = c.args.version; until = c.args.until; value = c.args.value }) in
    marked-put (λ (e : Entry). IsOfKind e.key e.value) c.put_kept.result e c.self.inside.kept c.put_kept.new.kept
    c.put_kept.ensures.ok c.put_kept.ensures.mark c.put_kept.ensures.err c.requires c.self.invariant
