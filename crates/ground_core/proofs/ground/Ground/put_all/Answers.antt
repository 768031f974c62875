use Rattle.std.proofs.Common.{nat_lt, if◌then◌else◌, ◌+◌, refl, ap, ◌∙◌, arith}
use Rattle.std.proofs.lemmas.List.{length-map}
use Rattle.ground_core.specs.Putting.{values_of, latest_put}
use Rattle.ground_core.specs.Views.{count_at}
use Rattle.ground_core.proofs.SentItems.{whole_counts}
use Rattle.ground_core.proofs.ground.Ground.put_all.Goals as goal

pub returns-clause-ok : goal.returns-clause-ok
returns-clause-ok c = record {
  table = refl;
  station = refl;
  clock = refl;
  given = (let size = length-map c.args.items.now (λ item. item.value) in omega (arith, c.in-Some.ensures, size));
  newest = λ key. c.put_all-2.ensures key ∙ ap (latest_put key (values_of c.args.items.now)) (c.reserve_all.ensures.same key);
  files = λ v p. c.forget.ensures v p
      ∙ ap (λ n. if nat_lt c.args.moment (v + c.args.self.now.life) then n else 0) (whole_counts v p (values_of c.args.items.now) (count_at c.args.self.now.files v p) c.requires);
  line = c.in-Ok-put_all.ensures.ok;
}
