use Rattle.std.proofs.Common.{◌≡◌, ℕ, ◌+◌, ◌&&◌, ◌==◌, if◌then◌else◌, Some, unwrap_or, sym, ap, subst, ◌∙◌, arith}
use Rattle.std.specs.BTreeMap.{get}
use Rattle.std.specs.Option.{option_copied_mut}
use Rattle.ground_core.specs.Views.{count_at}
use Rattle.ground_core.specs.Counts.{HasRoomToCount}
use Rattle.ground_core.proofs.MapKeys.{pair_cmp, put_count}
use Rattle.ground_core.proofs.files.Files.count.Goals as goal

pub overflow_add-count : goal.overflow_add-count
overflow_add-count c =
    let found : get pair_cmp c.args.self.now.counts (c.seconds.result, c.args.product) ≡ Some c.in-Some.count.now
    = sym c.get_mut.ensures.value ∙ ap option_copied_mut c.in-Some.is in
    let same : count_at c.args.self.now c.seconds.result c.args.product ≡ count_at c.args.self.now c.args.version c.args.product
    = ap (λ s. count_at c.args.self.now s c.args.product) c.seconds.ensures.value in
    let here : count_at c.args.self.now c.seconds.result c.args.product ≡ c.in-Some.count.now = ap (λ o. unwrap_or o 0) found in
    omega (arith, same, here, c.requires.few)

pub returns-in-Some : goal.returns-in-Some
returns-in-Some c =
    let found : get pair_cmp c.args.self.now.counts (c.seconds.result, c.args.product) ≡ Some c.in-Some.count.now
    = sym c.get_mut.ensures.value ∙ ap option_copied_mut c.in-Some.is in
    subst (λ s. (v p : ℕ) → count_at (record { counts = c.get_mut.follows.lender (c.in-Some.count.now + 1) }) v p
    ≡ count_at c.args.self.now v p + (if (s == v) && (c.args.product == p) then 1 else 0)) c.seconds.ensures.value
    (λ v p. put_count c.seconds.result c.args.product v p c.in-Some.count.now (λ x y. get pair_cmp c.args.self.now.counts (x, y)) _ found
    (((c.get_mut.follows.holds (c.in-Some.count.now + 1)).3 (subst (λ s. HasRoomToCount c.args.self.now s c.args.product) (sym c.seconds.ensures.value) c.requires.room)).0 (v, p)))
