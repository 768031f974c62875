use Rattle.std.proofs.Common.{ℕ, List, [], ◌∷◌, length, map, sym, ap, subst, ◌∙◌}
use Rattle.std.proofs.lemmas.List.{map-append}
use Rattle.std.proofs.lemmas.Bool.{eqb-true}
use Rattle.radar_core.proofs.GroupLemmas.{IsCut, cut_more, cut_all}
use Rattle.radar_core.proofs.groups.group_blanks.Goals as goal

pub loop-left-preserved : goal.loop-left-preserved
loop-left-preserved c =
    let pushed = ap (map (λ group. group.items)) c.in_ok-push.ensures.items ∙ map-append (λ group. group.items) c.loop-left.groups.items (c.in_ok-from_slice.field-0 ∷ []) in
    subst (λ (groups : List (List ℕ)). IsCut groups c.split_at.result.1.now c.args.numbers.now) (sym pushed)
    (cut_more (map (λ group. group.items) c.loop-left.groups.items) c.loop-left.left.now c.args.numbers.now c.in_ok-from_slice.field-0.items
    c.split_at.result.1.now c.group_length.result c.loop-left.invariant c.group_length.ensures.some c.group_length.ensures.most
    c.group_length.ensures.joined c.group_length.ensures.ends (c.in_ok-from_slice.ensures.items ∙ c.split_at.ensures.front)
    c.split_at.ensures.back)

pub returns : goal.returns
returns c =
    cut_all (map (λ group. group.items) c.loop-left.groups.items) c.loop-left.left.now c.args.numbers.now c.loop-left.invariant
    (eqb-true (length c.loop-left.left.now) 0 (sym c.is_empty.ensures ∙ c.loop-left-test.false))
