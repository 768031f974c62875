use Rattle.std.proofs.Common.{◌∙◌, ◌++◌, ◌∷◌, [], append_assoc, append-nil, ap, sym, length, arith}
use Rattle.std.specs.Vec.Iter.{into_iter_items, into_iter_deque}
use Rattle.fisb_cli.proofs.FirstWord.{behind-the-first, none-left}
use Rattle.fisb_cli.proofs.ending.words.Goals as goal

pub loop-word-smaller : goal.loop-word-smaller
loop-word-smaller c = let fewer = ap length c.in-Some.ensures.items in omega (arith, fewer)

pub loop-word-preserved : goal.loop-word-preserved
loop-word-preserved c =
    let left = into_iter_items c.next-in-loop-word.new.self in
    ap (λ ws. ws ++ left) c.in_ok-push.ensures.items ∙ append_assoc c.loop-word.words.items (c.in-Some.word ∷ []) left
    ∙ ap (λ ws. c.loop-word.words.items ++ ws) (sym c.in-Some.ensures.items) ∙ c.loop-word.invariant

pub returns : goal.returns
returns c =
    let kept = behind-the-first c.next.result _ _ c.next.ensures.items (into_iter_deque c.args.args).ok.0 c.next.ensures.variant in
    let none = none-left (into_iter_items c.loop-word.args) (into_iter_deque c.loop-word.args).ok.0 c.in_default.ensures.variant in
    sym (ap (λ ws. c.loop-word.words.items ++ ws) none ∙ append-nil c.loop-word.words.items) ∙ c.loop-word.invariant ∙ kept
