use Rattle.std.proofs.Common.{◌≡◌, ◌<◌, ◌∷◌, ◌++◌, set, ℕ, List, length, get_or, drop, arith, ap, ap₂, sym, ◌∙◌, subst}
use Rattle.std.specs.Int.Bits.{bit_xor}
use Rattle.rs_code.proofs.Solving.{Solves, solve_step, one_before, first_of_front}
use Rattle.poly256.specs.Polynomial.{element_product}
use Rattle.rs_code.proofs.values.+solve.Goals as goal

pub returns : goal.returns
returns t c =
    let some : 0 < length c.args.points.now = omega arith in
    let point : c.of-point.result ≡ get_or c.args.points.now 0 0 = c.of-point.ensures.value in
    solve_step c.field_laws.ensures c.args.points.now c.args.sums.now c.weigh.new.sums c.solve.new.sums c.unweigh.new.values
    (set c.split_at_mut-first.result.0.now 0 (bit_xor (get_or c.split_at_mut-first.result.0.now 0 0) c.total.result) ++ c.unweigh.new.values)
    c.of-point.result some c.requires.different (sym point) (sym c.requires.long) c.weigh.auto.sums
    (let l = c.unweigh.auto.values in let l' = c.solve.auto.sums in let l'' = c.split_at_mut-first.ensures.back_len in
    let m = c.weigh.auto.sums in let r = c.requires.long in omega arith)
    c.weigh.ensures
    (subst (λ (xs : List ℕ). Solves xs (drop 1 c.weigh.new.sums) c.solve.new.sums) c.split_at.ensures.back
    (subst (λ (ss : List ℕ). Solves c.split_at.result.1.now ss c.solve.new.sums) c.split_at_mut-first.ensures.back c.solve.ensures))
    (subst (λ (xs : List ℕ). (i : ℕ) → i < length xs
    → element_product (get_or c.unweigh.new.values i 0) (bit_xor (get_or xs i 0) c.of-point.result) ≡ get_or c.solve.new.sums i 0)
    c.split_at.ensures.back c.unweigh.ensures)
    (λ i. let fits = c.type_inv.sums i in omega arith)
    (one_before c.split_at_mut-first.result.0.now c.unweigh.new.values _ c.split_at_mut-first.ensures.front_len
    ∙ ap (λ (a : ℕ). a ∷ c.unweigh.new.values)
    (ap₂ bit_xor
    (ap (λ (xs : List ℕ). get_or xs 0 0) c.split_at_mut-first.ensures.front ∙ first_of_front c.weigh.new.sums)
    c.total.ensures))
