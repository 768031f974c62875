use Rattle.std.proofs.Common.{◌≡◌, ◌≢◌, ℕ, List, sym, ap, ◌∙◌, arith}
use Rattle.std.specs.Cmp.Lexicographic.{slice_cmp}
use Rattle.std.specs.Ordering.{nat_cmp}
use Rattle.std.specs.declared.cmp.Ordering.{Ordering}
use Rattle.text_reports.specs.Front.{front_number}
use Rattle.text_reports.proofs.Fronts.{IsBytes, front_told, front_same}
use Rattle.text_reports.proofs.word.order_by_fronts.Goals as goal

by_fronts : (a b : List ℕ) (f g : ℕ) (o : Ordering) → IsBytes a → IsBytes b → f ≡ front_number 8 a → g ≡ front_number 8 b → f ≢ g → o ≡ nat_cmp f g → o ≡ slice_cmp nat_cmp a b
by_fronts a b f g o h k e e' differ told = front_told 8 a b o h k (λ same. differ (e ∙ same ∙ sym e')) (told ∙ ap (λ n. nat_cmp n g) e ∙ ap (nat_cmp (front_number 8 a)) e')

pub returns-then-front-other_front : goal.returns-then-front-other_front
returns-then-front-other_front c =
    by_fronts c.args.one.now c.args.other.now c.args.front c.args.other_front c.cmp.result (λ k. omega (arith, c.type_inv.one k)) (λ k. omega (arith, c.type_inv.other k)) c.requires.front c.requires.other_front c.if-front-other_front.true c.cmp.ensures

pub returns-then-other-le-FRONT_LENGTH : goal.returns-then-other-le-FRONT_LENGTH
returns-then-other-le-FRONT_LENGTH c =
    let same : front_number 8 c.args.one.now ≡ front_number 8 c.args.other.now = sym c.requires.front ∙ c.if-front-other_front.false ∙ c.requires.other_front in
    c.cmp-then-other-le-FRONT_LENGTH.ensures ∙ sym (front_same 8 c.args.one.now c.args.other.now (λ k. omega (arith, c.type_inv.one k)) (λ k. omega (arith, c.type_inv.other k)) c.if-one-le-FRONT_LENGTH.true c.if-other-le-FRONT_LENGTH.true same)
