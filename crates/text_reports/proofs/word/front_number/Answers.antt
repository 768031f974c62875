use Rattle.std.proofs.Common.{◌≡◌, ℕ, ◌+◌, ◌*◌, ◌^◌, ◌<◌, sym, arith, subst, add-one, List}
use Rattle.text_reports.specs.Front.{front_number}
use Rattle.text_reports.proofs.Fronts.{IsBytes, front_fits, front_more, digits_fit}
use Rattle.text_reports.proofs.word.front_number.Goals as goal

room : (word : List ℕ) (number place byte : ℕ) → IsBytes word → number ≡ front_number place word → place < 8 → byte < 256 → number * 256 + byte < 2 ^ 64
room word number place byte bytes e below small = digits_fit place number byte below (subst (λ n. n < 256 ^ place) (sym e) (front_fits place word bytes)) small

pub overflow_mul-number : goal.overflow_mul-number
overflow_mul-number c =
    let fits = room c.args.word.now c.loop-place.number c.loop-place.place 0 (λ k. omega (arith, c.type_inv.word k)) c.loop-place.invariant c.loop-place-test.true (omega arith) in
    omega (arith, fits)

pub overflow_add-number : goal.overflow_add-number
overflow_add-number c =
    let fits = room c.args.word.now c.loop-place.number c.loop-place.place c.byte_at.result (λ k. omega (arith, c.type_inv.word k)) c.loop-place.invariant c.loop-place-test.true c.byte_at.ensures.fits in
    omega (arith, fits)

pub loop-place-preserved : goal.loop-place-preserved
loop-place-preserved c =
    let more = front_more c.loop-place.place c.args.word.now in
    rw (c.byte_at.ensures.byte, c.loop-place.invariant, add-one c.loop-place.place) (sym more)
