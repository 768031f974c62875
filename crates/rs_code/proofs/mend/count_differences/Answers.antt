use Rattle.std.proofs.Common.{◌≡◌, ◌+◌, ◌∷◌, ℕ, drop, get_or, arith, ap, ap₂, sym, ◌∙◌, drop-cons, add-one}
use Rattle.std.proofs.lemmas.List.{drop_all}
use Rattle.rs_code.specs.CodeWord.{differences}
use Rattle.rs_code.proofs.Differences.{differences-cons_same, differences-cons_apart}
use Rattle.rs_code.proofs.mend.count_differences.Goals.{then-byte-other, else-byte-other}
use Rattle.rs_code.proofs.mend.count_differences.Goals as goal

pub overflow_add-count : goal.overflow_add-count
overflow_add-count c = let few = c.loop-i.invariant.few in omega arith

pub loop-i-preserved : goal.loop-i-preserved
loop-i-preserved c =
    let inside = c.loop-i-test.true in
    let whole = c.loop-i.invariant.whole in
    let few = c.loop-i.invariant.few in
    let next : differences (drop c.loop-i.i c.args.word.now) (drop c.loop-i.i c.args.other.now)
    ≡ differences (get_or c.args.word.now c.loop-i.i 0 ∷ drop (c.loop-i.i + 1) c.args.word.now)
    (get_or c.args.other.now c.loop-i.i 0 ∷ drop (c.loop-i.i + 1) c.args.other.now) =
    ap₂ differences
    (drop-cons c.args.word.now c.loop-i.i 0 inside ∙ ap (λ (n : ℕ). get_or c.args.word.now c.loop-i.i 0 ∷ drop n c.args.word.now) (sym (add-one c.loop-i.i)))
    (drop-cons c.args.other.now c.loop-i.i 0 (let r = c.requires in omega arith)
    ∙ ap (λ (n : ℕ). get_or c.args.other.now c.loop-i.i 0 ∷ drop n c.args.other.now) (sym (add-one c.loop-i.i))) in
    elim c.if-byte-other.branch [
      | then-byte-other w ↦
          let d = differences-cons_apart (get_or c.args.word.now c.loop-i.i 0) (get_or c.args.other.now c.loop-i.i 0)
          (drop (c.loop-i.i + 1) c.args.word.now) (drop (c.loop-i.i + 1) c.args.other.now) w.if-byte-other.true in
          rw w.count-is (record { few = omega arith; whole = omega arith })
      | else-byte-other w ↦
          let d = differences-cons_same (get_or c.args.word.now c.loop-i.i 0) (get_or c.args.other.now c.loop-i.i 0)
          (drop (c.loop-i.i + 1) c.args.word.now) (drop (c.loop-i.i + 1) c.args.other.now) w.if-byte-other.false in
          rw w.count-is (record { few = omega arith; whole = omega arith })
    ]

pub returns : goal.returns
returns c =
    let t = c.loop-i-test.false in
    let none : differences (drop c.loop-i.i c.args.word.now) (drop c.loop-i.i c.args.other.now) ≡ 0 =
    ap₂ differences (drop_all c.loop-i.i c.args.word.now (omega arith)) (drop_all c.loop-i.i c.args.other.now (let r = c.requires in omega arith)) in
    let whole = c.loop-i.invariant.whole in
    omega arith
