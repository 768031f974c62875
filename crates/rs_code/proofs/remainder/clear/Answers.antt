use Rattle.std.proofs.Common.{arith, ◌∙◌, length-set, inl, inr}
use Rattle.std.proofs.lemmas.Bool.{cases_eq, cases_lt}
use Rattle.std.proofs.lemmas.List.{get_or-set_same, get_or-set_other, get_or_past}
use Rattle.list_members.specs.Places.{same_front}
use Rattle.rs_code.proofs.remainder.clear.Goals as goal

pub loop-i-preserved : goal.loop-i-preserved
loop-i-preserved c =
    let low = c.loop-i.auto.i in
    let inside = c.loop-i-test.true in
    let long = c.loop-i.invariant.long in
    record {
      long = length-set _ _ _ ∙ c.loop-i.invariant.long;
      front = λ k h. get_or-set_other c.loop-i.word c.loop-i.i k 0 0 (λ e. absurd (omega arith)) ∙ c.loop-i.invariant.front k h;
      zeros = λ k h h'. elim (cases_eq k c.loop-i.i) [
        | inl same ↦ rw same (get_or-set_same c.loop-i.word c.loop-i.i 0 0 (omega arith))
        | inr apart ↦ get_or-set_other c.loop-i.word c.loop-i.i k 0 0 apart ∙ c.loop-i.invariant.zeros k h (omega arith)
      ];
    }

pub returns-clause-front : goal.returns-clause-front
returns-clause-front c =
    same_front c.args.place c.loop-i.word c.args.word.now (let l = c.loop-i.invariant.long in let r = c.requires in omega arith)
    (let r = c.requires in omega arith) c.loop-i.invariant.front

pub returns-clause-zeros : goal.returns-clause-zeros
returns-clause-zeros c = λ k h. elim (cases_lt k c.loop-i.i) [
  | inl inside ↦ c.loop-i.invariant.zeros k h inside
  | inr past ↦
      get_or_past c.loop-i.word k 0 (let t = c.loop-i-test.false in let l = c.loop-i.invariant.long in omega arith)
]
