use Rattle.std.proofs.Common.{◌≡◌, ◌<◌, ◌-◌, ◌+◌, ◌++◌, ℕ, List, length, get_or, take, arith, ap, sym, ◌∙◌, subst, length-append}
use Rattle.std.proofs.lemmas.List.{take_at, get_or-drop}
use Rattle.rs_code.specs.CodeWord.{power_sum}
use Rattle.rs_code.proofs.Places.{bytes-append}
use Rattle.rs_code.proofs.Words.{same_from_front}
use Rattle.rs_code.proofs.Dividing.{encoded-zero}
use Rattle.rs_code.proofs.rs.Rs.encode.Goals as goal

pub returns-clause-code : goal.returns-clause-code
returns-clause-code g c =
    let below = c.args.self.now.instance.below in
    let F = c.field_laws.ensures in
    let after : c.copy_from_slice.new.self ≡ c.remainder-rest.result = c.copy_from_slice.ensures.after in
    let l : length c.split_at_mut-front.result.1.now ≡ length c.remainder-rest.result =
    sym c.copy_from_slice.ensures.len ∙ ap length after in
    record {
      long = length-append c.split_at_mut-front.result.0.now c.copy_from_slice.new.self
          ∙ (let a = c.split_at_mut-front.ensures.front_len in let d = c.copy_from_slice.ensures.len in
          let r = c.remainder-rest.ensures.long in omega arith);
      bytes = λ i.
          subst (λ (b : List ℕ). get_or (c.split_at_mut-front.result.0.now ++ b) i 0 < 256) (sym after)
          (bytes-append c.split_at_mut-front.result.0.now c.remainder-rest.result c.byte_law.ensures c.remainder-rest.ensures.bytes i);
      sums = λ j low high.
          ap (λ (b : List ℕ). power_sum (c.split_at_mut-front.result.0.now ++ b) j) after
          ∙ encoded-zero F c.split_at_mut-front.result.0.now c.split_at_mut-front.result.1.now c.remainder-rest.result j l
          (λ k.
          ap (λ (w : List ℕ). get_or w k 0) c.split_at_mut-front.ensures.back
          ∙ get_or-drop (g.row.N - g.row.ROOTS) c.clear.new.word k 0
          ∙ c.clear.ensures.zeros (g.row.N - g.row.ROOTS + k) (omega arith))
          (c.remainder-rest.ensures.sums j low high ∙ ap (λ (w : List ℕ). power_sum w j) c.split_at_mut-front.ensures.value);
    }

front_kept : goal.returns-clause-front
front_kept g c =
    take_at c.split_at_mut-front.result.0.now c.copy_from_slice.new.self (g.row.N - g.row.ROOTS) c.split_at_mut-front.ensures.front_len
    ∙ c.split_at_mut-front.ensures.front
    ∙ c.clear.ensures.front

pub returns-clause-front : goal.returns-clause-front
returns-clause-front g c = front_kept g c

pub returns-clause-only : goal.returns-clause-only
returns-clause-only g c = λ other code same.
    same_from_front c.field_laws.ensures g.row.N g.row.ROOTS g.row.FIRST other
    (c.split_at_mut-front.result.0.now ++ c.copy_from_slice.new.self) c.args.self.now.instance code (returns-clause-code g c)
    (same ∙ sym (front_kept g c))

pub returns-clause-function : goal.returns-clause-function
returns-clause-function g c =
    let same : c.split_at_mut-front.result.0.now ≡ take (g.row.N - g.row.ROOTS) c.args.word.now =
    c.split_at_mut-front.ensures.front ∙ c.clear.ensures.front in
    (c.one_encoded.ensures g.row.N g.row.ROOTS g.row.FIRST (take (g.row.N - g.row.ROOTS) c.args.word.now)
    (c.split_at_mut-front.result.0.now ++ c.copy_from_slice.new.self) c.args.self.now.instance
    (sym (ap length same) ∙ c.split_at_mut-front.ensures.front_len)
    (subst (λ (w : List ℕ). (i : ℕ) → get_or w i 0 < 256) same c.byte_law.ensures)).1
    (returns-clause-code g c, front_kept g c)
