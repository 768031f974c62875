use Rattle.std.proofs.Common.{◌≡◌, arith, eq-eqb, inl, inr}
use Rattle.std.proofs.lemmas.Bool.{cases_eq, cases_lt, eqb-true}
use Rattle.std.proofs.lemmas.List.{get_or_past}
use Rattle.rs_code.proofs.remainder.all_zero.Goals as goal

pub overflow_add-total : goal.overflow_add-total
overflow_add-total c =
    let few = c.loop-byte.invariant.few in
    let b = c.type_inv.bytes c.loop-byte.byte-index in
    let e = c.from-total.ensures in
    let r = c.requires in
    omega arith

pub loop-byte-preserved : goal.loop-byte-preserved
loop-byte-preserved c =
    let few = c.loop-byte.invariant.few in
    let b = c.type_inv.bytes c.loop-byte.byte-index in
    let e = c.from-total.ensures in
    record {
      few = omega arith;
      zeros = (
        λ none k h. elim (cases_eq k c.loop-byte.byte-index) [
          | inl same ↦ rw same (omega arith)
          | inr apart ↦ c.loop-byte.invariant.zeros.0 (omega arith) k (omega arith)
        ],
        λ zeros.
            let before : c.loop-byte.total ≡ 0 = c.loop-byte.invariant.zeros.1 (λ k h. zeros k (omega arith)) in
            let here = zeros c.loop-byte.byte-index (omega arith) in
            omega arith,
      );
    }

pub returns : goal.returns
returns c = (
  λ yes k. elim (cases_lt k c.loop-byte.byte-index) [
    | inl inside ↦ c.loop-byte.invariant.zeros.0 (eqb-true c.loop-byte.total 0 yes) k inside
    | inr past ↦ get_or_past c.args.bytes.now k 0 (let t = c.loop-byte-test.false in omega arith)
  ],
  λ zeros. eq-eqb c.loop-byte.total 0 (c.loop-byte.invariant.zeros.1 (λ k h. zeros k)),
)
