use Rattle.std.proofs.Common.{◌≡◌, ◌+◌, ◌-◌, ◌++◌, ℕ, List, length, get_or, drop, arith, ap, ap₂, sym, ◌∙◌, length-append}
use Rattle.std.proofs.lemmas.List.{get_or-take, take_at}
use Rattle.poly256.specs.Polynomial.{sum_of, scaled_coefficients}
use Rattle.rs_code.specs.CodeWord.{power_sum}
use Rattle.rs_code.specs.UplinkRows.{uplink_generator}
use Rattle.rs_code.proofs.Dividing.{division-step, multiple-zero}
use Rattle.rs_code.proofs.UplinkTable.{uplink_root, length-uplink_generator}
use Rattle.rs_code.proofs.remainder.divide_by_rows.Goals as goal

pub loop-place-preserved : goal.loop-place-preserved
loop-place-preserved c =
    let inside = c.loop-place-test.true in
    let long = c.loop-place.invariant.long in
    let byte : get_or c.split_at_mut-front.result.0.now c.loop-place.place 0 ≡ get_or c.loop-place.word c.loop-place.place 0 =
    ap (λ (w : List ℕ). get_or w c.loop-place.place 0) c.split_at_mut-front.ensures.front
    ∙ get_or-take (c.loop-place.place + 1) c.loop-place.word c.loop-place.place 0 (omega arith) in
    record {
      long =
          length-append c.split_at_mut-front.result.0.now c.add_row.new.list
          ∙ (let a = c.split_at_mut-front.ensures.front_len in let b = c.split_at_mut-front.ensures.back_len in
          let d = c.add_row.auto.list in omega arith);
      sums = λ j low high.
          ap (λ (w : List ℕ). power_sum (drop (c.loop-place.place + 1) (c.split_at_mut-front.result.0.now ++ w)) j)
          (c.add_row.ensures ∙ ap₂ (λ (xs : List ℕ) (b : ℕ). sum_of xs (scaled_coefficients b uplink_generator)) c.split_at_mut-front.ensures.back byte)
          ∙ division-step c.field_laws.ensures c.degree_laws.ensures c.loop-place.word c.split_at_mut-front.result.0.now
          (scaled_coefficients (get_or c.loop-place.word c.loop-place.place 0) uplink_generator) c.loop-place.place j
          (let l = c.degree_laws.ensures.scaled_length (get_or c.loop-place.word c.loop-place.place 0) uplink_generator in let g = length-uplink_generator in omega arith) c.split_at_mut-front.ensures.front
          (multiple-zero c.field_laws.ensures c.degree_laws.ensures (get_or c.loop-place.word c.loop-place.place 0) j uplink_generator
          (let f = c.type_inv.word c.loop-place.place in
          let here : get_or (c.split_at_mut-front.result.0.now ++ c.add_row.new.list) c.loop-place.place 0 ≡ get_or c.loop-place.word c.loop-place.place 0 =
          sym (get_or-take (c.loop-place.place + 1) (c.split_at_mut-front.result.0.now ++ c.add_row.new.list) c.loop-place.place 0 (omega arith))
          ∙ ap (λ (w : List ℕ). get_or w c.loop-place.place 0)
          (take_at c.split_at_mut-front.result.0.now c.add_row.new.list (c.loop-place.place + 1) c.split_at_mut-front.ensures.front_len)
          ∙ byte in
          omega arith) (uplink_root c.field_laws.ensures j low high))
          ∙ c.loop-place.invariant.sums j low high;
    }

pub returns : goal.returns
returns c = λ j low high.
    let low_place = c.loop-place-test.false in
    let high_place = c.loop-place.auto.place-end in
    ap (λ (n : ℕ). power_sum (drop n c.loop-place.word) j)
    (let e : length c.args.word.now - 20 ≡ c.loop-place.place = omega arith in e)
    ∙ c.loop-place.invariant.sums j low high
