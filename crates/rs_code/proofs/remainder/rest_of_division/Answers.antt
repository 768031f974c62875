use Rattle.std.proofs.Common.{◌-◌, ℕ, List, drop, ap, sym, ◌∙◌}
use Rattle.std.proofs.lemmas.List.{length-replicate}
use Rattle.rs_code.specs.CodeWord.{power_sum}
use Rattle.rs_code.proofs.remainder.rest_of_division.Goals as goal

pub returns : goal.returns
returns g c = record {
  sums = λ j low high.
      ap (λ (w : List ℕ). power_sum w j) (c.copy_from_slice.ensures.after ∙ c.split_at.ensures.back)
      ∙ ap (λ (n : ℕ). power_sum (drop (n - g.row.ROOTS) c.divide.new.word) j) (sym c.told-word)
      ∙ c.divide.ensures j low high;
  long = c.copy_from_slice.ensures.len ∙ length-replicate g.row.ROOTS 0;
}
