use Rattle.poly256.proofs.Values.{value-fits, value-empty, value-cons, value-sum, value-scaled_coefficients, value-shifted_coefficients, value-product}
use Rattle.poly256.proofs.laws.value_laws.Goals as goal

pub returns : goal.returns
returns c = let F = c.field_laws.ensures in record {
  fits = value-fits F;
  of_zero = value-empty;
  of_first = value-cons F;
  of_sum = value-sum F;
  of_scaled = value-scaled_coefficients F;
  of_shifted = value-shifted_coefficients F;
  of_product = value-product F;
}
