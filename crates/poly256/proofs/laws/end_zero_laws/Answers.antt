use Rattle.poly256.proofs.Trims.{trimmed_coefficients-trimmed_coefficients, coefficient-trimmed_coefficients, trimmed_from_same, trimmed_coefficients-sum, trimmed_coefficients-product}
use Rattle.poly256.proofs.Values.{value-trimmed_coefficients}
use Rattle.poly256.proofs.laws.end_zero_laws.Goals as goal

pub returns : goal.returns
returns c = let F = c.field_laws.ensures in record {
  trimmed_twice = trimmed_coefficients-trimmed_coefficients;
  coefficients = coefficient-trimmed_coefficients;
  by_coefficients = trimmed_from_same;
  sums = trimmed_coefficients-sum;
  products = trimmed_coefficients-product F;
  values = value-trimmed_coefficients F;
}
