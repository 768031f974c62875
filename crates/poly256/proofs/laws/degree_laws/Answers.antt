use Rattle.poly256.proofs.ListSums.{coefficient-sum, coefficient-scaled_coefficients, length-sum_at_most, length-sum_left, length-scaled_coefficients}
use Rattle.poly256.proofs.ListProducts.{length-product, coefficient-product, coefficient-product_first}
use Rattle.poly256.proofs.Trims.{length-trimmed_coefficients, trimmed_from_last}
use Rattle.poly256.proofs.Rooms.{coefficient-raised_coefficients, coefficient-raised_below, length-raised_coefficients}
use Rattle.poly256.proofs.Degrees.{last_not_zero, sum_of_lower, product_keeps, one_division}
use Rattle.poly256.proofs.laws.degree_laws.Goals as goal

pub returns : goal.returns
returns c = let F = c.field_laws.ensures in record {
  trimmed_is_no_longer = length-trimmed_coefficients;
  last_not_zero = last_not_zero;
  sum_coefficient = coefficient-sum;
  sum_at_most = length-sum_at_most;
  sum_of_lower = sum_of_lower;
  product_coefficient_first = coefficient-product_first F;
  product_coefficient = coefficient-product F;
  product_length = length-product;
  product_keeps = product_keeps F;
  one_division = one_division F;
  sum_length = length-sum_left;
  scaled_length = length-scaled_coefficients;
  scaled_coefficient = coefficient-scaled_coefficients F;
  raised_length = length-raised_coefficients;
  raised_coefficient = coefficient-raised_coefficients;
  raised_below = coefficient-raised_below;
  trimmed_by_last = trimmed_from_last;
}
