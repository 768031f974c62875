use Rattle.poly256.proofs.ListSums.{sum_comm, sum_assoc, sum-empty_right}
use Rattle.poly256.proofs.ListProducts.{product-single, product-shifted_left, product-empty_right, product-one, product_comm, product_assoc, product-sum_left}
use Rattle.poly256.proofs.Trims.{sum-self}
use Rattle.poly256.proofs.laws.ring_laws.Goals as goal

pub returns : goal.returns
returns c = let F = c.field_laws.ensures in record {
  sum_comm = sum_comm;
  sum_assoc = sum_assoc;
  sum_zero = sum-empty_right;
  sum_self = sum-self;
  product_comm = product_comm F;
  product_assoc = product_assoc F;
  product_zero = product-empty_right;
  product_one = product-one F;
  product_constant = product-single;
  product_shifted = product-shifted_left F;
  distributive = product-sum_left F;
}
