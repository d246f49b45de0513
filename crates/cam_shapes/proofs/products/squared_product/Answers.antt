use Rattle.std.proofs.Common.{arith}
use Rattle.cam_shapes.proofs.Widths.{kept_long_product, long_product, long_product_fits}
use Rattle.cam_shapes.proofs.products.squared_product.Goals as goal

pub overflow_mul-result : goal.overflow_mul-result
overflow_mul-result c = long_product_fits c.squared.result c.dot.result c.squared.ensures.bound c.dot.ensures.bound

pub returns-clause-value : goal.returns-clause-value
returns-clause-value c = grind (arith, kept_long_product)

pub returns-clause-bound : goal.returns-clause-bound
returns-clause-bound c = grind (arith, kept_long_product, long_product)
