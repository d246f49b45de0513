-- Expressions as trees.
use Rattle.std.specs.Prelude.{ℕ}
use Rattle.cam_macros.specs.declared.expression.Operator.{Operator}

-- a number in 10^-9 units, a variable, a negative, or two operands of an operator
pub data Tree : Type 0 where
  Number : ℕ → Tree
  Variable : ℕ → Tree
  Negative : Tree → Tree
  Binary : Operator → Tree → Tree → Tree
