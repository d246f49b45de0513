-- The arithmetic of macros, in whole numbers of 10^-9 units.
use Rattle.std.specs.Prelude.{ℕ, zero, suc, ◌==◌, nat_lt, if◌then◌else◌, ℤ, pos, negsuc, neg_ℤ, ◌+ℤ◌, ◌-ℤ◌, ◌*ℤ◌}
use Rattle.std.specs.Prelude.{unsigned_abs, List, slice_index_or, Option, Some, None, option_and_then}
use Rattle.cam_units.specs.Nearest.{nearest_of}
use Rattle.cam_macros.specs.declared.expression.Operator.{Operator}
use Rattle.cam_macros.specs.declared.expression.Operator.TheVariants.{Add, Subtract, Multiply, Divide}
use Rattle.cam_macros.specs.Numbers.{billion}
use Rattle.cam_macros.specs.Tree.{Tree, Number, Variable, Negative, Binary}

-- what each variable is worth
abbrev pub Values : Type 0
Values = ℕ → ℤ

-- the parameters of AD are $1, $2 and on, and all else is 0
abbrev pub parameter : List ℤ → ℕ → ℤ
parameter params zero = pos 0
parameter params (suc n) = slice_index_or params n (pos 0)

-- the values once one more is set
abbrev pub setting : Values → ℕ → ℤ → Values
setting values n v m = if m == n then v else values m

-- a value is less than 10^6 units in absolute value
abbrev pub within : ℤ → Option ℤ
within v = if nat_lt (unsigned_abs v) 1000000000000000 then Some v else None

-- the nearest to a quotient in 10^-9 units; none by 0
abbrev pub quotient : ℤ → ℤ → Option ℤ
quotient a (pos zero) = None
quotient a (pos (suc n)) = Some (nearest_of (a *ℤ pos billion) (suc n))
quotient a (negsuc n) = Some (nearest_of (neg_ℤ a *ℤ pos billion) (suc n))

abbrev pub operator_applied : Operator → ℤ → ℤ → Option ℤ
operator_applied Add a b = Some (a +ℤ b)
operator_applied Subtract a b = Some (a -ℤ b)
operator_applied Multiply a b = Some (nearest_of (a *ℤ b) billion)
operator_applied Divide a b = quotient a b

-- the value of an expression, if each node has one
abbrev pub tree_value : Values → Tree → Option ℤ
tree_value values (Number n) = within (pos n)
tree_value values (Variable n) = within (values n)
tree_value values (Negative t) = option_and_then (λ v. within (neg_ℤ v)) (tree_value values t)
tree_value values (Binary o a b) =
    option_and_then (λ x. option_and_then (λ y. option_and_then within (operator_applied o x y)) (tree_value values b))
    (tree_value values a)
