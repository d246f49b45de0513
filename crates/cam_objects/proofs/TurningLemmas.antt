-- turns are told apart by their matrices
use Rattle.std.proofs.Common.{arith, ◌≡◌, sym, ap, ◌∙◌}
use Rattle.cam_units.specs.declared.turn.Turn.{Turn}
use Rattle.cam_units.specs.Turns.{matrix_of, product}
use Rattle.cam_objects.specs.Turning.{after, turn_of, AfterLaw}

pub turn_of-matrix_of : (t : Turn) → turn_of (matrix_of t) ≡ t
turn_of-matrix_of t = grind arith

-- the turn with the product's matrix is the one after the other
pub after_from_product : (first next t : Turn) → matrix_of t ≡ product (matrix_of next) (matrix_of first) → t ≡ after first next
unfolding after
after_from_product first next t e = sym (turn_of-matrix_of t) ∙ ap turn_of e

pub matrix_of-after : AfterLaw
unfolding after
matrix_of-after it it' = grind arith
