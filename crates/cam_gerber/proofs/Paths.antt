-- What a line or an arc may be refused for.
use Rattle.std.proofs.Common.{◌≡◌, Bool, true, false, Some, arith}
use Rattle.std.proofs.lemmas.Bool.{and_parts}
use Rattle.std.proofs.lemmas.Bool.Decides.{Decides-int_eq, nat_tests}
use Rattle.cam_refusals.specs.declared.refusal.Refusal.TheVariants.{OutOfBoard}
use Rattle.cam_refusals.specs.Checks.{first_holding}
use Rattle.cam_units.specs.Board.{IsOnBoard}
use Rattle.cam_units.specs.declared.point.Point.{Point}
use Rattle.cam_gerber.specs.Faults.{is_same_point, path_faults}
use Rattle.cam_objects.specs.Soundness.{is_on_board}

pub same_points : (p q : Point) → is_same_point p q ≡ true → p ≡ q
same_points p q h = grind (arith, and_parts, Decides-int_eq)

pub apart : (p q : Point) → is_on_board p ≡ true → is_on_board q ≡ false → is_same_point p q ≡ false
apart p q h k = grind (arith, same_points)

pub on_board_test : (p : Point) → IsOnBoard p → is_on_board p ≡ true
on_board_test p h = grind (arith, nat_tests, h.x, h.y)

-- a centre outside the board is told where arcs may be plotted
pub centre_outside : (arcs : Bool) (from to centre : Point) → arcs ≡ true → is_on_board from ≡ true → is_on_board centre ≡ false
    → first_holding (path_faults true arcs from to centre) ≡ Some OutOfBoard
centre_outside arcs from to centre a h k = grind (arith, apart)
