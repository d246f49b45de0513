use Rattle.std.proofs.Common.{map, sym, subst, arith}
use Rattle.cam_units.specs.declared.bounds.Bounds.{Bounds}
use Rattle.cam_units.specs.Boxes.{Holds}
use Rattle.cam_apertures.specs.Turned.{turned_prim}
use Rattle.cam_apertures.proofs.Painting.{not_false}
use Rattle.cam_apertures.proofs.ShapeBoxes.{painted_box}
use Rattle.cam_apertures.proofs.primitives.Primitives.covers.Goals as goal

pub returns-then-not-has_place : goal.returns-then-not-has_place
returns-then-not-has_place c = (
  (λ f. absurd cc),
  (λ h. absurd (not_false c.has_place.result c.if-not-has_place.true c.has_place.ensures
      (subst (λ (b : Bounds). Holds b c.args.spot) (sym c.bounds.ensures) (painted_box (map (turned_prim c.args.turn) c.args.self.now) c.args.spot h)))),
)

pub is_painted-requires-clause-prims : goal.is_painted-requires-clause-prims
is_painted-requires-clause-prims c = grind (arith)

pub returns : goal.returns
returns c = grind (arith)
