use Rattle.std.proofs.Common.{Bool, Option, subst}
use Rattle.cam_units.specs.Boxes.{Holds}
use Rattle.cam_units.specs.declared.point.Spot.{Spot}
use Rattle.cam_objects.proofs.image.PixelCanvas.is_decided_in.Goals as goal

pub returns-else-not-has_place : goal.returns-else-not-has_place
returns-else-not-has_place c = (
  (λ told column row has holds. c.is_decided.ensures.0 told),
  (λ all. c.is_decided.ensures.1 (all 0 0 (record {})
      (subst (λ (p : Spot × Option Bool). Holds c.args.bounds p.0) c.self.view_is (c.has_place.ensures.0 c.if-not-has_place.false)))),
)
