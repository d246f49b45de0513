use Rattle.std.proofs.Common.{subst}
use Rattle.cam_objects.specs.Machinery.Painting.{StandsOnBoard}
use Rattle.cam_objects.proofs.checks.inside.standing_box.Goals as goal

pub contour_box-requires : goal.contour_box-requires
contour_box-requires c = subst StandsOnBoard c.in-Region.is c.requires
