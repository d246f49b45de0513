use Rattle.std.proofs.Common.{List, IsTrue, ◌↔◌, subst}
use Rattle.std.specs.List.{All}
use Rattle.cam_units.specs.Board.{IsOnBoard}
use Rattle.cam_shapes.specs.declared.segments.Seg.{Seg}
use Rattle.cam_objects.specs.declared.object.Object.TheVariants.{Region}
use Rattle.cam_objects.specs.Soundness.{points_of_seg}
use Rattle.cam_objects.proofs.StandingPoints.{contour_stands, stands_is}
use Rattle.cam_objects.proofs.checks.inside.stands_on_board.Goals as goal

pub returns-then-fits_board-4 : goal.returns-then-fits_board-4
returns-then-fits_board-4 c =
    let contour = c.in-Region.contour in
    stands_is c.args.object.now (Region contour c.in-Region.dark) c.fit_segs.result c.in-Region.is
    (contour_stands contour c.fit_segs.result (c.fits_board-in-Region.ensures.0 c.if-fits_board-4.true)
    (subst (λ (segs : List Seg). IsTrue c.fit_segs.result ↔ All (λ s. All IsOnBoard (points_of_seg s)) segs) c.as_slice.ensures
    c.fit_segs.ensures))
