use Rattle.std.proofs.Common.{rules, ap, ◌∙◌}
use Rattle.cam_objects.specs.Bounds.{moved}
use Rattle.cam_objects.proofs.BoardBoxes.{through}
use Rattle.cam_objects.proofs.MovedBoxes.{board_moved, near_points, told_at}
use Rattle.cam_objects.proofs.checks.moving.can_move_points.Goals as goal

pub moved-requires-clause-bounds : goal.moved-requires-clause-bounds
moved-requires-clause-bounds c = search (rules, near_points)

pub returns : goal.returns
returns c =
    through (told_at c.fits_box.result c.moved.result (moved c.args.by.now _)
    (c.moved.ensures ∙ ap (moved c.args.by.now) c.joined_points-bounds.ensures) c.fits_box.ensures)
    (board_moved c.args.by.now c.args.points.now)
