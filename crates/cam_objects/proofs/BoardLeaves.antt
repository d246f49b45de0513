-- Leaves whose control points have the same box are on the board alike.
use Rattle.std.proofs.Common.{◌≡◌, List, subst}
use Rattle.cam_objects.specs.Leaves.{Leaf}
use Rattle.cam_objects.specs.Machinery.Inside.{IsBoxOnBoard}
use Rattle.cam_objects.specs.Soundness.{AreOnBoard}
use Rattle.cam_objects.proofs.BoardBoxes.{board_leaves}
use Rattle.cam_objects.proofs.PlacedBoxes.{box_of_leaves}
use Rattle.cam_objects.proofs.PlacedShapes.{box_of_points}

pub board_alike : (before after : List Leaf) → box_of_leaves box_of_points before ≡ box_of_leaves box_of_points after
    → AreOnBoard before → AreOnBoard after
board_alike before after same on = (board_leaves after).0 (subst IsBoxOnBoard same ((board_leaves before).1 on))
