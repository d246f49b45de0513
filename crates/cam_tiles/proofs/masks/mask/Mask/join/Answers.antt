use Rattle.std.proofs.Common.{rules, ◌∙◌}
use Rattle.cam_tiles.proofs.TurnedMasks.{marks_joined}
use Rattle.cam_tiles.proofs.masks.mask.Mask.join.Goals as goal

pub merge-requires : goal.merge-requires
merge-requires c = c.of_shape-marks.ensures.grid ∙ c.grid.ensures.value

pub returns : goal.returns
returns c = search (rules, marks_joined)
