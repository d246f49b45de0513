use Rattle.std.proofs.Common.{rules, ◌∙◌}
use Rattle.cam_tiles.proofs.TurnedMasks.{marks_turned}
use Rattle.cam_tiles.proofs.masks.mask.Mask.turn.Goals as goal

pub turn_by-requires : goal.turn_by-requires
turn_by-requires c = c.of_shape-marks.ensures.grid ∙ c.grid.ensures.value

pub returns : goal.returns
returns c = search (rules, marks_turned)
