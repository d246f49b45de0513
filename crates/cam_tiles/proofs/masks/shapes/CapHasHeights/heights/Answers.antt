use Rattle.std.proofs.Common.{rules}
use Rattle.cam_tiles.proofs.ShapeHeights.{in_cap}
use Rattle.cam_tiles.proofs.masks.shapes.CapHasHeights.heights.Goals as goal

pub returns : goal.returns
returns c = search (rules, in_cap)
