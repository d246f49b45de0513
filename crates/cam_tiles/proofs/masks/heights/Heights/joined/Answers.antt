use Rattle.std.proofs.Common.{rules}
use Rattle.cam_tiles.proofs.masks.heights.Heights.joined.Goals as goal

pub returns : goal.returns
returns c = search rules
