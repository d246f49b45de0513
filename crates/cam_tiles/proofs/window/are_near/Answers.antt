use Rattle.std.proofs.Common.{rules}
use Rattle.cam_tiles.proofs.window.are_near.Goals as goal

pub returns : goal.returns
returns c = search rules
