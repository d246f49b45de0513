use Rattle.std.proofs.Common.{rules}
use Rattle.cam_tiles.proofs.masks.heights.Heights.are_apart.Goals as goal

pub returns-else-self-others : goal.returns-else-self-others
returns-else-self-others c = search rules

pub returns-then-self-others : goal.returns-then-self-others
returns-then-self-others c = search rules
