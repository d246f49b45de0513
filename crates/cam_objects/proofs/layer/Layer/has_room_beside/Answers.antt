use Rattle.std.proofs.Common.{arith}
use Rattle.std.proofs.lemmas.Grind.{common_steps}
use Rattle.cam_objects.proofs.layer.Layer.has_room_beside.Goals as goal

pub returns-then-len-ge-COUNT_LIMIT : goal.returns-then-len-ge-COUNT_LIMIT
returns-then-len-ge-COUNT_LIMIT c = grind (arith, common_steps)

pub returns : goal.returns
returns c = grind (arith, common_steps)
