use Rattle.std.proofs.Common.{arith}
use Rattle.cam_edits.proofs.Rotations.{rotated_down, rotated_up}
use Rattle.cam_edits.proofs.carrying.carry.Goals as goal

pub returns-then-k-m : goal.returns-then-k-m
returns-then-k-m g c = grind (arith, rotated_up)

pub returns-else-k-m : goal.returns-else-k-m
returns-else-k-m g c = grind (arith, rotated_down)
