use Rattle.std.proofs.Common.{arith}
use Rattle.std.proofs.lemmas.Grind.{common_steps}
use Rattle.cam_objects.proofs.boxes.object_boxes.ObjectBoxesBoxedItems.measure_at.Goals as goal

pub offset_bounds-self-inside-place : goal.offset_bounds-self-inside-place
offset_bounds-self-inside-place c = grind (arith, common_steps)

pub returns-clause-leaves : goal.returns-clause-leaves
returns-clause-leaves c = grind (arith, common_steps)

pub returns-clause-reach : goal.returns-clause-reach
returns-clause-reach c = grind (arith, common_steps)

pub object_bounds-requires-clause-stands : goal.object_bounds-requires-clause-stands
object_bounds-requires-clause-stands c = grind (arith, common_steps)

pub bounds-self-inside-place : goal.bounds-self-inside-place
bounds-self-inside-place c = grind (arith, common_steps)
