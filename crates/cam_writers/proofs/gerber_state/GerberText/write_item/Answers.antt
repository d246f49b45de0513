use Rattle.std.proofs.Common.{[], subst, arith}
use Rattle.std.specs.List.{All}
use Rattle.std.proofs.lemmas.List.Elements.{All-head}
use Rattle.cam_objects.specs.declared.item.Item.{Item}
use Rattle.cam_objects.specs.Soundness.{objects_of}
use Rattle.cam_writers.specs.Machinery.Tracking.{ArePoints}
use Rattle.cam_writers.proofs.gerber_state.GerberText.write_item.Goals as goal

pub write_object-requires : goal.write_object-requires
write_object-requires c =
    All-head ArePoints c.in-One.object [] (subst (λ (x : Item). All ArePoints (objects_of x)) c.in-One.is c.requires)

pub returns-in-One : goal.returns-in-One
returns-in-One c = grind (arith)

pub write_repeat-requires : goal.write_repeat-requires
write_repeat-requires c = grind (arith)
