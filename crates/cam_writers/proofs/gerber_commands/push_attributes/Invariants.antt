use Rattle.std.proofs.Common.{◌≡◌, ◌++◌, take}
use Rattle.cam_writers.specs.Machinery.Tracking.{attribute_lines}
use Rattle.cam_writers.proofs.gerber_commands.push_attributes.Given as goal

abbrev pub invariant-loop-attribute : goal.invariant-loop-attribute
invariant-loop-attribute l = l.text.items ≡ l.fn.text.items ++ attribute_lines (take l.attribute-index l.attributes)
