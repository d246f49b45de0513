use Rattle.std.proofs.Common.{◌≡◌, ◌++◌, take}
use Rattle.cam_writers.specs.Machinery.Tracking.{primitive_lines}
use Rattle.cam_writers.proofs.gerber_macros.push_primitives.Given as goal

abbrev pub invariant-loop-place : goal.invariant-loop-place
invariant-loop-place l = l.text.items ≡ l.fn.text.items ++ primitive_lines (take l.place l.primitives)
