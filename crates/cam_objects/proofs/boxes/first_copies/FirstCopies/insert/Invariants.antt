use Rattle.std.proofs.Common.{◌≡◌, ◌++◌, map, take, drop}
use Rattle.cam_objects.specs.Machinery.FirstCopies.{once_come}
use Rattle.cam_objects.proofs.boxes.first_copies.FirstCopies.insert.Given as goal

abbrev pub invariant-loop-first : goal.invariant-loop-first
invariant-loop-first l =
    l.first-items ≡ map (once_come l.place) (take l.first-index l.fn.self) ++ drop l.first-index l.fn.self
