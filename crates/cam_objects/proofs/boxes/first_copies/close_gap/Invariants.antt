use Rattle.std.proofs.Common.{◌≡◌, ◌++◌, map, take, drop}
use Rattle.cam_objects.specs.Machinery.FirstCopies.{once_gone}
use Rattle.cam_objects.proofs.boxes.first_copies.close_gap.Given as goal

abbrev pub invariant-loop-first : goal.invariant-loop-first
invariant-loop-first l =
    l.first-items ≡ map (once_gone l.place) (take l.first-index l.fn.found.items) ++ drop l.first-index l.fn.found.items
