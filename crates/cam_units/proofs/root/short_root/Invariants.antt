use Rattle.std.proofs.Common.{◌^◌, ◌≤◌}
use Rattle.cam_units.proofs.NewtonRoots.{IsFromAbove}
use Rattle.cam_units.proofs.root.short_root.Given as goal

abbrev pub invariant-loop-quotient : goal.invariant-loop-quotient
invariant-loop-quotient l = record { from : IsFromAbove l.n l.root l.quotient; short : l.root ≤ 2 ^ 32 }

abbrev pub decreases-loop-quotient : goal.decreases-loop-quotient
decreases-loop-quotient l = l.root
