use Rattle.std.proofs.Common.{◌≡◌, drop}
use Rattle.cam_objects.specs.Soundness.{have_radii}
use Rattle.cam_objects.proofs.checks.demands.curves_have_radii.Given as goal

-- all have radii where those that are left have
abbrev pub invariant-loop-seg : goal.invariant-loop-seg
invariant-loop-seg l =
    have_radii l.here (drop l.seg-index l.segs) ≡ have_radii l.fn.start l.fn.segs
