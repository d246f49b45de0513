use Rattle.std.proofs.Common.{◌≡◌, ◌++◌, map, take, drop}
use Rattle.cam_shapes.specs.Shifting.{shifted_seg}
use Rattle.cam_shapes.proofs.segments.shift_segments.Given as goal

abbrev pub invariant-loop-seg : goal.invariant-loop-seg
invariant-loop-seg l = l.seg-items ≡ map (shifted_seg l.by) (take l.seg-index l.fn.segs) ++ drop l.seg-index l.fn.segs
