use Rattle.std.proofs.Common.{◌≡◌, take}
use Rattle.std.specs.Prelude.{fold}
use Rattle.cam_units.specs.Board.{IsOnBoard}
use Rattle.cam_objects.specs.Machinery.Tracing.{followed, started}
use Rattle.cam_objects.proofs.boxes.shapes.contour_bounds.Given as goal

-- the segments so far were followed
abbrev pub invariant-loop-seg : goal.invariant-loop-seg
invariant-loop-seg l = record {
  here : IsOnBoard l.trace.here;
  trace : l.trace ≡ fold followed (started l.fn.contour) (take l.seg-index l.seg-items);
}
