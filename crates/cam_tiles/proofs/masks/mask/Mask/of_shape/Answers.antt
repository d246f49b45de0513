use Rattle.std.proofs.Common.{arith, rules}
use Rattle.cam_objects.specs.Image.{relative}
use Rattle.cam_tiles.specs.Machinery.Plain.{IsInShape}
use Rattle.cam_tiles.proofs.ShapeRows.{all_shown, next_shown, none_shown}
use Rattle.cam_tiles.proofs.masks.mask.Mask.of_shape.Goals as goal

pub loop-row-init : goal.loop-row-init
loop-row-init c = grind (arith, none_shown)

pub loop-row-preserved : goal.loop-row-preserved
loop-row-preserved c = record {
  rows = next_shown c.args.grid (λ s. IsInShape c.args.shape.now (relative c.args.at s)) _ c.loop-row.row c.row.result
      c.loop-row.invariant.rows c.loop-row-test.true (search rules)
      (λ i near. rw (← c.row_from.ensures.count, ← c.row_from.ensures.centres i) (c.row.ensures i near));
  bounds = c.loop-row.invariant.bounds;
}

pub returns : goal.returns
returns c = grind (arith, all_shown)
