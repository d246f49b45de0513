use Rattle.std.proofs.Common.{◌+◌, ◌*◌, ◌≤◌, drop, length}
use Rattle.cam_objects.specs.Canvases.{Paints}
use Rattle.cam_objects.specs.Leaves.{block_leaves}
use Rattle.cam_objects.specs.Machinery.Painting.{meaning_before}
use Rattle.cam_objects.proofs.paint.objects.+paint.Given as goal

abbrev pub decreases-paint_flash : goal.decreases-paint_flash
decreases-paint_flash g l = 3 * l.upto

abbrev pub decreases-paint_object : goal.decreases-paint_object
decreases-paint_object g l = 3 * l.upto + 1

abbrev pub decreases-paint_block : goal.decreases-paint_block
decreases-paint_block g l = 3 * l.upto + 2

-- the objects from the end on are painted
abbrev pub invariant-paint_block-loop-end : goal.invariant-paint_block-loop-end
invariant-paint_block-loop-end g l =
    let canvas = g.C.Canvas in record {
      listed : l.end ≤ length l.objects;
      painted : Paints canvas.has canvas.place canvas.ink l.fn.canvas
          (block_leaves (meaning_before l.upto l.entries) l.place (drop l.end l.objects)) l.canvas;
    }

abbrev pub decreases-paint_block-loop-end : goal.decreases-paint_block-loop-end
decreases-paint_block-loop-end g l = l.end
