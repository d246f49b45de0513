use Rattle.std.proofs.Common.{List, sym, subst}
use Rattle.cam_objects.specs.declared.object.Object.{Object}
use Rattle.cam_objects.specs.Machinery.ObjectCells.{AreMeasurable}
use Rattle.cam_objects.specs.Soundness.{IsSoundBlock, IsSoundEntry}
use Rattle.cam_objects.proofs.KeptFacts.{board_block}
use Rattle.cam_objects.proofs.SoundLayers.{painted_block}
use Rattle.cam_objects.proofs.boxes.object_boxes.entry_cells.Goals as goal

pub object_cells-requires : goal.object_cells-requires
object_cells-requires c =
    let es = c.args.entries.now in
    let block : IsSoundBlock es c.in-Block.objects = subst (IsSoundEntry es) c.in-Block.is c.requires in
    subst (λ (os : List Object). AreMeasurable es os) (sym c.as_slice.ensures) (record {
      sound = c.soundness.ensures;
      stand = (painted_block es c.in-Block.objects block).stands;
      board = board_block es c.in-Block.objects block;
      few = block.few;
      leaves = block.leaves;
    })
