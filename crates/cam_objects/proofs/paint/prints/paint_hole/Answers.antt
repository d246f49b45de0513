use Rattle.cam_objects.proofs.Canvases.{sound_print}
use Rattle.cam_objects.proofs.paint.prints.paint_hole.Goals as goal

pub paint_leaf-requires : goal.paint_leaf-requires
paint_leaf-requires g c = sound_print _ c.requires c.hole_bounds.ensures
