use Rattle.cam_objects.specs.Cells.{AreFirstCopiesOf}
use Rattle.cam_objects.proofs.layer.Layer.first_copies.Given as goal

abbrev pub invariant-loop-place : goal.invariant-loop-place
invariant-loop-place l = AreFirstCopiesOf l.self.apertures l.self.items.items l.found.items
