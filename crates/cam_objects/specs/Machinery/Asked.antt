-- Leaves whose boxes may be joined one after another.
use Rattle.std.specs.Prelude.{List, All}
use Rattle.cam_objects.specs.Bounds.{box_of_shape}
use Rattle.cam_objects.specs.Leaves.{Leaf}
use Rattle.cam_objects.specs.Machinery.Boxes.{IsUncrossed}

abbrev pub AreUncrossed : List Leaf → Type 0
AreUncrossed leaves = All (λ (l : Leaf). IsUncrossed (box_of_shape l.shape)) leaves
