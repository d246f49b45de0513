-- The slots of a rout that is painted point by point.
use Rattle.std.specs.Prelude.{List, [], ◌∷◌}
use Rattle.cam_units.specs.declared.length.Nm.{Nm}
use Rattle.cam_units.specs.declared.point.Point.{Point}
use Rattle.cam_objects.specs.Drilling.{slots_from}
use Rattle.cam_objects.specs.Leaves.{Leaf}

-- the slots from the first point on
abbrev pub slots_of : Nm → List Point → List Leaf
slots_of diameter [] = []
slots_of diameter (p ∷ ps) = slots_from diameter p ps
