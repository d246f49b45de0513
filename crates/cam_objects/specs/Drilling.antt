-- Leaves of drill layers: holes and slots (XNC Format Specification, "Drilling" and "Routing").
use Rattle.std.specs.Prelude.{ℕ, nat_eq, true, List, [], ◌∷◌, Option, None, Some}
use Rattle.std.specs.List.{flat_map}
use Rattle.std.specs.Map.{lookup}
use Rattle.cam_units.specs.declared.length.Nm.{Nm}
use Rattle.cam_units.specs.declared.point.Point.{Point}
use Rattle.cam_objects.specs.declared.drill_item.DrillItem.{DrillItem}
use Rattle.cam_objects.specs.declared.drill_item.DrillItem.TheVariants.{Hit, Rout}
use Rattle.cam_objects.specs.Leaves.{Leaf, leaf, Stroke, Drilled}

-- the diameter of a tool
abbrev pub diameter_of : List (ℕ × Nm) → ℕ → Option Nm
diameter_of tools tool = lookup (nat_eq tool) tools

abbrev pub hole : Nm → Point → Leaf
hole diameter at = leaf (Drilled (record { centre = at; diameter = diameter })) true

-- the slots from each point to the next
abbrev pub slots_from : Nm → Point → List Point → List Leaf
slots_from diameter here [] = []
slots_from diameter here (p ∷ ps) =
    leaf (Stroke (record { from = here; to = p; width = diameter })) true ∷ slots_from diameter p ps

-- a rout of one point is a hole
abbrev pub rout_leaves : Nm → List Point → List Leaf
rout_leaves diameter [] = []
rout_leaves diameter (p ∷ []) = hole diameter p ∷ []
rout_leaves diameter (p ∷ q ∷ ps) = slots_from diameter p (q ∷ ps)

abbrev pub hit_leaves_with : Option Nm → Point → List Leaf
hit_leaves_with None at = []
hit_leaves_with (Some diameter) at = hole diameter at ∷ []

abbrev pub rout_leaves_with : Option Nm → List Point → List Leaf
rout_leaves_with None points = []
rout_leaves_with (Some diameter) points = rout_leaves diameter points

-- what an item drills or routs with a tool of that diameter, if there is one
abbrev pub leaves_with : Option Nm → DrillItem → List Leaf
leaves_with diameter (Hit tool at) = hit_leaves_with diameter at
leaves_with diameter (Rout tool points) = rout_leaves_with diameter points

module _ (tools : List (ℕ × Nm)) where
  abbrev pub drill_item_leaves : DrillItem → List Leaf
  drill_item_leaves (Hit tool at) = hit_leaves_with (diameter_of tools tool) at
  drill_item_leaves (Rout tool points) = rout_leaves_with (diameter_of tools tool) points

  -- all dark, in order
  abbrev pub drill_leaves : List DrillItem → List Leaf
  drill_leaves items = flat_map drill_item_leaves items
