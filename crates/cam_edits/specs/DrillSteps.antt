-- What the steps of a drill layer do to what it lists, and which steps lead back.
use Rattle.std.specs.Prelude.{ℕ, ◌+◌, ◌<◌, ◌≤◌, Bool, true, false, List, length, Option, None, Some}
use Rattle.std.specs.Prelude.{IsSome, count_by, insert, nat_eq, neg_ℤ, remove, slice_get, vec_capacity}
use Rattle.std.specs.Map.{set_value}
use Rattle.cam_units.specs.declared.length.Nm.{Nm}
use Rattle.cam_shapes.specs.Shifting.{IsShiftable}
use Rattle.cam_objects.specs.Contents.{DrillContent}
use Rattle.cam_objects.specs.Drilling.{diameter_of}
use Rattle.cam_objects.specs.DrillSoundness.{IsSoundDrillContent, tool_of}
use Rattle.cam_objects.specs.Shifting.{shifted_drill_item}
use Rattle.cam_objects.specs.declared.drill_item.DrillItem.{DrillItem}
use Rattle.cam_objects.specs.declared.drill_item.DrillItem.TheVariants.{Hit, Rout}
use Rattle.cam_objects.specs.declared.drill_layer.DrillLayer.{DrillLayer}
use Rattle.cam_edits.specs.declared.drill_step.DrillStep.{DrillStep}
use Rattle.cam_edits.specs.declared.drill_step.DrillStep.TheVariants.{Insert, Delete, Move, Reorder, Tool, Diameter}
use Rattle.cam_edits.specs.Moving.{IsMovableDrillItem, way}
use Rattle.cam_edits.specs.Places.{HasAt, changed, reordered}

abbrev pub with_tool : ℕ → DrillItem → DrillItem
with_tool t (Hit _ at) = Hit t at
with_tool t (Rout _ points) = Rout t points

abbrev pub drill_items_after : DrillStep → List DrillItem → List DrillItem
drill_items_after (Insert k item) items = insert items k item
drill_items_after (Delete k) items = remove items k
drill_items_after (Move k dx dy) items = changed (shifted_drill_item (way dx dy)) items k
drill_items_after (Reorder k m) items = reordered items k m
drill_items_after (Tool k t) items = changed (with_tool t) items k
drill_items_after (Diameter t d) items = items

-- a diameter changes in the tool's place in the list
abbrev pub tools_after : DrillStep → List (ℕ × Nm) → List (ℕ × Nm)
tools_after (Diameter t d) tools = set_value (nat_eq t) tools d
tools_after _ tools = tools

abbrev pub after_drill_step : DrillStep → DrillContent → DrillContent
after_drill_step step c = record { tools = tools_after step c.tools; items = drill_items_after step c.items }

-- the step that leads back, by the item at the place and by the diameter of the tool before the step
abbrev pub insertion_of : ℕ → Option DrillItem → DrillStep
insertion_of k None = Delete k
insertion_of k (Some item) = Insert k item

abbrev pub tool_before : ℕ → ℕ → Option DrillItem → DrillStep
tool_before k t None = Tool k t
tool_before k t (Some item) = Tool k (tool_of item)

abbrev pub diameter_before : ℕ → Nm → Option Nm → DrillStep
diameter_before t d None = Diameter t d
diameter_before t d (Some before) = Diameter t before

abbrev pub inverse_drill_step : DrillStep → DrillContent → DrillStep
inverse_drill_step (Insert k item) c = Delete k
inverse_drill_step (Delete k) c = insertion_of k (slice_get c.items k)
inverse_drill_step (Move k dx dy) c = Move k (neg_ℤ dx) (neg_ℤ dy)
inverse_drill_step (Reorder k m) c = Reorder m k
inverse_drill_step (Tool k t) c = tool_before k t (slice_get c.items k)
inverse_drill_step (Diameter t d) c = diameter_before t d (diameter_of c.tools t)

abbrev pub IsDrillFit : DrillStep → DrillContent → Type 0
IsDrillFit (Insert k item) c = k ≤ length c.items
IsDrillFit (Delete k) c = k < length c.items
IsDrillFit (Move k dx dy) c = IsShiftable (way dx dy) × HasAt (IsMovableDrillItem (way dx dy)) c.items k
IsDrillFit (Reorder k m) c = (k < length c.items) × (m < length c.items)
IsDrillFit (Tool k t) c = k < length c.items
IsDrillFit (Diameter t d) c = IsSome (diameter_of c.tools t)

-- it fits, and leads from sound tools and items to sound ones
pub record IsSoundDrillStep (step : DrillStep) (c : DrillContent) : Type 0 where
  pub fits : IsDrillFit step c
  pub before : IsSoundDrillContent c.tools c.items
  pub after : IsSoundDrillContent (tools_after step c.tools) (drill_items_after step c.items)

abbrev pub is_drill_insertion : DrillStep → Bool
is_drill_insertion (Insert k item) = true
is_drill_insertion _ = false

-- there is a place for each item that the steps of the group insert
abbrev pub HasDrillRoom : List DrillStep → DrillLayer → Type 0
HasDrillRoom group layer = length layer.items.items + count_by is_drill_insertion group ≤ vec_capacity layer.items
