-- The boxes of what an edit touches: of its item before and after it, of a diameter those of every item of the tool. An
-- edit of attributes has no item, and so no box.
use Rattle.std.specs.Prelude.{ℕ, ◌==◌, List, [], ◌∷◌, ◌++◌, Option, None, Some, filter, slice_get}
use Rattle.std.specs.List.{flat_map}
use Rattle.std.specs.Option.{option_map}
use Rattle.cam_units.specs.declared.bounds.Bounds.{Bounds}
use Rattle.cam_units.specs.declared.length.Nm.{Nm}
use Rattle.cam_objects.specs.Bounds.{bounds_of}
use Rattle.cam_objects.specs.Contents.{Content as GerberContent, DrillContent}
use Rattle.cam_objects.specs.Drilling.{drill_item_leaves}
use Rattle.cam_objects.specs.DrillSoundness.{tool_of}
use Rattle.cam_objects.specs.Leaves.{item_leaves, meaning_in}
use Rattle.cam_objects.specs.Shifting.{shifted_drill_item, shifted_item}
use Rattle.cam_objects.specs.declared.drill_item.DrillItem.{DrillItem}
use Rattle.cam_objects.specs.declared.entry.Entry.{Entry}
use Rattle.cam_objects.specs.declared.item.Item.{Item}
use Rattle.cam_edits.specs.declared.drill_step.DrillStep.{DrillStep}
use Rattle.cam_edits.specs.declared.drill_step.DrillStep.TheVariants as drill_steps
use Rattle.cam_edits.specs.declared.step.Step.{Step}
use Rattle.cam_edits.specs.declared.step.Step.TheVariants as steps
use Rattle.cam_edits.specs.DrillSteps.{tools_after, with_tool}
use Rattle.cam_edits.specs.Moving.{way}
use Rattle.cam_edits.specs.Steps.{with_aperture, with_object, with_polarity}

-- the boxes of those that are there
abbrev pub box_if_there : {X : Type 0} → (X → Bounds) → Option X → List Bounds
box_if_there box None = []
box_if_there box (Some x) = box x ∷ []

-- ---- a Gerber layer

abbrev pub item_box : List (ℕ × Entry) → Item → Bounds
item_box entries item = bounds_of (item_leaves (meaning_in entries) item)

-- the item before the step
abbrev pub item_before : Step → List Item → Option Item
item_before (steps.Delete k) items = slice_get items k
item_before (steps.Move k dx dy) items = slice_get items k
item_before (steps.Reorder k m) items = slice_get items k
item_before (steps.Aperture k n) items = slice_get items k
item_before (steps.Polarity k dark) items = slice_get items k
item_before _ items = None

-- and after it
abbrev pub item_after : Step → List Item → Option Item
item_after (steps.Insert k item) items = Some item
item_after (steps.Move k dx dy) items = option_map (shifted_item (way dx dy)) (slice_get items k)
item_after (steps.Reorder k m) items = slice_get items k
item_after (steps.Aperture k n) items = option_map (with_object (with_aperture n)) (slice_get items k)
item_after (steps.Polarity k dark) items = option_map (with_object (with_polarity dark)) (slice_get items k)
item_after _ items = None

unfoldable pub touched : Step → GerberContent → List Bounds
touched step c =
    box_if_there (item_box c.entries) (item_before step c.items)
    ++ box_if_there (item_box c.entries) (item_after step c.items)

-- ---- a drill layer

abbrev pub drill_box : List (ℕ × Nm) → DrillItem → Bounds
drill_box tools item = bounds_of (drill_item_leaves tools item)

-- the item that a step changes, before it
abbrev pub drill_item_before : DrillStep → List DrillItem → Option DrillItem
drill_item_before (drill_steps.Delete k) items = slice_get items k
drill_item_before (drill_steps.Move k dx dy) items = slice_get items k
drill_item_before (drill_steps.Reorder k m) items = slice_get items k
drill_item_before (drill_steps.Tool k t) items = slice_get items k
drill_item_before _ items = None

abbrev pub drill_item_after : DrillStep → List DrillItem → Option DrillItem
drill_item_after (drill_steps.Insert k item) items = Some item
drill_item_after (drill_steps.Move k dx dy) items = option_map (shifted_drill_item (way dx dy)) (slice_get items k)
drill_item_after (drill_steps.Reorder k m) items = slice_get items k
drill_item_after (drill_steps.Tool k t) items = option_map (with_tool t) (slice_get items k)
drill_item_after _ items = None

-- the items of the tool whose diameter a step changes
abbrev pub items_of_tool : DrillStep → List DrillItem → List DrillItem
items_of_tool (drill_steps.Diameter t d) items = filter (λ item. tool_of item == t) items
items_of_tool _ items = []

unfoldable pub drill_touched : DrillStep → DrillContent → List Bounds
drill_touched step c =
    box_if_there (drill_box c.tools) (drill_item_before step c.items)
    ++ box_if_there (drill_box c.tools) (drill_item_after step c.items)
    ++ flat_map (λ item. drill_box c.tools item ∷ drill_box (tools_after step c.tools) item ∷ [])
    (items_of_tool step c.items)
