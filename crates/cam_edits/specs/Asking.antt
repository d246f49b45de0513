-- What a sheet lists: its items with what each paints and their boxes, its definitions and its attributes.
use Rattle.std.specs.Prelude.{ℕ, List, [], Option, option_map, slice_get}
use Rattle.cam_units.specs.declared.bounds.Bounds.{Bounds}
use Rattle.cam_units.specs.declared.length.Nm.{Nm}
use Rattle.cam_objects.specs.declared.attribute.Attribute.{Attribute}
use Rattle.cam_objects.specs.declared.entry.Entry.{Entry}
use Rattle.cam_objects.specs.Cells.{drill_item_boxes, item_boxes}
use Rattle.cam_objects.specs.Leaves.{Leaf}
use Rattle.cam_objects.specs.Topmost.{drill_item_lists, item_lists}
use Rattle.cam_edits.specs.declared.edit.NewItem.{NewItem}
use Rattle.cam_edits.specs.declared.edit.NewItem.TheVariants as items
use Rattle.cam_edits.specs.declared.listed.ListedEntry.{ListedEntry}
use Rattle.cam_edits.specs.declared.listed.ListedEntry.TheVariants as entries
use Rattle.cam_edits.specs.declared.listed.ListedItem.{ListedItem}
use Rattle.cam_edits.specs.declared.listed.ListedItem.TheVariants as listed
use Rattle.cam_edits.specs.Sheets.{Content, Gerber, Drill}

-- what each item paints
abbrev pub sheet_lists : Content → List (List Leaf)
sheet_lists (Gerber c) = item_lists c.entries c.items
sheet_lists (Drill c) = drill_item_lists c.tools c.items

-- the box of what each item paints
abbrev pub sheet_boxes : Content → List Bounds
sheet_boxes (Gerber c) = item_boxes c.entries c.items
sheet_boxes (Drill c) = drill_item_boxes c.tools c.items

-- the item at a place of the list, counted from 0
abbrev pub item_at : Content → ℕ → Option NewItem
item_at (Gerber c) k = option_map items.Gerber (slice_get c.items k)
item_at (Drill c) k = option_map items.Drill (slice_get c.items k)

-- a number with the aperture or the block that it stands for, or a tool with its diameter
pub data Definition : Type 0 where
  Numbered : ℕ → Entry → Definition
  Sized : ℕ → Nm → Definition

-- the definition at a place of the order, counted from 0
abbrev pub definition_at : Content → ℕ → Option Definition
definition_at (Gerber c) i = option_map (λ (e : ℕ × Entry). Numbered e.0 e.1) (slice_get c.entries i)
definition_at (Drill c) i = option_map (λ (t : ℕ × Nm). Sized t.0 t.1) (slice_get c.tools i)

-- a drill layer has no attributes
abbrev pub attributes_of : Content → List Attribute
attributes_of (Gerber c) = c.attributes
attributes_of (Drill c) = []

-- ---- what is handed out

abbrev pub item_of : ListedItem → NewItem
item_of (listed.Gerber item) = items.Gerber item.now
item_of (listed.Drill item) = items.Drill item.now

abbrev pub definition_of : ListedEntry → Definition
definition_of (entries.Numbered number entry) = Numbered number entry.now
definition_of (entries.Sized tool diameter) = Sized tool diameter
