-- What layers list: the file attributes of a layer, its dictionary and its items, the tools of a drill layer and its items,
-- in order, without the room that is kept for more.
use Rattle.std.specs.Prelude.{ℕ, List}
use Rattle.cam_units.specs.declared.length.Nm.{Nm}
use Rattle.cam_objects.specs.declared.attribute.Attribute.{Attribute}
use Rattle.cam_objects.specs.declared.drill_item.DrillItem.{DrillItem}
use Rattle.cam_objects.specs.declared.drill_layer.DrillLayer.{DrillLayer}
use Rattle.cam_objects.specs.declared.entry.Entry.{Entry}
use Rattle.cam_objects.specs.declared.item.Item.{Item}
use Rattle.cam_objects.specs.declared.layer.Layer.{Layer}
use Rattle.cam_objects.specs.Drilling.{drill_leaves}
use Rattle.cam_objects.specs.Leaves.{Leaf, leaves_of}

pub record Content : Type 0 where
  pub attributes : List Attribute
  pub entries : List (ℕ × Entry)
  pub items : List Item

abbrev pub content_of : Layer → Content
content_of layer =
    record { attributes = layer.attributes.items; entries = layer.apertures; items = layer.items.items }

-- what it paints
abbrev pub content_leaves : Content → List Leaf
content_leaves c = leaves_of c.entries c.items

pub record DrillContent : Type 0 where
  pub tools : List (ℕ × Nm)
  pub items : List DrillItem

abbrev pub drill_content_of : DrillLayer → DrillContent
drill_content_of layer = record { tools = layer.tools; items = layer.items.items }

-- what it drills and routs
abbrev pub drill_content_leaves : DrillContent → List Leaf
drill_content_leaves c = drill_leaves c.tools c.items
