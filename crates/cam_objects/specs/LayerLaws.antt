-- Layers stay sound as they are edited.
use Rattle.std.specs.Prelude.{◌≡◌, ℕ, ◌<◌, nat_eq, List, [], ◌∷◌, ◌++◌, length, slice_set, None, Some, IsSome, All}
use Rattle.std.specs.Map.{set_value}
use Rattle.cam_units.specs.Board.{IsOnBoard}
use Rattle.cam_units.specs.declared.length.Nm.{Nm}
use Rattle.cam_units.specs.declared.point.Point.{Point}
use Rattle.cam_objects.specs.declared.attribute.Attribute.{Attribute}
use Rattle.cam_objects.specs.declared.drill_item.DrillItem.{DrillItem}
use Rattle.cam_objects.specs.declared.entry.Entry.{Entry}
use Rattle.cam_objects.specs.declared.item.Item.{Item}
use Rattle.cam_objects.specs.Attributes.{AreAttributes, IsAttribute, MaySet, attribute_place, with_attribute}
use Rattle.cam_objects.specs.Drilling.{diameter_of}
use Rattle.cam_objects.specs.DrillSoundness.{IsSoundDrillContent, IsSoundDrillItem, IsSoundTool, KeepsDrillLimits, drill_points_of}
use Rattle.cam_objects.specs.Leaves.{leaves_of}
use Rattle.cam_refusals.specs.Limits.{attribute_limit}
use Rattle.cam_objects.specs.Shifting.{shifted_drill_item, shifted_item}
use Rattle.cam_objects.specs.Soundness.{IsInside, IsSoundContent, IsSoundItem, KeepsLimits, MayAddEntry}

-- with one entry more a layer stays sound and paints what it painted; it stays sound with one sound item more, at any
-- place, where the limits leave room for it, without an item, with an item moved that stays on the board, with another
-- sound item in the place of one, where the limits are kept, and with an item taken to another place
pub record LayerEditLaw : Type 0 where
  pub add_entry : (es : List (ℕ × Entry)) (items : List Item) (n : ℕ) (entry : Entry) → IsSoundContent es items
      → MayAddEntry es n entry → IsSoundContent (es ++ (n, entry) ∷ []) items
  pub keep_leaves : (es : List (ℕ × Entry)) (items : List Item) (n : ℕ) (entry : Entry) → IsSoundContent es items
      → MayAddEntry es n entry → leaves_of (es ++ (n, entry) ∷ []) items ≡ leaves_of es items
  pub push : (es : List (ℕ × Entry)) (items : List Item) (item : Item) → IsSoundContent es items → IsSoundItem es item
      → KeepsLimits es (items ++ item ∷ []) → IsSoundContent es (items ++ item ∷ [])
  pub insert : (es : List (ℕ × Entry)) (before after : List Item) (item : Item)
      → IsSoundContent es (before ++ after) → IsSoundItem es item
      → KeepsLimits es ((before ++ after) ++ item ∷ []) → IsSoundContent es (before ++ item ∷ after)
  pub remove : (es : List (ℕ × Entry)) (before after : List Item) (item : Item)
      → IsSoundContent es (before ++ item ∷ after) → IsSoundContent es (before ++ after)
  pub move : (es : List (ℕ × Entry)) (before after : List Item) (item : Item) (by : Point)
      → IsSoundContent es (before ++ item ∷ after) → IsInside es (shifted_item by item)
      → IsSoundContent es (before ++ shifted_item by item ∷ after)
  pub replace : (es : List (ℕ × Entry)) (before after : List Item) (item new : Item)
      → IsSoundContent es (before ++ item ∷ after) → IsSoundItem es new
      → KeepsLimits es (before ++ new ∷ after) → IsSoundContent es (before ++ new ∷ after)
  pub reorder : (es : List (ℕ × Entry)) (before after before' after' : List Item) (item : Item)
      → IsSoundContent es (before ++ item ∷ after) → before' ++ after' ≡ before ++ after
      → IsSoundContent es (before' ++ item ∷ after')

-- no attributes are sound, and attributes stay so with one that may be set, with one of a new name put at any place where
-- there are fewer than the limit, without one, and with other fields of one
pub record AttributeEditLaw : Type 0 where
  pub none : AreAttributes []
  pub set : (xs : List Attribute) (a : Attribute) → AreAttributes xs → MaySet xs a → AreAttributes (with_attribute a xs)
  pub insert : (before after : List Attribute) (a : Attribute) → AreAttributes (before ++ after) → IsAttribute a
      → attribute_place a.name (before ++ after) ≡ None → length (before ++ after) < attribute_limit
      → AreAttributes (before ++ a ∷ after)
  pub remove : (before after : List Attribute) (a : Attribute)
      → AreAttributes (before ++ a ∷ after) → AreAttributes (before ++ after)
  pub refill : (before after : List Attribute) (a new : Attribute) → AreAttributes (before ++ a ∷ after)
      → IsAttribute new → new.name ≡ a.name → AreAttributes (before ++ new ∷ after)

-- a name that is there keeps its place, and another goes last
pub record SettingLaw : Type 0 where
  pub keep : (xs : List Attribute) (a : Attribute) (k : ℕ) → attribute_place a.name xs ≡ Some k
      → with_attribute a xs ≡ slice_set xs k a
  pub add : (xs : List Attribute) (a : Attribute) → attribute_place a.name xs ≡ None → with_attribute a xs ≡ xs ++ a ∷ []

-- the same of the items of a drill layer, and it stays sound with another diameter of a tool
pub record DrillEditLaw : Type 0 where
  pub insert : (ts : List (ℕ × Nm)) (before after : List DrillItem) (item : DrillItem)
      → IsSoundDrillContent ts (before ++ after) → IsSoundDrillItem ts item
      → KeepsDrillLimits ((before ++ after) ++ item ∷ []) → IsSoundDrillContent ts (before ++ item ∷ after)
  pub remove : (ts : List (ℕ × Nm)) (before after : List DrillItem) (item : DrillItem)
      → IsSoundDrillContent ts (before ++ item ∷ after) → IsSoundDrillContent ts (before ++ after)
  pub move : (ts : List (ℕ × Nm)) (before after : List DrillItem) (item : DrillItem) (by : Point)
      → IsSoundDrillContent ts (before ++ item ∷ after) → All IsOnBoard (drill_points_of (shifted_drill_item by item))
      → IsSoundDrillContent ts (before ++ shifted_drill_item by item ∷ after)
  pub replace : (ts : List (ℕ × Nm)) (before after : List DrillItem) (item new : DrillItem)
      → IsSoundDrillContent ts (before ++ item ∷ after) → IsSoundDrillItem ts new
      → KeepsDrillLimits (before ++ new ∷ after) → IsSoundDrillContent ts (before ++ new ∷ after)
  pub reorder : (ts : List (ℕ × Nm)) (before after before' after' : List DrillItem) (item : DrillItem)
      → IsSoundDrillContent ts (before ++ item ∷ after) → before' ++ after' ≡ before ++ after
      → IsSoundDrillContent ts (before' ++ item ∷ after')
  pub diameter : (ts : List (ℕ × Nm)) (items : List DrillItem) (t : ℕ) (d : Nm) → IsSoundDrillContent ts items
      → IsSome (diameter_of ts t) → IsSoundTool t d → IsSoundDrillContent (set_value (nat_eq t) ts d) items
