-- What the steps of a layer do to what it lists, and which steps lead back.
use Rattle.std.specs.Prelude.{ℕ, ◌+◌, ◌<◌, ◌≤◌, Bool, true, false, List, length, Option}
use Rattle.std.specs.Prelude.{Some, count_by, insert, neg_ℤ, remove, slice_get, vec_capacity}
use Rattle.cam_shapes.specs.Shifting.{IsShiftable}
use Rattle.cam_objects.specs.Attributes.{attribute_of}
use Rattle.cam_objects.specs.Contents.{Content}
use Rattle.cam_objects.specs.Shifting.{shifted_item}
use Rattle.cam_objects.specs.declared.attribute.Attribute.{Attribute}
use Rattle.cam_objects.specs.declared.object.Object.{Object}
use Rattle.cam_objects.specs.declared.object.Object.TheVariants.{Flash, Draw, Arc, Region}
use Rattle.cam_objects.specs.declared.item.Item.{Item}
use Rattle.cam_objects.specs.declared.item.Item.TheVariants.{One, Repeat}
use Rattle.cam_objects.specs.declared.layer.Layer.{Layer}
use Rattle.cam_edits.specs.declared.step.Step.{Step}
use Rattle.cam_edits.specs.declared.step.Step.TheVariants.{Insert, Delete, Move, Reorder, Aperture, Polarity}
use Rattle.cam_edits.specs.declared.step.Step.TheVariants.{PutAttribute, TakeAttribute, SetFields}
use Rattle.cam_edits.specs.Moving.{IsMovableItem, way}
use Rattle.cam_edits.specs.Places.{HasAt, changed, reordered}
use Rattle.cam_edits.specs.Sheets.{IsSoundGerber}

-- a flash, a draw or an arc with another aperture; a region has none
abbrev pub with_aperture : ℕ → Object → Object
with_aperture n (Flash m at t dark) = Flash n at t dark
with_aperture n (Draw m from to t dark) = Draw n from to t dark
with_aperture n (Arc ccw dark m from to centre) = Arc ccw dark n from to centre
with_aperture n (Region contour dark) = Region contour dark

abbrev pub HasAperture : Object → Type 0
HasAperture (Region contour dark) = ⊥
HasAperture _ = Unit {0}

-- the number of its aperture, or 0 where it has none
abbrev pub aperture_of : Object → ℕ
aperture_of (Flash m at t dark) = m
aperture_of (Draw m from to t dark) = m
aperture_of (Arc ccw dark m from to centre) = m
aperture_of _ = 0

abbrev pub with_polarity : Bool → Object → Object
with_polarity dark (Flash m at t _) = Flash m at t dark
with_polarity dark (Draw m from to t _) = Draw m from to t dark
with_polarity dark (Arc ccw _ m from to centre) = Arc ccw dark m from to centre
with_polarity dark (Region contour _) = Region contour dark

abbrev pub polarity_of : Object → Bool
polarity_of (Flash m at t dark) = dark
polarity_of (Draw m from to t dark) = dark
polarity_of (Arc ccw dark m from to centre) = dark
polarity_of (Region contour dark) = dark

-- a repeat has neither aperture nor polarity of its own
abbrev pub with_object : (Object → Object) → Item → Item
with_object f (One object) = One (f object)
with_object f (Repeat columns rows i j objects) = Repeat columns rows i j objects

abbrev pub IsOne : (Object → Type 0) → Item → Type 0
IsOne P (One object) = P object
IsOne P (Repeat columns rows i j objects) = ⊥

abbrev pub items_after : Step → List Item → List Item
items_after (Insert k item) items = insert items k item
items_after (Delete k) items = remove items k
items_after (Move k dx dy) items = changed (shifted_item (way dx dy)) items k
items_after (Reorder k m) items = reordered items k m
items_after (Aperture k n) items = changed (with_object (with_aperture n)) items k
items_after (Polarity k dark) items = changed (with_object (with_polarity dark)) items k
items_after _ items = items

-- a file attribute with other fields
abbrev pub with_fields : List ℕ → Attribute → Attribute
with_fields fields a = attribute_of a.name fields

abbrev pub attributes_after : Step → List Attribute → List Attribute
attributes_after (PutAttribute k a) attributes = insert attributes k a
attributes_after (TakeAttribute k) attributes = remove attributes k
attributes_after (SetFields k fields) attributes = changed (with_fields fields) attributes k
attributes_after _ attributes = attributes

-- the dictionary stays
abbrev pub after_step : Step → Content → Content
after_step step c =
    record { attributes = attributes_after step c.attributes; entries = c.entries; items = items_after step c.items }

-- the step that leads back, by the item and by the attribute that stand at the step's place before it; the step itself
-- where there is none that could
abbrev pub inverse_at : Step → Option Item → Option Attribute → Step
inverse_at (Insert k item) before attribute = Delete k
inverse_at (Delete k) (Some item) attribute = Insert k item
inverse_at (Move k dx dy) before attribute = Move k (neg_ℤ dx) (neg_ℤ dy)
inverse_at (Reorder k m) before attribute = Reorder m k
inverse_at (Aperture k n) (Some (One object)) attribute = Aperture k (aperture_of object)
inverse_at (Polarity k dark) (Some (One object)) attribute = Polarity k (polarity_of object)
inverse_at (PutAttribute k a) before attribute = TakeAttribute k
inverse_at (TakeAttribute k) before (Some attribute) = PutAttribute k attribute
inverse_at (SetFields k fields) before (Some attribute) = SetFields k attribute.fields
inverse_at step before attribute = step

abbrev pub step_place : Step → ℕ
step_place (Insert k item) = k
step_place (Delete k) = k
step_place (Move k dx dy) = k
step_place (Reorder k m) = k
step_place (Aperture k n) = k
step_place (Polarity k dark) = k
step_place (PutAttribute k a) = k
step_place (TakeAttribute k) = k
step_place (SetFields k fields) = k

abbrev pub inverse_step : Step → Content → Step
inverse_step step c = inverse_at step (slice_get c.items (step_place step)) (slice_get c.attributes (step_place step))

abbrev pub IsFit : Step → Content → Type 0
IsFit (Insert k item) c = k ≤ length c.items
IsFit (Delete k) c = k < length c.items
IsFit (Move k dx dy) c = IsShiftable (way dx dy) × HasAt (IsMovableItem (way dx dy)) c.items k
IsFit (Reorder k m) c = (k < length c.items) × (m < length c.items)
IsFit (Aperture k n) c = HasAt (IsOne HasAperture) c.items k
IsFit (Polarity k dark) c = HasAt (IsOne (λ _. Unit {0})) c.items k
IsFit (PutAttribute k a) c = k ≤ length c.attributes
IsFit (TakeAttribute k) c = k < length c.attributes
IsFit (SetFields k fields) c = k < length c.attributes

-- it fits, and leads from a sound layer to a sound layer: its attributes are sound before and after, and its items
pub record IsSoundStep (step : Step) (c : Content) : Type 0 where
  pub fits : IsFit step c
  pub before : IsSoundGerber c
  pub after : IsSoundGerber (after_step step c)

abbrev pub is_insertion : Step → Bool
is_insertion (Insert k item) = true
is_insertion _ = false

abbrev pub puts_attribute : Step → Bool
puts_attribute (PutAttribute k a) = true
puts_attribute _ = false

-- there is a place for each item that the steps of the group insert, and for each attribute that they put
abbrev pub HasRoom : List Step → Layer → Type 0
HasRoom group layer =
    (length layer.items.items + count_by is_insertion group ≤ vec_capacity layer.items)
    × (length layer.attributes.items + count_by puts_attribute group ≤ vec_capacity layer.attributes)
