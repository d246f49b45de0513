-- Edits of file attributes change no picture (Gerber Layer Format Specification, "Attributes").
use Rattle.std.specs.Prelude.{◌≡◌, ℕ, cond, List, [], ◌∷◌, map, Ok}
use Rattle.cam_objects.specs.Attributes.{attribute_of, has_name, with_attribute}
use Rattle.cam_objects.specs.declared.attribute.Attribute.{Attribute}
use Rattle.cam_edits.specs.declared.edit.Change.{Change}
use Rattle.cam_edits.specs.declared.edit.Change.TheVariants.{SetAttribute, DropAttribute}
use Rattle.cam_edits.specs.declared.edit.Edit.{Edit}
use Rattle.cam_edits.specs.Boards.{content_at}
use Rattle.cam_edits.specs.Editing.{edited}
use Rattle.cam_edits.specs.Images.{sheet_leaves}
use Rattle.cam_edits.specs.Sheets.{Content, Gerber, Drill, Sheet}
use Rattle.cam_edits.specs.Touches.{Touch, touch_of_edit}

abbrev pub IsOfAttributes : Change → Type 0
IsOfAttributes (SetAttribute key fields) = Unit {0}
IsOfAttributes (DropAttribute key) = Unit {0}
IsOfAttributes _ = ⊥

-- those behind the one that has the name close up
abbrev pub without_attribute : List ℕ → List Attribute → List Attribute
without_attribute name [] = []
without_attribute name (a ∷ xs) = cond (has_name name a) xs (a ∷ without_attribute name xs)

-- the attributes after an edit
abbrev pub attributes_of : Change → List Attribute → List Attribute
attributes_of (SetAttribute key fields) xs = with_attribute (attribute_of key fields) xs
attributes_of (DropAttribute key) xs = without_attribute key xs
attributes_of _ xs = xs

-- the dictionary and the items stay
abbrev pub with_attributes_of : Change → Content → Content
with_attributes_of change (Gerber c) =
    Gerber (record { attributes = attributes_of change c.attributes; entries = c.entries; items = c.items })
with_attributes_of change (Drill c) = Drill c

-- The edited sheet lists other attributes, each sheet has its name and paints what it did, and no box is touched.
pub record ChangesAttributes (change : Change) (touch : Touch) (sheets after : List Sheet) : Type 0 where
  pub names : map (λ s. s.name) after ≡ map (λ s. s.name) sheets
  pub listed : content_at after touch.sheet ≡ with_attributes_of change (content_at sheets touch.sheet)
  pub pictures : (place : ℕ) → sheet_leaves (content_at after place) ≡ sheet_leaves (content_at sheets place)
  pub boxes : touch.boxes ≡ []

abbrev pub AttributeLaw : Type 0
AttributeLaw = (edit : Edit) (sheets after : List Sheet) → IsOfAttributes edit.change → edited edit sheets ≡ Ok after
    → ChangesAttributes edit.change (touch_of_edit edit sheets) sheets after
