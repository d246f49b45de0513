-- Edits of file attributes: how a key and fields are written, which step sets an attribute, and what such an edit may
-- be refused for (Gerber Layer Format Specification, "File attributes (TF)").
use Rattle.std.specs.Prelude.{ℕ, ◌==◌, ◌&&◌, not, nat_le, Bool, true, List, [], ◌∷◌, length}
use Rattle.std.specs.Prelude.{Option, None, Some, is_none}
use Rattle.std.specs.Char.{is_ascii_graphic}
use Rattle.std.specs.List.{list_all}
use Rattle.cam_refusals.specs.Checks.{Checks}
use Rattle.cam_refusals.specs.Limits.{attribute_limit}
use Rattle.cam_objects.specs.Attributes.{attribute_of, comma, attribute_place, with_attribute}
use Rattle.cam_objects.specs.declared.attribute.Attribute.{Attribute}
use Rattle.cam_edits.specs.declared.edit.Change.{Change}
use Rattle.cam_edits.specs.declared.edit.Change.TheVariants as changes
use Rattle.cam_edits.specs.declared.fault.EditFault.{EditFault}
use Rattle.cam_edits.specs.declared.fault.EditFault.TheVariants.{AttributeRefused, NoAttribute, TooMuch}
use Rattle.cam_edits.specs.declared.step.Step.{Step}
use Rattle.cam_edits.specs.declared.step.Step.TheVariants.{PutAttribute, SetFields}

-- ---- how they are written

-- from '!' to '~', but for '%' and '*'
abbrev pub is_field_byte : ℕ → Bool
is_field_byte byte = is_ascii_graphic byte && not (byte == 37) && not (byte == 42)

-- and but for the comma, which ends a name
abbrev pub is_key_byte : ℕ → Bool
is_key_byte byte = is_field_byte byte && not (byte == comma)

-- the name: 1 to 255 such bytes
abbrev pub is_key : List ℕ → Bool
is_key key = nat_le 1 (length key) && nat_le (length key) 255 && list_all is_key_byte key

-- the fields, with commas between them: 1 to 4,096 bytes
abbrev pub is_field_text : List ℕ → Bool
is_field_text text = nat_le 1 (length text) && nat_le (length text) 4096 && list_all is_field_byte text

-- none, or such a text with a comma before it
abbrev pub are_fields : List ℕ → Bool
are_fields [] = true
are_fields (first ∷ text) = (first == comma) && is_field_text text

-- ---- steps and checks

-- a name that stands at a place takes the fields there, and a new one goes last
abbrev pub setting_step : List ℕ → List ℕ → ℕ → Option ℕ → Step
setting_step key fields last None = PutAttribute last (attribute_of key fields)
setting_step key fields last (Some k) = SetFields k fields

-- what an edit of attributes may be refused for, in the order in which it is told
abbrev pub set_attribute_checks : List Attribute → List ℕ → List ℕ → Checks EditFault
set_attribute_checks attributes key fields =
    (AttributeRefused, not (is_key key && are_fields fields))
    ∷ (TooMuch, not (nat_le (length (with_attribute (attribute_of key fields) attributes)) attribute_limit)) ∷ []

abbrev pub drop_attribute_checks : List Attribute → List ℕ → Checks EditFault
drop_attribute_checks attributes key =
    (AttributeRefused, not (is_key key)) ∷ (NoAttribute, is_none (attribute_place key attributes)) ∷ []

-- other edits are not refused for attributes
abbrev pub attribute_checks : List Attribute → Change → Checks EditFault
attribute_checks attributes (changes.SetAttribute key fields) = set_attribute_checks attributes key fields
attribute_checks attributes (changes.DropAttribute key) = drop_attribute_checks attributes key
attribute_checks attributes _ = []
