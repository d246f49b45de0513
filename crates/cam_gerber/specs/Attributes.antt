-- The file attributes behind a past: their names in the order in which they first appear, each with the fields that the
-- newest command with it has written. Gerber Layer Format Specification, "Attributes" and "File attributes (TF)".
use Rattle.std.specs.Prelude.{◌≡◌, ℕ, List, [], ◌∷◌, ◌++◌, drop, map, Option, Some, None, unwrap_or, Bool, ◌==◌, if◌then◌else◌}
use Rattle.std.specs.List.{before_first, list_any, position_or_len}
use Rattle.std.specs.Str.{bytes_eq}
use Rattle.cam_objects.specs.declared.attribute.Attribute.{Attribute}
use Rattle.cam_objects.specs.Attributes.{attribute_of, comma, with_attribute}
use Rattle.cam_commands.specs.declared.names.FreeText.TheVariants.{FileAttribute}
use Rattle.cam_commands.specs.Commands.{Command, KeepText}
use Rattle.cam_gerber.specs.Statements.{Says}
use Rattle.cam_gerber.specs.State.{Past, newest}

abbrev pub is_comma : ℕ → Bool
is_comma byte = byte == comma

-- of what stands behind `TF` the name goes up to the first comma, and the fields begin with it
abbrev pub attribute_name : List ℕ → List ℕ
attribute_name text = before_first is_comma text

abbrev pub attribute_fields : List ℕ → List ℕ
attribute_fields text = drop (position_or_len is_comma text) text

-- ---- behind a past

abbrev pub with_name : List ℕ → List (List ℕ) → List (List ℕ)
with_name name names = if list_any (bytes_eq name) names then names else names ++ name ∷ []

-- the names, in the order in which they first appear
abbrev pub names_in : Past → List (List ℕ)
names_in [] = []
names_in (Says (KeepText FileAttribute text) ∷ older) = with_name (attribute_name text) (names_in older)
names_in (_ ∷ older) = names_in older

-- what a command with this name writes
abbrev pub fields_told : List ℕ → Command → Option (List ℕ)
fields_told name (KeepText FileAttribute text) = if bytes_eq (attribute_name text) name then Some (attribute_fields text) else None
fields_told name _ = None

-- what the newest one has written
abbrev pub fields_in : Past → List ℕ → List ℕ
fields_in past name = unwrap_or (newest (fields_told name) past) []

abbrev pub attributes_in : Past → List Attribute
attributes_in past = map (λ name. attribute_of name (fields_in past name)) (names_in past)

-- one more command sets its attribute among those before it
abbrev pub SetsItsAttribute : Type 0
SetsItsAttribute =
    (past : Past) (text : List ℕ) → attributes_in (Says (KeepText FileAttribute text) ∷ past)
    ≡ with_attribute (attribute_of (attribute_name text) (attribute_fields text)) (attributes_in past)
