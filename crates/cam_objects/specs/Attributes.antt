-- File attributes: a name and its fields (Gerber Layer Format Specification, "Attributes" and "File attributes (TF)").
use Rattle.std.specs.Prelude.{◌≡◌, ◌≢◌, ℕ, ◌≤◌, nat_le, Bool, ◌==◌, ◌||◌, ◌&&◌, not, cond, IsTrue, Option}
use Rattle.std.specs.Prelude.{List, [], ◌∷◌, length, map, All}
use Rattle.std.specs.List.{IsDistinct, position}
use Rattle.std.specs.Str.{bytes_eq}
use Rattle.cam_objects.specs.declared.attribute.Attribute.{Attribute}
use Rattle.cam_refusals.specs.Limits.{attribute_limit}

-- separates a name from its fields, and those from one another
abbrev pub comma : ℕ
comma = 44

-- a line end, a tab, or any character but DEL, `%` and `*` that is no control character
abbrev pub is_attribute_byte : ℕ → Bool
is_attribute_byte byte =
    ((byte == 9) || (byte == 10) || (byte == 13) || nat_le 32 byte) && not ((byte == 37) || (byte == 42) || (byte == 127))

-- each field stands behind a comma
abbrev pub AreFields : List ℕ → Type 0
AreFields [] = Unit {0}
AreFields (byte ∷ text) = byte ≡ comma

pub record IsAttribute (a : Attribute) : Type 0 where
  pub name : All (λ byte. IsTrue (is_attribute_byte byte)) a.name
  pub whole : All (λ byte. byte ≢ comma) a.name
  pub fields : All (λ byte. IsTrue (is_attribute_byte byte)) a.fields
  pub apart : AreFields a.fields

-- ---- the attributes of a layer, in order

abbrev pub attribute_of : List ℕ → List ℕ → Attribute
attribute_of name fields = record { name = name; fields = fields }

abbrev pub has_name : List ℕ → Attribute → Bool
has_name name a = bytes_eq a.name name

-- where the attribute of that name stands, counted from 0
abbrev pub attribute_place : List ℕ → List Attribute → Option ℕ
attribute_place name xs = position (has_name name) xs

-- an attribute takes the place of the one that has its name; another goes last
abbrev pub with_attribute : Attribute → List Attribute → List Attribute
with_attribute a [] = a ∷ []
with_attribute a (b ∷ xs) = cond (has_name a.name b) (a ∷ xs) (b ∷ with_attribute a xs)

abbrev pub names_of : List Attribute → List (List ℕ)
names_of xs = map (λ a. a.name) xs

pub record AreAttributes (xs : List Attribute) : Type 0 where
  pub each : All IsAttribute xs
  pub few : length xs ≤ attribute_limit
  pub distinct : IsDistinct bytes_eq (names_of xs)

-- the attribute may be set
pub record MaySet (xs : List Attribute) (a : Attribute) : Type 0 where
  pub sound : IsAttribute a
  pub room : length (with_attribute a xs) ≤ attribute_limit
