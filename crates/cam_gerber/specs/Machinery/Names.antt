-- The names by which file attributes are found.
use Rattle.std.specs.Prelude.{◌≡◌, ℕ, List, map, Vec}
use Rattle.cam_objects.specs.declared.attribute.Attribute.{Attribute}
use Rattle.cam_objects.specs.Attributes.{names_of}

-- each key is the name of the attribute at its place
abbrev pub AreNamesOf : {A : Type 0} → List Attribute → List (Vec ℕ A) → Type 0
AreNamesOf attributes keys = map (λ key. key.items) keys ≡ names_of attributes
