-- The macros of a file by their names, and the expansions that are kept.
use Rattle.std.specs.Prelude.{◌≡◌, ℕ, List, map, Some, Ok, Vec, slice_get, Bool, ◌&&◌, nat_eq}
use Rattle.std.specs.List.{AllByRecursion}
use Rattle.std.specs.Map.{values_of}
use Rattle.std.specs.Ordering.{int_eq}
use Rattle.std.specs.Cmp.Lexicographic.{pointwise}
use Rattle.cam_macros.specs.declared.aperture_macro.Macro.{Macro}
use Rattle.cam_macros.specs.declared.part.Part.{Part}
use Rattle.cam_macros.specs.Expansion.{expansion_of}
use Rattle.cam_apertures.specs.declared.macros.Expanded.{Expanded}
use Rattle.cam_apertures.specs.declared.macros.Expansion.{Expansion}

-- each name with its parts
abbrev pub macros_of : {A : Type 0} → List (Vec ℕ A × List Part) → List Macro
macros_of entries = map (λ e. record { name = e.0.items; parts = e.1 }) entries

-- the same macro under the same parameters
abbrev pub are_equal : Expanded → Expanded → Bool
are_equal x y = nat_eq x.place y.place && pointwise int_eq x.parameters.items y.parameters.items

-- what came of the macro at the place
pub record IsExpansion (macros : List (List Part)) (expanded : Expanded) (expansion : Expansion) : Type 0 where
  pub parts : List Part
  pub found : slice_get macros expanded.place ≡ Some parts
  pub same : expansion_of expansion.unit expanded.parameters.items parts ≡ Ok expansion.primitives

abbrev pub AreExpansions : {A : Type 0} → List (Vec ℕ A × List Part) → List (Expanded × Expansion) → Type 0
AreExpansions macros kept = AllByRecursion (λ e. IsExpansion (values_of macros) e.0 e.1) kept
