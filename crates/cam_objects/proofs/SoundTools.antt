-- what a sound drill layer says of its tools
use Rattle.std.proofs.Common.{◌≡◌, ℕ, List, [], ◌∷◌, Some, arith}
use Rattle.std.specs.List.{All}
use Rattle.std.specs.Option.{IfSome}
use Rattle.std.proofs.lemmas.Int.{ints}
use Rattle.std.proofs.lemmas.Option.{same_Some}
use Rattle.std.proofs.lemmas.List.Elements.{All-head, All-tail}
use Rattle.cam_units.specs.Board.{IsSize}
use Rattle.cam_units.specs.declared.length.Nm.{Nm}
use Rattle.cam_objects.specs.declared.drill_item.DrillItem.{DrillItem}
use Rattle.cam_objects.specs.Drilling.{diameter_of, drill_item_leaves, leaves_with}
use Rattle.cam_objects.specs.DrillSoundness.{IsSoundTool, tool_of}

abbrev IsSoundEntry : ℕ × Nm → Type 0
IsSoundEntry e = IsSoundTool e.0 e.1

size_of_sound : (n : ℕ) (d : Nm) → IsSoundTool n d → IsSize d.0
size_of_sound n d h = (omega (arith, ints, h.wide), h.narrow)

pub tool_size : (tools : List (ℕ × Nm)) (n : ℕ) (d : Nm) → All IsSoundEntry tools → diameter_of tools n ≡ Some d → IsSize d.0
tool_size [] n d sound e = cc
tool_size (t ∷ ts) n d sound e =
    grind (arith, All-tail, same_Some, size_of_sound, All-head, tool_size ts n d (All-tail IsSoundEntry t ts sound))

pub tools_sized : (tools : List (ℕ × Nm)) (n : ℕ) → All IsSoundEntry tools → IfSome (diameter_of tools n) (λ d. IsSize d.0)
tools_sized tools n sound = grind (arith, tool_size)

-- what an item drills with its tool
pub leaves_of_tool : (tools : List (ℕ × Nm)) (item : DrillItem)
    → leaves_with (diameter_of tools (tool_of item)) item ≡ drill_item_leaves tools item
leaves_of_tool tools item = grind arith
