-- Sound drill layers (XNC Format Specification, "Drilling" and "Routing").
use Rattle.std.specs.Prelude.{◌≡◌, ℕ, ◌≤◌, nat_le, nat_lt, pos, ◌≤ℤ◌, Bool, not, ◌&&◌, List, [], ◌∷◌, ◌++◌, length}
use Rattle.std.specs.Prelude.{None, is_some, nat_eq, sum_by, All}
use Rattle.std.specs.List.{IsDistinct}
use Rattle.std.specs.Map.{keys_of}
use Rattle.cam_refusals.specs.Checks.{Checks, first_holding}
use Rattle.cam_refusals.specs.Limits.{count_limit, leaf_limit, size_limit}
use Rattle.cam_units.specs.declared.length.Nm.{Nm}
use Rattle.cam_units.specs.declared.point.Point.{Point}
use Rattle.cam_objects.specs.declared.drill_item.DrillItem.{DrillItem}
use Rattle.cam_objects.specs.declared.drill_item.DrillItem.TheVariants.{Hit, Rout}
use Rattle.cam_objects.specs.declared.drill_layer.DrillLayer.{DrillLayer}
use Rattle.cam_objects.specs.declared.item_fault.ItemFault.{ItemFault}
use Rattle.cam_objects.specs.declared.item_fault.ItemFault.TheVariants.{Malformed, UnknownTool, OutOfBoard, TooMuch}
use Rattle.cam_objects.specs.Drilling.{diameter_of}
use Rattle.cam_objects.specs.Limits.{last_tool}
use Rattle.cam_objects.specs.Soundness.{are_on_board}

-- a tool has a number from 1 to 9,999 and a diameter from 1 nm to 200 mm
pub record IsSoundTool (tool : ℕ) (diameter : Nm) : Type 0 where
  pub some : 1 ≤ tool
  pub few : tool ≤ last_tool
  pub wide : pos 1 ≤ℤ diameter.0
  pub narrow : diameter.0 ≤ℤ pos size_limit

abbrev pub tool_of : DrillItem → ℕ
tool_of (Hit tool at) = tool
tool_of (Rout tool points) = tool

-- the control points
abbrev pub drill_points_of : DrillItem → List Point
drill_points_of (Hit tool at) = at ∷ []
drill_points_of (Rout tool points) = points

-- an item counts as its leaves: one for a hit, for a rout of one point and for each segment of another
abbrev pub drill_count_from : List Point → ℕ
drill_count_from [] = 0
drill_count_from (p ∷ []) = 1
drill_count_from (p ∷ q ∷ ps) = length (q ∷ ps)

abbrev pub drill_count_of : DrillItem → ℕ
drill_count_of (Hit tool at) = 1
drill_count_of (Rout tool points) = drill_count_from points

-- what an item of these points, whose tool is known or not, may be refused for
abbrev pub drilling_checks : Bool → List Point → Checks ItemFault
drilling_checks known points =
    (Malformed, not (nat_lt 0 (length points)))
    ∷ (UnknownTool, not known)
    ∷ (OutOfBoard, not (are_on_board points))
    ∷ (TooMuch, not (nat_le (length points) count_limit)) ∷ []

-- and beside tools
unfoldable pub drill_item_checks : List (ℕ × Nm) → DrillItem → Checks ItemFault
drill_item_checks tools item = drilling_checks (is_some (diameter_of tools (tool_of item))) (drill_points_of item)

-- no check holds
abbrev pub IsSoundDrillItem : List (ℕ × Nm) → DrillItem → Type 0
IsSoundDrillItem tools item = first_holding (drill_item_checks tools item) ≡ None

-- a tool may stand behind the others where it is sound and its number is new
pub record MayAddTool (tools : List (ℕ × Nm)) (tool : ℕ) (diameter : Nm) : Type 0 where
  pub sound : IsSoundTool tool diameter
  pub absent : diameter_of tools tool ≡ None

-- the limits of a drill layer
pub record KeepsDrillLimits (items : List DrillItem) : Type 0 where
  pub few : length items ≤ count_limit
  pub leaves : sum_by drill_count_of items ≤ leaf_limit

-- whether they are kept
unfoldable pub keeps_drill_limits : List DrillItem → Bool
keeps_drill_limits items = nat_le (length items) count_limit && nat_le (sum_by drill_count_of items) leaf_limit

-- every tool and every item is sound, no tool's number stands twice, and no limit is passed
pub record IsSoundDrillContent (ts : List (ℕ × Nm)) (is : List DrillItem) : Type 0 where
  pub tools : All (λ (t : ℕ × Nm). IsSoundTool t.0 t.1) ts
  pub distinct : IsDistinct nat_eq (keys_of ts)
  pub items : All (IsSoundDrillItem ts) is
  pub limits : KeepsDrillLimits is

abbrev pub IsSoundDrillLayer : DrillLayer → Type 0
IsSoundDrillLayer l = IsSoundDrillContent l.tools l.items.items

-- a sound item that the limits leave room for keeps a layer sound, and so does a tool that may be added
pub record DrillGrowthLaw : Type 0 where
  pub push : (l m : DrillLayer) (item : DrillItem) → IsSoundDrillLayer l → IsSoundDrillItem l.tools item
      → KeepsDrillLimits (l.items.items ++ item ∷ []) → m.tools ≡ l.tools → m.items.items ≡ l.items.items ++ item ∷ []
      → IsSoundDrillLayer m
  pub add_tool : (l m : DrillLayer) (tool : ℕ) (diameter : Nm) → IsSoundDrillLayer l → MayAddTool l.tools tool diameter
      → m.tools ≡ l.tools ++ (tool, diameter) ∷ [] → m.items.items ≡ l.items.items → IsSoundDrillLayer m
