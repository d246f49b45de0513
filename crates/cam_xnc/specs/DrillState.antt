-- The state of an XNC file. The past of a line is the list of what the lines before it say, the newest first, and
-- each value of the state is read off it. XNC Format Specification, "Header", "Drilling" and "Routing".
use Rattle.std.specs.Prelude.{ℕ, ℤ, pos, List, [], ◌∷◌, ◌++◌, Option, Some, None, unwrap_or, ◌==◌, if◌then◌else◌, sum_by}
use Rattle.std.specs.Option.{option_or, option_map}
use Rattle.cam_units.specs.declared.length.Nm.{Nm}
use Rattle.cam_units.specs.declared.length.Unit.{Unit as FileUnit}
use Rattle.cam_units.specs.declared.point.Point.{Point}
use Rattle.cam_units.specs.Nearest.{fix9_of, unit_or_mm}
use Rattle.cam_objects.specs.Contents.{DrillContent}
use Rattle.cam_objects.specs.declared.drill_item.DrillItem.{DrillItem}
use Rattle.cam_objects.specs.declared.drill_item.DrillItem.TheVariants.{Hit, Rout}
use Rattle.cam_objects.specs.DrillSoundness.{drill_count_of}
use Rattle.cam_xnc.specs.declared.statement.Coordinate.{Coordinate}
use Rattle.cam_xnc.specs.declared.statement.Coordinate.TheVariants.{Omitted, Malformed, Pointless, Written}
use Rattle.cam_xnc.specs.declared.statement.Statement.{Statement}
use Rattle.cam_xnc.specs.declared.statement.Statement.TheVariants.{BeginHeader, SetUnit, Declare, EndHeader, Select}
use Rattle.cam_xnc.specs.declared.statement.Statement.TheVariants.{DrillMode, HitAt, Slot, RoutTo, Lower, CutTo, Raise}
use Rattle.cam_xnc.specs.declared.modes.Part.{Part}
use Rattle.cam_xnc.specs.declared.modes.Part.TheVariants.{Start, Header, Body}
use Rattle.cam_xnc.specs.declared.modes.Mode.{Mode}
use Rattle.cam_xnc.specs.declared.modes.Mode.TheVariants.{Drilling, Raised, Lowered}

abbrev pub DrillPast : Type 0
DrillPast = List Statement

-- what the newest line that tells it says
abbrev pub newest_drill : {A : Type 0} → (Statement → Option A) → DrillPast → Option A
newest_drill tells [] = None
newest_drill tells (says ∷ older) = option_or (tells says) (newest_drill tells older)

abbrev pub part_told : Statement → Option Part
part_told BeginHeader = Some Header
part_told EndHeader = Some Body
part_told _ = None

-- the part of the file that the next line stands in
abbrev pub part_in : DrillPast → Part
part_in past = unwrap_or (newest_drill part_told past) Start

abbrev pub drill_unit_told : Statement → Option FileUnit
drill_unit_told (SetUnit unit) = Some unit
drill_unit_told _ = None

abbrev pub drill_unit_in : DrillPast → Option FileUnit
drill_unit_in past = newest_drill drill_unit_told past

abbrev pub drill_mode_told : Statement → Option Mode
drill_mode_told DrillMode = Some Drilling
drill_mode_told (RoutTo x y) = Some Raised
drill_mode_told Lower = Some Lowered
drill_mode_told Raise = Some Raised
drill_mode_told _ = None

-- whether coordinates are hits, and while routing whether the tool is lowered
abbrev pub drill_mode_in : DrillPast → Mode
drill_mode_in past = unwrap_or (newest_drill drill_mode_told past) Drilling

-- the number 0 selects no tool
abbrev pub selected : ℕ → Option ℕ
selected number = if number == 0 then None else Some number

abbrev pub tool_told : Statement → Option (Option ℕ)
tool_told (Select number) = option_map selected number
tool_told _ = None

-- the number of the tool in force, where one is
abbrev pub tool_in_force : DrillPast → Option ℕ
tool_in_force past = unwrap_or (newest_drill tool_told past) None

abbrev pub value_told : Coordinate → Option ℤ
value_told Omitted = None
value_told Malformed = None
value_told Pointless = None
value_told (Written n) = Some n

abbrev pub drill_x_told : Statement → Option ℤ
drill_x_told (HitAt x y) = value_told x
drill_x_told (Slot start_x start_y end_x end_y) = option_or (value_told end_x) (value_told start_x)
drill_x_told (RoutTo x y) = value_told x
drill_x_told (CutTo x y) = value_told x
drill_x_told _ = None

abbrev pub drill_y_told : Statement → Option ℤ
drill_y_told (HitAt x y) = value_told y
drill_y_told (Slot start_x start_y end_x end_y) = option_or (value_told end_y) (value_told start_y)
drill_y_told (RoutTo x y) = value_told y
drill_y_told (CutTo x y) = value_told y
drill_y_told _ = None

-- a length in 10^-9 of a unit, in nm
unfoldable pub length_nm : Option FileUnit → ℤ → ℤ
length_nm unit n = fix9_of n (unit_or_mm unit)

-- the coordinate that the newest line with one has written
abbrev pub newest_drill_nm : (Statement → Option ℤ) → DrillPast → ℤ
newest_drill_nm tells [] = pos 0
newest_drill_nm tells (says ∷ older) = unwrap_or (option_map (length_nm (drill_unit_in older)) (tells says)) (newest_drill_nm tells older)

-- the last point; of a slot its end, which keeps from its start what it leaves out
abbrev pub drill_point_in : DrillPast → Point
drill_point_in past = record { x = newest_drill_nm drill_x_told past; y = newest_drill_nm drill_y_told past }

-- the tool that a declaration makes
abbrev pub tool_declared : DrillPast → Option ℕ → Option ℤ → ℕ × Nm
tool_declared past number diameter = (unwrap_or number 0, record { 0 = length_nm (drill_unit_in past) (unwrap_or diameter (pos 0)) })

-- the tools, in order
abbrev pub tools_in : DrillPast → List (ℕ × Nm)
tools_in [] = []
tools_in (Declare number diameter ∷ older) = tools_in older ++ tool_declared older number diameter ∷ []
tools_in (_ ∷ older) = tools_in older

-- the points of the open rout: where the tool was lowered, and the end of each cut since then
abbrev pub rout_points_in : DrillPast → List Point
rout_points_in [] = []
rout_points_in (Lower ∷ older) = drill_point_in older ∷ []
rout_points_in (CutTo x y ∷ older) = rout_points_in older ++ drill_point_in (CutTo x y ∷ older) ∷ []
rout_points_in (Raise ∷ older) = []
rout_points_in (_ ∷ older) = rout_points_in older

abbrev pub hit_of : DrillPast → Point → DrillItem
hit_of past at = Hit (unwrap_or (tool_in_force past) 0) at

-- the start of a slot, where its first half alone would be a hit
abbrev pub slot_start : DrillPast → Coordinate → Coordinate → Point
slot_start past x y = drill_point_in (HitAt x y ∷ past)

-- a slot, which is a rout of two points
abbrev pub slot_of : DrillPast → Point → Point → DrillItem
slot_of past start end = Rout (unwrap_or (tool_in_force past) 0) (start ∷ end ∷ [])

-- the open rout, whose tool stays the same while it is lowered
abbrev pub open_rout : DrillPast → DrillItem
open_rout past = Rout (unwrap_or (tool_in_force past) 0) (rout_points_in past)

-- the items, in order
abbrev pub drill_items_in : DrillPast → List DrillItem
drill_items_in [] = []
drill_items_in (HitAt x y ∷ older) = drill_items_in older ++ hit_of older (drill_point_in (HitAt x y ∷ older)) ∷ []
drill_items_in (Slot start_x start_y end_x end_y ∷ older) = drill_items_in older
    ++ slot_of older (slot_start older start_x start_y) (drill_point_in (Slot start_x start_y end_x end_y ∷ older)) ∷ []
drill_items_in (Raise ∷ older) = drill_items_in older ++ open_rout older ∷ []
drill_items_in (_ ∷ older) = drill_items_in older

-- how many holes and slots they are
abbrev pub drilled_leaves : DrillPast → ℕ
drilled_leaves past = sum_by drill_count_of (drill_items_in past)

abbrev pub drill_layer_in : DrillPast → DrillContent
drill_layer_in past = record { tools = tools_in past; items = drill_items_in past }
