-- What a line may be refused for after its past: its checks, by ascending numbers.
use Rattle.std.specs.Prelude.{ℕ, ◌+◌, ℤ, pos, negsuc, [], ◌∷◌, length, Option, Some, None, Bool, true, false}
use Rattle.std.specs.Prelude.{◌||◌, ◌&&◌, ◌==◌, not, nat_le, is_some, is_none}
use Rattle.cam_refusals.specs.declared.refusal.Refusal.{Refusal}
use Rattle.cam_refusals.specs.declared.refusal.Refusal.TheVariants.{BadNumber, NoUnit, OutOfBoard, SizeRefused, TooMuch, NoHeader}
use Rattle.cam_refusals.specs.declared.refusal.Refusal.TheVariants.{UnknownLine, UnknownTool, ToolAgain, NoToolSelected, NoPoint, RoutArc}
use Rattle.cam_refusals.specs.declared.refusal.Refusal.TheVariants.{RoutState, DrillNoEnd}
use Rattle.cam_refusals.specs.Checks.{Checks}
use Rattle.cam_refusals.specs.Limits.{count_limit, leaf_limit, size_limit}
use Rattle.cam_units.specs.declared.length.Unit.{Unit as FileUnit}
use Rattle.cam_units.specs.declared.length.Unit.TheVariants.{Mm, Inch}
use Rattle.cam_units.specs.declared.point.Point.{Point}
use Rattle.cam_objects.specs.Drilling.{diameter_of}
use Rattle.cam_objects.specs.DrillSoundness.{drill_count_of}
use Rattle.cam_xnc.specs.declared.modes.Part.{Part}
use Rattle.cam_xnc.specs.declared.modes.Part.TheVariants.{Start, Header, Body}
use Rattle.cam_xnc.specs.declared.modes.Mode.{Mode}
use Rattle.cam_xnc.specs.declared.modes.Mode.TheVariants.{Drilling, Raised, Lowered}
use Rattle.cam_xnc.specs.declared.statement.Coordinate.{Coordinate}
use Rattle.cam_xnc.specs.declared.statement.Coordinate.TheVariants.{Malformed, Pointless}
use Rattle.cam_xnc.specs.declared.statement.Statement.{Statement}
use Rattle.cam_xnc.specs.declared.statement.Statement.TheVariants.{BeginHeader, SetUnit, Declare, Neutral, EndHeader}
use Rattle.cam_xnc.specs.declared.statement.Statement.TheVariants.{Select, DrillMode, HitAt, Slot, RoutTo, Lower}
use Rattle.cam_xnc.specs.declared.statement.Statement.TheVariants.{CutTo, Raise, CutArc, End}
use Rattle.cam_xnc.specs.DrillState.{DrillPast, part_in, drill_unit_in, drill_mode_in, tool_in_force, drill_point_in, tool_declared, tools_in, rout_points_in}
use Rattle.cam_xnc.specs.DrillState.{hit_of, slot_start, slot_of, open_rout, drill_items_in, drilled_leaves}
use Rattle.cam_objects.specs.Soundness.{is_on_board}

-- another value than this is set
abbrev pub is_other_drill_unit : Option FileUnit → FileUnit → Bool
is_other_drill_unit (Some Mm) Inch = true
is_other_drill_unit (Some Inch) Mm = true
is_other_drill_unit _ _ = false

-- from 1 nm to 200 mm
unfoldable pub is_diameter : ℤ → Bool
is_diameter (pos n) = nat_le 1 n && nat_le n size_limit
is_diameter (negsuc n) = false

abbrev pub is_declared : DrillPast → ℕ → Bool
is_declared past number = is_some (diameter_of (tools_in past) number)

-- the number is that of a tool
abbrev pub is_declared_again : DrillPast → Option ℕ → Bool
is_declared_again past None = false
is_declared_again past (Some number) = is_declared past number

-- the number is neither 0 nor that of a tool
abbrev pub is_unknown_tool : DrillPast → Option ℕ → Bool
is_unknown_tool past None = false
is_unknown_tool past (Some number) = not (number == 0) && not (is_declared past number)

abbrev pub is_malformed_coordinate : Coordinate → Bool
is_malformed_coordinate Malformed = true
is_malformed_coordinate _ = false

abbrev pub is_pointless : Coordinate → Bool
is_pointless Pointless = true
is_pointless _ = false

abbrev pub is_drilling : Mode → Bool
is_drilling Drilling = true
is_drilling _ = false

abbrev pub is_raised : Mode → Bool
is_raised Raised = true
is_raised _ = false

abbrev pub is_lowered : Mode → Bool
is_lowered Lowered = true
is_lowered _ = false

-- a layer with one item more, of so many holes and slots, is past a limit
abbrev pub is_too_much : DrillPast → ℕ → Bool
is_too_much past more = nat_le count_limit (length (drill_items_in past)) || not (nat_le (drilled_leaves past + more) leaf_limit)

-- the open rout with one point more is past the limit
abbrev pub is_rout_full : DrillPast → Bool
is_rout_full past = nat_le count_limit (length (rout_points_in past))

-- lines of the header
abbrev pub header_checks : DrillPast → Statement → Checks Refusal
header_checks past (SetUnit unit) = (UnknownLine, is_other_drill_unit (drill_unit_in past) unit) ∷ []
header_checks past (Declare number diameter) =
    (BadNumber, is_none number || is_none diameter) ∷ (NoUnit, is_none (drill_unit_in past))
    ∷ (SizeRefused, not (is_diameter ((tool_declared past number diameter).1).0)) ∷ (ToolAgain, is_declared_again past number) ∷ []
header_checks past Neutral = []
header_checks past EndHeader = (NoUnit, is_none (drill_unit_in past)) ∷ []
header_checks past _ = (UnknownLine, true) ∷ []

-- a hit or a slot, which adds so many holes and slots; in a rout mode it is neither
abbrev pub drilled_checks : (past : DrillPast) (malformed pointless off : Bool) (more : ℕ) (mode : Mode) → Checks Refusal
drilled_checks past malformed pointless off more mode =
    (BadNumber, malformed) ∷ (OutOfBoard, off) ∷ (TooMuch, is_drilling mode && is_too_much past more)
    ∷ (NoToolSelected, is_none (tool_in_force past)) ∷ (NoPoint, pointless) ∷ (RoutState, not (is_drilling mode)) ∷ []

abbrev pub hit_checks : DrillPast → Coordinate → Coordinate → Point → Mode → Checks Refusal
hit_checks past x y to mode =
    drilled_checks past (is_malformed_coordinate x || is_malformed_coordinate y) (is_pointless x || is_pointless y) (not (is_on_board to))
    (drill_count_of (hit_of past to)) mode

abbrev pub slot_checks : (past : DrillPast) (start_x start_y end_x end_y : Coordinate) (start end : Point) (mode : Mode) → Checks Refusal
slot_checks past start_x start_y end_x end_y start end mode =
    drilled_checks past ((is_malformed_coordinate start_x || is_malformed_coordinate start_y) || (is_malformed_coordinate end_x || is_malformed_coordinate end_y))
    ((is_pointless start_x || is_pointless start_y) || (is_pointless end_x || is_pointless end_y))
    (not (is_on_board start && is_on_board end)) (drill_count_of (slot_of past start end)) mode

-- the way to a rout's start
abbrev pub start_checks : Coordinate → Coordinate → Point → Mode → Checks Refusal
start_checks x y to mode =
    (BadNumber, is_malformed_coordinate x || is_malformed_coordinate y) ∷ (OutOfBoard, not (is_on_board to))
    ∷ (NoPoint, is_pointless x || is_pointless y) ∷ (RoutState, is_lowered mode) ∷ []

-- a cut
abbrev pub cut_checks : DrillPast → Coordinate → Coordinate → Point → Mode → Checks Refusal
cut_checks past x y to mode =
    (BadNumber, is_malformed_coordinate x || is_malformed_coordinate y) ∷ (OutOfBoard, not (is_on_board to)) ∷ (TooMuch, is_lowered mode && is_rout_full past)
    ∷ (NoPoint, is_pointless x || is_pointless y) ∷ (RoutState, not (is_lowered mode)) ∷ []

-- lines of the body
abbrev pub body_checks : DrillPast → Statement → Checks Refusal
body_checks past Neutral = []
body_checks past (Select number) = (BadNumber, is_none number) ∷ (UnknownTool, is_unknown_tool past number)
    ∷ (RoutState, is_lowered (drill_mode_in past)) ∷ []
body_checks past DrillMode = (RoutState, is_lowered (drill_mode_in past)) ∷ []
body_checks past (HitAt x y) = hit_checks past x y (drill_point_in (HitAt x y ∷ past)) (drill_mode_in past)
body_checks past (Slot start_x start_y end_x end_y) =
    slot_checks past start_x start_y end_x end_y (slot_start past start_x start_y) (drill_point_in (Slot start_x start_y end_x end_y ∷ past))
    (drill_mode_in past)
body_checks past (RoutTo x y) = start_checks x y (drill_point_in (RoutTo x y ∷ past)) (drill_mode_in past)
body_checks past Lower = (NoToolSelected, is_none (tool_in_force past)) ∷ (RoutState, not (is_raised (drill_mode_in past))) ∷ []
body_checks past (CutTo x y) = cut_checks past x y (drill_point_in (CutTo x y ∷ past)) (drill_mode_in past)
body_checks past Raise = (TooMuch, is_lowered (drill_mode_in past) && is_too_much past (drill_count_of (open_rout past)))
    ∷ (RoutState, not (is_lowered (drill_mode_in past))) ∷ []
body_checks past CutArc = (RoutArc, true) ∷ []
body_checks past End = (RoutState, is_lowered (drill_mode_in past)) ∷ []
body_checks past _ = (UnknownLine, true) ∷ []

-- the first line
abbrev pub start_of_file_checks : Statement → Checks Refusal
start_of_file_checks BeginHeader = []
start_of_file_checks _ = (NoHeader, true) ∷ []

abbrev pub checks_by : Part → DrillPast → Statement → Checks Refusal
checks_by Start past says = start_of_file_checks says
checks_by Header past says = header_checks past says
checks_by Body past says = body_checks past says

-- what a line may be refused for, by what it says
abbrev pub checks : DrillPast → Statement → Checks Refusal
checks past says = checks_by (part_in past) past says

abbrev pub is_start : Part → Bool
is_start Start = true
is_start _ = false

-- what the end of the input may be refused for
abbrev pub end_checks : DrillPast → Checks Refusal
end_checks past = (NoHeader, is_start (part_in past)) ∷ (DrillNoEnd, true) ∷ []
