-- The canonical text of a drill layer, a list of lines: how each is spelled, and what it says. XNC Format Specification,
-- "Header", "Drilling" and "Routing".
use Rattle.std.specs.Prelude.{ℕ, List, [], ◌∷◌, ◌++◌, map, codes, decimal, Some, if◌then◌else◌}
use Rattle.std.specs.List.{fold}
use Rattle.cam_units.specs.declared.length.Nm.{Nm}
use Rattle.cam_units.specs.declared.length.Unit.TheVariants.{Mm}
use Rattle.cam_units.specs.declared.point.Point.{Point}
use Rattle.cam_objects.specs.declared.drill_item.DrillItem.{DrillItem}
use Rattle.cam_objects.specs.declared.drill_item.DrillItem.TheVariants.{Hit, Rout}
use Rattle.cam_xnc.specs.declared.statement.Coordinate.{Coordinate}
use Rattle.cam_xnc.specs.declared.statement.Coordinate.TheVariants.{Written}
use Rattle.cam_xnc.specs.declared.statement.Statement.{Statement}
use Rattle.cam_xnc.specs.declared.statement.Statement.TheVariants.{BeginHeader, SetUnit, Declare, EndHeader, Select}
use Rattle.cam_xnc.specs.declared.statement.Statement.TheVariants.{DrillMode, HitAt, RoutTo, Lower, CutTo, Raise, End}
use Rattle.cam_xnc.specs.DrillState.{DrillPast, tool_in_force, drill_mode_in}
use Rattle.cam_xnc.specs.Faults.{is_drilling}
use Rattle.cam_writers.specs.Lengths.{mm, scaled}
use Rattle.cam_writers.specs.GerberTexts.{is_selected}

-- a line: its text, and what it says
abbrev pub Line : Type 0
Line = List ℕ × Statement

-- the lines of a text so far, the newest first
abbrev pub Lines : Type 0
Lines = List Line

-- each line ends with LF
abbrev pub text_of : Lines → List ℕ
text_of [] = []
text_of (line ∷ older) = text_of older ++ (line.0 ++ codes "\n")

-- what the lines say, by which the state after them is known
abbrev pub said_by : Lines → DrillPast
said_by lines = map (λ (line : Line). line.1) lines

unfoldable pub declaration : ℕ × Nm → List ℕ
declaration tool = codes "T" ++ (decimal tool.0 ++ (codes "C" ++ mm (tool.1).0))

-- a point, behind the word of its line
unfoldable pub point_line : List ℕ → Point → List ℕ
point_line word at = word ++ (codes "X" ++ (mm at.x ++ (codes "Y" ++ mm at.y)))

-- such a line, and what it says of the point
abbrev pub line_at : List ℕ → (Coordinate → Coordinate → Statement) → Point → Line
line_at word says at = (point_line word at, says (Written (scaled at.x)) (Written (scaled at.y)))

-- the lines before the items
abbrev pub with_tool : Lines → ℕ × Nm → Lines
with_tool lines tool = (declaration tool, Declare (Some tool.0) (Some (scaled (tool.1).0))) ∷ lines

abbrev pub opening : List (ℕ × Nm) → Lines
opening tools = (codes "G05", DrillMode) ∷ (codes "%", EndHeader)
    ∷ fold with_tool ((codes "METRIC", SetUnit Mm) ∷ (codes "M48", BeginHeader) ∷ []) tools

-- the settings in which an item may differ from the state after the lines before it
abbrev pub with_selected : ℕ → Lines → Lines
with_selected tool lines =
    if is_selected (tool_in_force (said_by lines)) tool then lines else (codes "T" ++ decimal tool, Select (Some tool)) ∷ lines

abbrev pub with_drill_mode : Lines → Lines
with_drill_mode lines = if is_drilling (drill_mode_in (said_by lines)) then lines else (codes "G05", DrillMode) ∷ lines

-- the cuts of a rout, which has one point or more
abbrev pub with_cut : Lines → Point → Lines
with_cut lines to = line_at (codes "G01") CutTo to ∷ lines

abbrev pub with_rout : List Point → Lines → Lines
with_rout [] lines = lines
with_rout (start ∷ points) lines =
    (codes "M16", Raise) ∷ fold with_cut ((codes "M15", Lower) ∷ line_at (codes "G00") RoutTo start ∷ lines) points

-- the lines with one item more: the lines, the settings in which the item differs, the item
abbrev pub with_item : Lines → DrillItem → Lines
with_item lines (Hit tool at) = line_at [] HitAt at ∷ with_drill_mode (with_selected tool lines)
with_item lines (Rout tool points) = with_rout points (with_selected tool lines)

abbrev pub lines_before_end : List (ℕ × Nm) → List DrillItem → Lines
lines_before_end tools items = fold with_item (opening tools) items

-- the canonical text of tools and items
unfoldable pub drill_text : List (ℕ × Nm) → List DrillItem → List ℕ
drill_text tools items = text_of ((codes "M30", End) ∷ lines_before_end tools items)
