-- What the reader's running state has to do with the past.
use Rattle.std.specs.Prelude.{◌≡◌, ℤ, ◌∷◌, Option, Some, None, Result, Ok, Err, unwrap_or}
use Rattle.std.specs.Option.{option_map}
use Rattle.cam_refusals.specs.declared.refusal.Refusal.{Refusal}
use Rattle.cam_refusals.specs.declared.stop.Stop.{Stop}
use Rattle.cam_refusals.specs.declared.stop.Stop.TheVariants.{Memory, Fault}
use Rattle.cam_refusals.specs.Checks.{Checks, first_holding}
use Rattle.cam_units.specs.declared.length.Unit.{Unit as FileUnit}
use Rattle.cam_units.specs.declared.point.Point.{Point}
use Rattle.cam_xnc.specs.declared.statement.Coordinate.{Coordinate}
use Rattle.cam_xnc.specs.declared.statement.Statement.{Statement}
use Rattle.cam_xnc.specs.declared.state.DrillState.{DrillState}
use Rattle.cam_xnc.specs.DrillState.{DrillPast, part_in, drill_unit_in, drill_mode_in, tool_in_force, drill_point_in, rout_points_in, tools_in, drill_items_in}
use Rattle.cam_xnc.specs.DrillState.{drilled_leaves, value_told, length_nm}

-- the state has the values of the past
pub record Tracks (past : DrillPast) (s : DrillState) : Type 0 where
  pub part : s.part ≡ part_in past
  pub unit : s.unit ≡ drill_unit_in past
  pub mode : s.mode ≡ drill_mode_in past
  pub tool : s.tool ≡ tool_in_force past
  pub at : s.at ≡ drill_point_in past
  pub points : s.points.items ≡ rout_points_in past
  pub tools : s.layer.tools ≡ tools_in past
  pub items : s.layer.items.items ≡ drill_items_in past
  pub leaves : s.leaves ≡ drilled_leaves past

-- no check holds and what then does, or the first that holds is told
abbrev pub Answers : Result (Unit {0}) Stop → Checks Refusal → Type 0 → Type 0
Answers (Ok done) list P = (first_holding list ≡ None) × P
Answers (Err Memory) list P = Unit {0}
Answers (Err (Fault refusal)) list P = first_holding list ≡ Some refusal

-- one more line, which says this, refused for the first of these checks that holds, or obeyed
abbrev pub Obeys : (DrillPast → Statement → Checks Refusal) → Statement → DrillState → Result (Unit {0}) Stop → DrillState → Type 0
Obeys list says old result new = (past : DrillPast) → Tracks past old → Answers result (list past says) (Tracks (says ∷ past) new)

-- the coordinate that a line leaves
abbrev pub moved : Option FileUnit → Coordinate → ℤ → ℤ
moved unit coordinate old = unwrap_or (option_map (length_nm unit) (value_told coordinate)) old

abbrev pub moved_point : Option FileUnit → Coordinate → Coordinate → Point → Point
moved_point unit x y from = record { x = moved unit x from.x; y = moved unit y from.y }
