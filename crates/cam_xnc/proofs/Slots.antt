-- Slots: their end, and the routs that they are.
use Rattle.std.proofs.Common.{arith, ◌≡◌, ℕ, List, [], ◌∷◌, Option, refl, ap, ◌∙◌}
use Rattle.std.specs.Prelude.{ℤ, unwrap_or}
use Rattle.std.specs.Option.{option_or, option_map}
use Rattle.cam_units.specs.declared.length.Unit.{Unit as FileUnit}
use Rattle.cam_units.specs.declared.point.Point.{Point}
use Rattle.cam_refusals.specs.Checks.{first_holding}
use Rattle.cam_objects.specs.declared.drill_item.DrillItem.TheVariants.{Rout}
use Rattle.cam_xnc.specs.declared.state.DrillState.{DrillState}
use Rattle.cam_xnc.specs.declared.statement.Coordinate.{Coordinate}
use Rattle.cam_xnc.specs.declared.statement.Statement.TheVariants.{Slot}
use Rattle.cam_xnc.specs.DrillState.{DrillPast, drill_mode_in, tool_in_force, drill_point_in, slot_start, slot_of}
use Rattle.cam_xnc.specs.DrillState.{value_told, length_nm}
use Rattle.cam_xnc.specs.Faults.{slot_checks, body_checks}
use Rattle.cam_xnc.specs.Laws.{SlotsAreRouts}
use Rattle.cam_xnc.specs.Machinery.Tracking.{Tracks, moved, moved_point}

-- the end of a slot, coordinate by coordinate: it keeps that of the start
pub moved_twice : (unit : Option FileUnit) (end start : Coordinate) (old : ℤ)
    → unwrap_or (option_map (length_nm unit) (option_or (value_told end) (value_told start))) old
    ≡ moved unit end (moved unit start old)
moved_twice unit end start old = grind arith

same_point : (p q : Point) → p.x ≡ q.x → p.y ≡ q.y → p ≡ q
same_point p q x y = ap (λ z. record { x = z; y = p.y }) x ∙ ap (λ z. record { x = q.x; y = z }) y

-- the points of a slot, from the values in force before it
pub slot_ends : (past : DrillPast) (s : DrillState) (start_x start_y end_x end_y : Coordinate) (start end : Point) → Tracks past s
    → start ≡ moved_point s.unit start_x start_y s.at → end ≡ moved_point s.unit end_x end_y start
    → (start ≡ slot_start past start_x start_y) × (end ≡ drill_point_in (Slot start_x start_y end_x end_y ∷ past))
slot_ends past s start_x start_y end_x end_y start end t starts ends = grind (arith, same_point, moved_twice)

-- what a slot is refused for at such points
pub slot_refused : (past : DrillPast) (start_x start_y end_x end_y : Coordinate) (start end : Point)
    → start ≡ slot_start past start_x start_y → end ≡ drill_point_in (Slot start_x start_y end_x end_y ∷ past)
    → first_holding (slot_checks past start_x start_y end_x end_y start end (drill_mode_in past))
    ≡ first_holding (body_checks past (Slot start_x start_y end_x end_y))
slot_refused past start_x start_y end_x end_y start end starts ends = grind arith

-- the item that it makes
pub slot_made : (past : DrillPast) (tool : ℕ) (points : List Point) (start end start' end' : Point)
    → tool ≡ unwrap_or (tool_in_force past) 0 → points ≡ start ∷ end ∷ [] → start ≡ start' → end ≡ end'
    → Rout tool points ≡ slot_of past start' end'
slot_made past tool points start end start' end' tooled pointed starts ends = rw (tooled, pointed, starts, ends) refl

pub slots_routed : SlotsAreRouts
slots_routed past start_x start_y end_x end_y drilling = grind (arith, same_point, moved_twice)
