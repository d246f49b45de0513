-- A step of a drill layer keeps the colour of each place outside the boxes of what it touches.
use Rattle.std.proofs.Common.{◌≡◌, ℕ, false, cond, nat_eq, List, [], ◌++◌, Option, Some, refl, ap, sym, ◌∙◌, arith}
use Rattle.std.specs.Prelude.{◌==◌, IsSome, slice_get}
use Rattle.std.specs.Cmp.{nat_eq_equiv}
use Rattle.std.specs.Map.{set_value}
use Rattle.std.proofs.lemmas.Bool.Decides.{nat_tests}
use Rattle.std.proofs.lemmas.Map.{lookup-set_value}
use Rattle.cam_units.specs.declared.length.Nm.{Nm}
use Rattle.cam_units.specs.declared.point.Spot.{Spot}
use Rattle.cam_objects.specs.Contents.{DrillContent, drill_content_leaves}
use Rattle.cam_objects.specs.Drilling.{diameter_of, drill_item_leaves, leaves_with}
use Rattle.cam_objects.specs.DrillSoundness.{tool_of}
use Rattle.cam_objects.specs.Shifting.{shifted_drill_item}
use Rattle.cam_objects.specs.Tests.{is_black}
use Rattle.cam_objects.specs.declared.drill_item.DrillItem.{DrillItem}
use Rattle.cam_objects.proofs.Painting.{All_left}
use Rattle.cam_edits.specs.declared.drill_step.DrillStep.{DrillStep}
use Rattle.cam_edits.specs.declared.drill_step.DrillStep.TheVariants.{Insert, Delete, Move, Reorder, Tool, Diameter}
use Rattle.cam_edits.specs.DrillSteps.{after_drill_step, with_tool}
use Rattle.cam_edits.specs.Machinery.PlaceLaws.{element_at}
use Rattle.cam_edits.specs.Moving.{way}
use Rattle.cam_edits.specs.Touched.{box_if_there, drill_box, drill_touched}
use Rattle.cam_edits.proofs.MetSteps.{IsDrillMet}
use Rattle.cam_edits.proofs.RedrawnItems.{AreOff, IsOff, carried_off, changed_off, item_off, put_in, repainted, taken_out}
use Rattle.cam_edits.proofs.TouchedDrillBoxes.{leaves_of_item, same_number}

-- an item of another tool paints what it did
same_of_other : (ts : List (ℕ × Nm)) (t : ℕ) (d : Nm) → IsSome (diameter_of ts t) → (item : DrillItem)
    → (tool_of item == t) ≡ false
    → drill_item_leaves ts item ≡ drill_item_leaves (set_value (nat_eq t) ts d) item
same_of_other ts t d there item other =
    let tool = tool_of item in
    let after = set_value (nat_eq t) ts d in
    let differs : nat_eq t tool ≡ false = grind (arith, nat_tests) in
    let kept : diameter_of after tool ≡ diameter_of ts tool =
    lookup-set_value nat_eq_equiv (nat_eq t) (same_number t) tool d ts there
    ∙ ap (λ b. cond b (Some d) (diameter_of ts tool)) differs in
    leaves_of_item ts item
    ∙ ap (λ (o : Option Nm). leaves_with o item) (sym kept)
    ∙ sym (leaves_of_item after item)

pub drill_step_keeps_outside : (c : DrillContent) (step : DrillStep) → IsDrillMet c step → (s : Spot)
    → AreOff s (drill_touched step c)
    → is_black (drill_content_leaves c) s ≡ is_black (drill_content_leaves (after_drill_step step c)) s
unfolding drill_touched
drill_step_keeps_outside c (Insert k item) met s off =
    let paints = drill_item_leaves c.tools in
    put_in paints s c.items k item (item_off paints s (Some item) item refl off)
drill_step_keeps_outside c (Delete k) met s off =
    let paints = drill_item_leaves c.tools in
    let there = element_at c.items k met in
    let boxes = box_if_there (drill_box c.tools) (slice_get c.items k) in
    taken_out paints s c.items k there.0 there.1
    (item_off paints s (slice_get c.items k) there.0 there.1
    (All_left (IsOff s) boxes [] (All_left (IsOff s) (boxes ++ []) [] off)))
drill_step_keeps_outside c (Move k dx dy) met s off =
    changed_off (drill_item_leaves c.tools) s c.items k met.0 met.1 (shifted_drill_item (way dx dy))
    (All_left (IsOff s) _ [] off)
drill_step_keeps_outside c (Reorder k m) met s off =
    let paints = drill_item_leaves c.tools in
    let there = element_at c.items k met.0 in
    let boxes = box_if_there (drill_box c.tools) (slice_get c.items k) in
    carried_off paints s c.items k there.0 there.1
    (item_off paints s (slice_get c.items k) there.0 there.1
    (All_left (IsOff s) boxes boxes (All_left (IsOff s) (boxes ++ boxes) [] off))) m
drill_step_keeps_outside c (Tool k t) met s off =
    let there = element_at c.items k met.0 in
    changed_off (drill_item_leaves c.tools) s c.items k there.0 there.1 (with_tool t) (All_left (IsOff s) _ [] off)
drill_step_keeps_outside c (Diameter t d) met s off =
    repainted (drill_item_leaves c.tools) (drill_item_leaves (set_value (nat_eq t) c.tools d))
    (λ item. tool_of item == t) (same_of_other c.tools t d met.0) s [] c.items off
