-- What an edit makes of the sheets, by lists alone, or its first refusal.
use Rattle.std.specs.Prelude.{ℕ, nat_le, nat_lt, int_le, Bool, true, false, not, ◌&&◌, pos, List}
use Rattle.std.specs.Prelude.{[], ◌∷◌, length, Option, None, Some, Result, Ok, Err, insert, is_some, slice_get}
use Rattle.std.specs.Option.{option_map}
use Rattle.cam_refusals.specs.Checks.{Checks, first_holding}
use Rattle.cam_refusals.specs.Limits.{count_limit, size_limit}
use Rattle.cam_units.specs.declared.length.Nm.{Nm}
use Rattle.cam_units.specs.declared.point.Point.{Point}
use Rattle.cam_objects.specs.Attributes.{attribute_place}
use Rattle.cam_objects.specs.Contents.{Content as GerberContent, DrillContent}
use Rattle.cam_objects.specs.Drilling.{diameter_of}
use Rattle.cam_objects.specs.DrillSoundness.{drill_points_of, keeps_drill_limits, tool_of}
use Rattle.cam_objects.specs.Shifting.{shifted_drill_item, shifted_item}
use Rattle.cam_objects.specs.Soundness.{are_on_board, has_radii, is_drawable_item, is_formed_item, is_inside}
use Rattle.cam_objects.specs.Soundness.{is_known_item, is_within_limits, keeps_limits}
use Rattle.cam_objects.specs.declared.attribute.Attribute.{Attribute}
use Rattle.cam_objects.specs.declared.drill_item.DrillItem.{DrillItem}
use Rattle.cam_objects.specs.declared.item.Item.{Item}
use Rattle.cam_objects.specs.declared.item.Item.TheVariants.{One}
use Rattle.cam_objects.specs.declared.object.Object.TheVariants.{Flash, Draw, Arc}
use Rattle.cam_edits.specs.declared.drill_step.DrillStep.{DrillStep}
use Rattle.cam_edits.specs.declared.drill_step.DrillStep.TheVariants as drill_steps
use Rattle.cam_edits.specs.declared.edit.Change.{Change}
use Rattle.cam_edits.specs.declared.edit.Change.TheVariants as changes
use Rattle.cam_edits.specs.declared.edit.Edit.{Edit}
use Rattle.cam_edits.specs.declared.edit.NewItem.TheVariants as new_items
use Rattle.cam_edits.specs.declared.fault.EditFault.{EditFault}
use Rattle.cam_edits.specs.declared.fault.EditFault.TheVariants.{NoLayer, WrongKind, NoItem, HasNone}
use Rattle.cam_edits.specs.declared.fault.EditFault.TheVariants.{NoAperture, NoTool, WrongAperture, SizeRefused}
use Rattle.cam_edits.specs.declared.fault.EditFault.TheVariants.{OutOfBoard, TooMuch}
use Rattle.cam_edits.specs.declared.step.Step.{Step}
use Rattle.cam_edits.specs.declared.step.Step.TheVariants as steps
use Rattle.cam_edits.specs.AttributeEdits.{attribute_checks, setting_step}
use Rattle.cam_edits.specs.Boards.{changed_at, content_at, place_named}
use Rattle.cam_edits.specs.DrillSteps.{after_drill_step}
use Rattle.cam_edits.specs.Moving.{way}
use Rattle.cam_edits.specs.Places.{changed}
use Rattle.cam_edits.specs.Sheets.{Content, Gerber, Drill, Sheet}
use Rattle.cam_edits.specs.Steps.{after_step, with_aperture, with_object}

-- ---- the steps of edits

-- the step of an edit of a Gerber layer with these attributes, where the edit goes with one
abbrev pub step_of : List Attribute → Change → Option Step
step_of attributes (changes.Insert k (new_items.Gerber item)) = Some (steps.Insert k item)
step_of attributes (changes.Delete k) = Some (steps.Delete k)
step_of attributes (changes.Move k dx dy) = Some (steps.Move k dx dy)
step_of attributes (changes.Reorder k m) = Some (steps.Reorder k m)
step_of attributes (changes.Aperture k n) = Some (steps.Aperture k n)
step_of attributes (changes.Polarity k dark) = Some (steps.Polarity k dark)
step_of attributes (changes.SetAttribute key fields) =
    Some (setting_step key fields (length attributes) (attribute_place key attributes))
step_of attributes (changes.DropAttribute key) = option_map steps.TakeAttribute (attribute_place key attributes)
step_of attributes _ = None

-- and of a drill layer
abbrev pub drill_step_of : Change → Option DrillStep
drill_step_of (changes.Insert k (new_items.Drill item)) = Some (drill_steps.Insert k item)
drill_step_of (changes.Delete k) = Some (drill_steps.Delete k)
drill_step_of (changes.Move k dx dy) = Some (drill_steps.Move k dx dy)
drill_step_of (changes.Reorder k m) = Some (drill_steps.Reorder k m)
drill_step_of (changes.Tool k t) = Some (drill_steps.Tool k t)
drill_step_of (changes.Diameter t d) = Some (drill_steps.Diameter t d)
drill_step_of _ = None

-- the step of an edit, or what the edit is refused for first
abbrev pub step_unless : {S : Type 0} → S → Option EditFault → Result S EditFault
step_unless step None = Ok step
step_unless step (Some fault) = Err fault

-- by what its kind of layer checks of steps
abbrev pub judged_by : {S : Type 0} → (S → Checks EditFault) → Option S → Result S EditFault
judged_by checks None = Err WrongKind
judged_by checks (Some step) = step_unless step (first_holding (checks step))

-- ---- what a step of a Gerber layer may be refused for, in the order in which it is told

abbrev pub has_aperture : Item → Bool
has_aperture (One (Flash n at t dark)) = true
has_aperture (One (Draw n from to t dark)) = true
has_aperture (One (Arc ccw dark n from to centre)) = true
has_aperture _ = false

abbrev pub has_polarity : Item → Bool
has_polarity (One object) = true
has_polarity _ = false

module _ (c : GerberContent) where
  abbrev pub insert_checks : ℕ → Item → Checks EditFault
  insert_checks k item =
      (WrongKind, not (is_formed_item item))
      ∷ (NoItem, not (nat_le k (length c.items)))
      ∷ (NoAperture, not (is_known_item c.entries item))
      ∷ (WrongAperture, not (is_drawable_item c.entries item))
      ∷ (SizeRefused, not (has_radii item))
      ∷ (OutOfBoard, not (is_inside c.entries item))
      ∷ (TooMuch, not (is_within_limits c.entries item && keeps_limits c.entries (insert c.items k item))) ∷ []

  abbrev pub delete_checks : ℕ → Checks EditFault
  delete_checks k = (NoItem, not (nat_lt k (length c.items))) ∷ []

  -- by the item at its place
  abbrev pub move_checks : Point → Option Item → Checks EditFault
  move_checks by None = (NoItem, true) ∷ []
  move_checks by (Some item) = (OutOfBoard, not (is_inside c.entries (shifted_item by item))) ∷ []

  abbrev pub reorder_checks : ℕ → ℕ → Checks EditFault
  reorder_checks k m = (NoItem, not (nat_lt k (length c.items) && nat_lt m (length c.items))) ∷ []

  -- by the item at its place, k
  abbrev pub aperture_checks : ℕ → ℕ → Option Item → Checks EditFault
  aperture_checks k n None = (NoItem, true) ∷ []
  aperture_checks k n (Some before) =
      let item = with_object (with_aperture n) before in
      let items = changed (with_object (with_aperture n)) c.items k in
      (HasNone, not (has_aperture before))
      ∷ (NoAperture, not (is_known_item c.entries item))
      ∷ (WrongAperture, not (is_drawable_item c.entries item))
      ∷ (SizeRefused, not (has_radii item))
      ∷ (OutOfBoard, not (is_inside c.entries item))
      ∷ (TooMuch, not (is_within_limits c.entries item && keeps_limits c.entries items)) ∷ []

  -- by the item at its place
  abbrev pub polarity_checks : Option Item → Checks EditFault
  polarity_checks None = (NoItem, true) ∷ []
  polarity_checks (Some item) = (HasNone, not (has_polarity item)) ∷ []

  unfoldable pub step_checks : Step → Checks EditFault
  step_checks (steps.Insert k item) = insert_checks k item
  step_checks (steps.Delete k) = delete_checks k
  step_checks (steps.Move k dx dy) = move_checks (way dx dy) (slice_get c.items k)
  step_checks (steps.Reorder k m) = reorder_checks k m
  step_checks (steps.Aperture k n) = aperture_checks k n (slice_get c.items k)
  step_checks (steps.Polarity k dark) = polarity_checks (slice_get c.items k)
  step_checks _ = []

  abbrev pub judged : Option Step → Result Step EditFault
  judged step = judged_by step_checks step

  abbrev pub judged_unless : Option EditFault → Option Step → Result Step EditFault
  judged_unless None step = judged step
  judged_unless (Some fault) step = Err fault

  -- what is to change in a layer of its kind; an edit of attributes has checks of its own
  abbrev pub judged_change : Change → Result Step EditFault
  judged_change change =
      judged_unless (first_holding (attribute_checks c.attributes change)) (step_of c.attributes change)

-- ---- of a drill layer

-- a tool has a diameter from 1 nm to 200 mm
abbrev pub is_tool_size : Nm → Bool
is_tool_size d = int_le (pos 1) d.0 && int_le d.0 (pos size_limit)

module _ (c : DrillContent) where
  abbrev pub has_tool : ℕ → Bool
  has_tool t = is_some (diameter_of c.tools t)

  abbrev pub insert_drill_checks : ℕ → DrillItem → Checks EditFault
  insert_drill_checks k item =
      (WrongKind, not (nat_lt 0 (length (drill_points_of item))))
      ∷ (NoItem, not (nat_le k (length c.items)))
      ∷ (NoTool, not (has_tool (tool_of item)))
      ∷ (OutOfBoard, not (are_on_board (drill_points_of item)))
      ∷ (TooMuch, not (nat_le (length (drill_points_of item)) count_limit && keeps_drill_limits (insert c.items k item))) ∷ []

  abbrev pub delete_drill_checks : ℕ → Checks EditFault
  delete_drill_checks k = (NoItem, not (nat_lt k (length c.items))) ∷ []

  -- by the item at its place
  abbrev pub move_drill_checks : Point → Option DrillItem → Checks EditFault
  move_drill_checks by None = (NoItem, true) ∷ []
  move_drill_checks by (Some item) =
      (OutOfBoard, not (are_on_board (drill_points_of (shifted_drill_item by item)))) ∷ []

  abbrev pub reorder_drill_checks : ℕ → ℕ → Checks EditFault
  reorder_drill_checks k m = (NoItem, not (nat_lt k (length c.items) && nat_lt m (length c.items))) ∷ []

  abbrev pub tool_checks : ℕ → ℕ → Checks EditFault
  tool_checks k t = (NoItem, not (nat_lt k (length c.items))) ∷ (NoTool, not (has_tool t)) ∷ []

  abbrev pub diameter_checks : ℕ → Nm → Checks EditFault
  diameter_checks t d = (NoTool, not (has_tool t)) ∷ (SizeRefused, not (is_tool_size d)) ∷ []

  unfoldable pub drill_step_checks : DrillStep → Checks EditFault
  drill_step_checks (drill_steps.Insert k item) = insert_drill_checks k item
  drill_step_checks (drill_steps.Delete k) = delete_drill_checks k
  drill_step_checks (drill_steps.Move k dx dy) = move_drill_checks (way dx dy) (slice_get c.items k)
  drill_step_checks (drill_steps.Reorder k m) = reorder_drill_checks k m
  drill_step_checks (drill_steps.Tool k t) = tool_checks k t
  drill_step_checks (drill_steps.Diameter t d) = diameter_checks t d

  abbrev pub judged_drill : Option DrillStep → Result DrillStep EditFault
  judged_drill step = judged_by drill_step_checks step

-- ---- boards

-- the sheets, where that at a place holds what the step makes of it
abbrev pub with_step : {S : Type 0} → (S → Content) → List Sheet → ℕ → Result S EditFault → Result (List Sheet) EditFault
with_step after sheets place (Ok step) = Ok (changed_at (λ _. after step) place sheets)
with_step after sheets place (Err fault) = Err fault

abbrev pub with_gerber : GerberContent → Step → Content
with_gerber c step = Gerber (after_step step c)

abbrev pub with_drill : DrillContent → DrillStep → Content
with_drill c step = Drill (after_drill_step step c)

abbrev pub edited_sheet : Change → List Sheet → ℕ → Content → Result (List Sheet) EditFault
edited_sheet change sheets place (Gerber c) = with_step (with_gerber c) sheets place (judged_change c change)
edited_sheet change sheets place (Drill c) =
    with_step (with_drill c) sheets place (judged_drill c (drill_step_of change))

abbrev pub edited_at : Change → List Sheet → Option ℕ → Result (List Sheet) EditFault
edited_at change sheets None = Err NoLayer
edited_at change sheets (Some place) = edited_sheet change sheets place (content_at sheets place)

-- the sheets after an edit, or why it is refused
unfoldable pub edited : Edit → List Sheet → Result (List Sheet) EditFault
edited edit sheets = edited_at edit.change sheets (place_named edit.name sheets)
