-- A step of a Gerber layer keeps the colour of each place outside the boxes of what it touches.
use Rattle.std.proofs.Common.{arith, ◌≡◌, [], Some, refl}
use Rattle.std.specs.Prelude.{slice_get}
use Rattle.cam_units.specs.declared.point.Spot.{Spot}
use Rattle.cam_objects.specs.Contents.{Content, content_leaves}
use Rattle.cam_objects.specs.Leaves.{item_leaves, meaning_in}
use Rattle.cam_objects.specs.Tests.{is_black}
use Rattle.cam_objects.proofs.Painting.{All_left}
use Rattle.cam_edits.specs.declared.step.Step.{Step}
use Rattle.cam_edits.specs.declared.step.Step.TheVariants.{Insert, Delete, Move, Reorder, Aperture, Polarity}
use Rattle.cam_edits.specs.declared.step.Step.TheVariants.{PutAttribute, TakeAttribute, SetFields}
use Rattle.cam_edits.specs.Machinery.PlaceLaws.{element_at}
use Rattle.cam_edits.specs.Steps.{after_step}
use Rattle.cam_edits.specs.Touched.{box_if_there, item_box, touched}
use Rattle.cam_edits.proofs.MetSteps.{IsMet}
use Rattle.cam_edits.proofs.RedrawnItems.{AreOff, IsOff, carried_off, changed_off, item_off, put_in, taken_out}

pub step_keeps_outside : (c : Content) (step : Step) → IsMet c step → (s : Spot)
    → AreOff s (touched step c) → is_black (content_leaves c) s ≡ is_black (content_leaves (after_step step c)) s
unfolding touched
step_keeps_outside c (Insert k item) met s off =
    let paints = item_leaves (meaning_in c.entries) in
    put_in paints s c.items k item (item_off paints s (Some item) item refl off)
step_keeps_outside c (Delete k) met s off =
    let paints = item_leaves (meaning_in c.entries) in
    let there = element_at c.items k met in
    taken_out paints s c.items k there.0 there.1
    (item_off paints s (slice_get c.items k) there.0 there.1
    (All_left (IsOff s) (box_if_there (item_box c.entries) (slice_get c.items k)) [] off))
step_keeps_outside c (Move k dx dy) met s off = grind (arith, changed_off)
step_keeps_outside c (Reorder k m) met s off =
    let paints = item_leaves (meaning_in c.entries) in
    let there = element_at c.items k met.0 in
    let boxes = box_if_there (item_box c.entries) (slice_get c.items k) in
    carried_off paints s c.items k there.0 there.1
    (item_off paints s (slice_get c.items k) there.0 there.1 (All_left (IsOff s) boxes boxes off)) m
step_keeps_outside c (Aperture k n) met s off = grind (arith, changed_off)
step_keeps_outside c (Polarity k dark) met s off = grind (arith, changed_off)
step_keeps_outside c (PutAttribute k a) met s off = refl
step_keeps_outside c (TakeAttribute k) met s off = refl
step_keeps_outside c (SetFields k fields) met s off = refl
