-- An accepted edit changes what its sheet paints in the boxes that it touches alone.
use Rattle.std.proofs.Common.{◌≡◌, ℕ, List, Option, None, Some, Result, Ok, Err, refl, ap, sym, subst, ◌∙◌}
use Rattle.std.specs.Prelude.{slice_get}
use Rattle.std.proofs.lemmas.List.{length-set}
use Rattle.cam_units.specs.declared.bounds.Bounds.{Bounds}
use Rattle.cam_units.specs.declared.point.Spot.{Spot}
use Rattle.cam_objects.specs.Contents.{Content as GerberContent, DrillContent}
use Rattle.cam_edits.specs.declared.drill_step.DrillStep.{DrillStep}
use Rattle.cam_edits.specs.declared.edit.Change.{Change}
use Rattle.cam_edits.specs.declared.fault.EditFault.{EditFault}
use Rattle.cam_edits.specs.declared.step.Step.{Step}
use Rattle.cam_edits.specs.BoxLaws.{ChangesInside, EditBoxLaw}
use Rattle.cam_edits.specs.Boards.{changed_at, content_at, content_or_empty, place_named, with_content}
use Rattle.cam_edits.specs.DrillSteps.{after_drill_step}
use Rattle.cam_edits.specs.Editing.{drill_step_checks, drill_step_of, edited, edited_at, edited_sheet, judged_change}
use Rattle.cam_edits.specs.Editing.{judged_drill, with_drill, with_gerber, with_step}
use Rattle.cam_edits.specs.Images.{image_of}
use Rattle.cam_edits.specs.Machinery.PlaceLaws.{get_set}
use Rattle.cam_edits.specs.Places.{changed_to}
use Rattle.cam_edits.specs.Sheets.{Content, Gerber, Drill, Sheet, sheet}
use Rattle.cam_edits.specs.Steps.{after_step}
use Rattle.cam_edits.specs.Touches.{Touch, boxes_in, boxes_of_drill_step, boxes_of_step, touch_at, touch_of_edit}
use Rattle.cam_edits.proofs.DrillStepBoxes.{drill_step_keeps_outside}
use Rattle.cam_edits.proofs.EditedLists.{get_other}
use Rattle.cam_edits.proofs.FittingEdits as fitting_edits
use Rattle.cam_edits.proofs.GerberStepBoxes.{step_keeps_outside}
use Rattle.cam_edits.proofs.RedrawnItems.{AreOff}
use Rattle.cam_edits.proofs.Refusals.{accepted as accepted_step}
use Rattle.cam_edits.proofs.MetSteps.{drill_met, met}

abbrev touch : ℕ → List Bounds → Touch
touch place boxes = record { sheet = place; boxes = boxes }

-- what the new content paints outside the boxes is what the old one does
abbrev KeepsOutside : List Bounds → Content → Content → Type 0
KeepsOutside boxes old new = (s : Spot) → AreOff s boxes → image_of old s ≡ image_of new s

abbrev accepted : List Sheet → Result (List Sheet) EditFault
accepted sheets = Ok sheets

-- ---- one sheet with other content

module _ (sheets : List Sheet) (place : ℕ) (boxes : List Bounds) (new : Content) where
  put : (o : Option Sheet) → slice_get sheets place ≡ o → KeepsOutside boxes (content_or_empty o) new
      → ChangesInside (touch place boxes) sheets (changed_to (with_content (λ _. new)) sheets place o)
  put None here keeps = record { count = refl; outside = λ s off. refl; others = λ other differs. refl }
  put (Some s) here keeps =
      let after = sheet s.name new in record {
        count = length-set sheets place after;
        outside = λ spot off.
            ap (λ (o : Option Sheet). image_of (content_or_empty o) spot) here
            ∙ keeps spot off
            ∙ sym (ap (λ (o : Option Sheet). image_of (content_or_empty o) spot) (get_set sheets place s after here));
        others = λ other differs. ap content_or_empty (get_other sheets place other after differs);
      }

  put_at : (after : List Sheet) → KeepsOutside boxes (content_at sheets place) new
      → accepted (changed_at (λ _. new) place sheets) ≡ Ok after → ChangesInside (touch place boxes) sheets after
  put_at after keeps e =
      let is : changed_at (λ _. new) place sheets ≡ after = cc in
      subst (ChangesInside (touch place boxes) sheets) is (put (slice_get sheets place) refl keeps)

-- ---- steps

gerber_kept : (c : GerberContent) (change : Change) (step : Step) → judged_change c change ≡ Ok step
    → KeepsOutside (boxes_in change (Gerber c)) (Gerber c) (Gerber (after_step step c))
gerber_kept c change step e s off =
    let told = fitting_edits.change_accepted c change step e in
    step_keeps_outside c step (met c step told.1) s
    (subst (λ (o : Option Step). AreOff s (boxes_of_step o c)) told.0 off)

drill_kept : (c : DrillContent) (o : Option DrillStep) (step : DrillStep) → judged_drill c o ≡ Ok step
    → KeepsOutside (boxes_of_drill_step o c) (Drill c) (Drill (after_drill_step step c))
drill_kept c o step e s off =
    let told = accepted_step (drill_step_checks c) o step e in
    drill_step_keeps_outside c step (drill_met c step told.1) s
    (subst (λ (o : Option DrillStep). AreOff s (boxes_of_drill_step o c)) told.0 off)

module _ (change : Change) (sheets after : List Sheet) (place : ℕ) where
  abbrev IsInside : Content → Type 0
  IsInside c = ChangesInside (touch place (boxes_in change c)) sheets after

  stepped : {S : Type 0} (new : S → Content) (c : Content) → content_at sheets place ≡ c → (r : Result S EditFault)
      → ((step : S) → r ≡ Ok step → KeepsOutside (boxes_in change c) c (new step))
      → with_step new sheets place r ≡ Ok after → IsInside c
  stepped new c holds (Ok step) keeps e =
      let boxes = boxes_in change c in
      put_at sheets place boxes (new step) after
      (subst (λ old. KeepsOutside boxes old (new step)) (sym holds) (keeps step refl)) e
  stepped new c holds (Err fault) keeps e = absurd cc

  sheet_edited : (c : Content) → content_at sheets place ≡ c → edited_sheet change sheets place c ≡ Ok after
      → IsInside c
  sheet_edited (Gerber c) holds e =
      stepped (with_gerber c) (Gerber c) holds (judged_change c change) (gerber_kept c change) e
  sheet_edited (Drill c) holds e =
      stepped (with_drill c) (Drill c) holds (judged_drill c (drill_step_of change)) (drill_kept c (drill_step_of change)) e

board_edited : (change : Change) (sheets after : List Sheet) (o : Option ℕ) → edited_at change sheets o ≡ Ok after
    → ChangesInside (touch_at change sheets o) sheets after
board_edited change sheets after None e = absurd cc
board_edited change sheets after (Some place) e =
    sheet_edited change sheets after place (content_at sheets place) refl e

pub edits_stay_in_their_boxes : EditBoxLaw
unfolding edited touch_of_edit
edits_stay_in_their_boxes edit sheets after e =
    board_edited edit.change sheets after (place_named edit.name sheets) e
