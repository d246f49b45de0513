-- What a plan of an edit is, by what its sheet holds.
use Rattle.std.proofs.Common.{arith, ◌≡◌, ℕ, ◌<◌, List, length, None, Some, Result, Ok, Err, Global, refl, ap, sym, subst, ◌∙◌}
use Rattle.std.specs.Prelude.{slice_get}
use Rattle.std.specs.declared.vec.Vec.{Vec}
use Rattle.cam_units.specs.declared.bounds.Bounds.{Bounds}
use Rattle.cam_objects.specs.Contents.{Content as GerberContent, DrillContent}
use Rattle.cam_objects.specs.DrillSoundness.{IsSoundDrillContent}
use Rattle.cam_edits.specs.declared.board_step.BoardStep.TheVariants as plans
use Rattle.cam_edits.specs.declared.drill_step.DrillStep.{DrillStep}
use Rattle.cam_edits.specs.declared.edit.Edit.{Edit}
use Rattle.cam_edits.specs.declared.fault.EditFault.{EditFault}
use Rattle.cam_edits.specs.declared.fault.EditFault.TheVariants.{NoLayer, Memory}
use Rattle.cam_edits.specs.declared.step.Step.{Step}
use Rattle.cam_edits.specs.BoardSteps.{IsDrillFitOn, IsFitOn, after_drill_on, after_on}
use Rattle.cam_edits.specs.Boards.{changed_at, content_at, content_or_empty, place_named}
use Rattle.cam_edits.specs.DrillSteps.{IsDrillFit, IsSoundDrillStep}
use Rattle.cam_edits.specs.Editing.{drill_step_checks, drill_step_of, edited, edited_at, edited_sheet, judged_change}
use Rattle.cam_edits.specs.Editing.{judged_drill, with_drill, with_gerber, with_step}
use Rattle.cam_edits.specs.Machinery.PlaceLaws.{element_at}
use Rattle.cam_edits.specs.Planning.{IsPlan, IsRefused, IsStepOf}
use Rattle.cam_edits.specs.Sheets.{AreSound, Content, Gerber, Drill, IsSound, IsSoundGerber, Sheet}
use Rattle.cam_edits.specs.Steps.{IsFit, IsSoundStep}
use Rattle.cam_edits.specs.Touched.{drill_touched, touched}
use Rattle.cam_edits.proofs.EditedLists.{all_here}
use Rattle.cam_edits.proofs.FittingEdits as fitting_edits
use Rattle.cam_edits.proofs.Refusals.{accepted, has_at}
use Rattle.cam_edits.proofs.SoundAttributes.{attributes_stay_sound}
use Rattle.cam_edits.proofs.SoundDrillEdits.{drill_step_stays_sound}
use Rattle.cam_edits.proofs.SoundEdits.{step_stays_sound}

module _ (edit : Edit) (sheets : List Sheet) where
  -- no sheet of the name
  pub no_layer : place_named edit.name sheets ≡ None → IsRefused (edited edit sheets) NoLayer
  unfolding edited
  no_layer e = subst (λ r. IsRefused r NoLayer) (sym (ap (edited_at edit.change sheets) e)) refl

  module _ (place : ℕ) (named : place_named edit.name sheets ≡ Some place) (within : place < length sheets) where
    there : (s : Sheet) × (slice_get sheets place ≡ Some s)
    there = element_at sheets place within

    holds_there : (content : Content) → content_at sheets place ≡ content → there.0.content ≡ content
    holds_there content e = sym (ap content_or_empty there.1) ∙ e

    pub sound_there : AreSound sheets → (content : Content) → content_at sheets place ≡ content → IsSound content
    sound_there h content e =
        subst IsSound (holds_there content e) (all_here (λ s. IsSound s.content) sheets place there.0 h there.1)

    edited_there : (content : Content) → content_at sheets place ≡ content
        → edited edit sheets ≡ edited_sheet edit.change sheets place content
    unfolding edited
    edited_there content e = ap (edited_at edit.change sheets) named ∙ ap (edited_sheet edit.change sheets place) e

    -- two changes that make the same of what the sheet holds
    same_change : (f g : Content → Content) → f there.0.content ≡ g there.0.content
        → changed_at f place sheets ≡ changed_at g place sheets
    same_change f g same = grind (arith, there)

    -- ---- a layer of either kind, by how the edit is judged

    module _ {S : Type 0} (content : Content) (holds : content_at sheets place ≡ content) (after : S → Content)
        (answer : Result S EditFault)
        (is : edited_sheet edit.change sheets place content ≡ with_step after sheets place answer) where
      edited_by : (told : Result S EditFault) → answer ≡ told → edited edit sheets ≡ with_step after sheets place told
      edited_by told e = edited_there content holds ∙ is ∙ ap (with_step after sheets place) e

      pub told : (fault : EditFault) → answer ≡ Err fault → IsRefused (edited edit sheets) fault
      told fault e = subst (λ r. IsRefused r fault) (sym (edited_by (Err fault) e)) refl

      pub no_memory : (step : S) → answer ≡ Ok step → (fault : EditFault) → fault ≡ Memory
          → IsRefused (edited edit sheets) fault
      no_memory step e fault memory = subst (λ r. IsRefused r fault) (sym (edited_by (Ok step) e)) memory

    -- ---- a Gerber layer

    module _ (c : GerberContent) (holds : content_at sheets place ≡ Gerber c) where
      module _ (step : Step) (e : judged_change c edit.change ≡ Ok step) where
        pub planned : (boxes : Vec Bounds Global) → boxes.items ≡ touched step c → IsFit step c → IsSoundGerber c
            → IsPlan sheets edit (plans.Gerber place step boxes)
        planned boxes are fit sound =
            let told = fitting_edits.change_accepted c edit.change step e in
            let fits : IsSoundStep step c =
            record {
              fits = fit;
              before = sound;
              after = record {
                attributes =
                    attributes_stay_sound c.attributes sound.attributes edit.change
                    (fitting_edits.not_refused c edit.change step e) step told.0;
                content = step_stays_sound c step sound.content told.1;
              };
            } in
            let is : there.0.content ≡ Gerber c = holds_there (Gerber c) holds in
            let change : Content → Content = λ _. with_gerber c step in record {
              edited_is =
                  edited_by (Gerber c) holds (with_gerber c) (judged_change c edit.change) refl (Ok step) e
                  ∙ ap Ok (same_change change (after_on step) (ap (after_on step) (sym is)));
              fits =
                  has_at (λ s. IsFitOn step s.content) sheets place there.0 there.1 (subst (IsFitOn step) (sym is) fits);
              named = named;
              step_is =
                  subst (λ content. IsStepOf edit.change content (plans.Gerber place step boxes)) (sym holds)
                  (told.0, are);
            }

    -- ---- a drill layer

    module _ (c : DrillContent) (holds : content_at sheets place ≡ Drill c) where
      module _ (step : DrillStep) (e : judged_drill c (drill_step_of edit.change) ≡ Ok step) where
        pub drill_planned : (boxes : Vec Bounds Global) → boxes.items ≡ drill_touched step c → IsDrillFit step c
            → IsSoundDrillContent c.tools c.items
            → IsPlan sheets edit (plans.Drill place step boxes)
        drill_planned boxes are fit sound =
            let told = accepted (drill_step_checks c) (drill_step_of edit.change) step e in
            let fits : IsSoundDrillStep step c =
            record { fits = fit; before = sound; after = drill_step_stays_sound c step sound told.1 } in
            let is : there.0.content ≡ Drill c = holds_there (Drill c) holds in
            let change : Content → Content = λ _. with_drill c step in record {
              edited_is =
                  edited_by (Drill c) holds (with_drill c) (judged_drill c (drill_step_of edit.change)) refl (Ok step) e
                  ∙ ap Ok (same_change change (after_drill_on step) (ap (after_drill_on step) (sym is)));
              fits =
                  has_at (λ s. IsDrillFitOn step s.content) sheets place there.0 there.1
                  (subst (IsDrillFitOn step) (sym is) fits);
              named = named;
              step_is =
                  subst (λ content. IsStepOf edit.change content (plans.Drill place step boxes)) (sym holds)
                  (told.0, are);
            }
