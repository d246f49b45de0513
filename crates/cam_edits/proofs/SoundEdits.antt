-- What an edit makes of sound layers is sound.
use Rattle.std.proofs.lemmas.Grind.{common_steps}
use Rattle.std.proofs.Common.{◌≡◌, ℕ, suc, ◌≤◌, Bool, List, ◌∷◌, ◌++◌, take, drop}
use Rattle.std.proofs.Common.{Option, None, Some, Result, Ok, Err, sym, subst, ◌∙◌, arith}
use Rattle.std.specs.Prelude.{insert, remove, slice_get}
use Rattle.std.proofs.lemmas.List.{take-append-drop}
use Rattle.std.proofs.lemmas.List.Elements.{All-nil, All-set}
use Rattle.cam_refusals.specs.Checks.{first_holding}
use Rattle.cam_units.specs.declared.point.Point.{Point}
use Rattle.cam_objects.specs.declared.entry.Entry.{Entry}
use Rattle.cam_objects.specs.declared.item.Item.{Item}
use Rattle.cam_objects.specs.Contents.{Content as GerberContent, DrillContent}
use Rattle.cam_objects.specs.DrillSoundness.{IsSoundDrillContent}
use Rattle.cam_objects.specs.Shifting.{shifted_item}
use Rattle.cam_objects.specs.Soundness.{IsInside, IsSoundContent, IsSoundItem, KeepsLimits}
use Rattle.cam_objects.specs.Weights.{item_count, weight_in}
use Rattle.cam_objects.proofs.EditedAttributes.{none_set}
use Rattle.cam_objects.proofs.EditedLayers.{layer_edits}
use Rattle.cam_edits.specs.declared.drill_step.DrillStep.{DrillStep}
use Rattle.cam_edits.specs.declared.edit.Change.{Change}
use Rattle.cam_edits.specs.declared.fault.EditFault.{EditFault}
use Rattle.cam_edits.specs.declared.step.Step.{Step}
use Rattle.cam_edits.specs.declared.step.Step.TheVariants as steps
use Rattle.cam_edits.specs.Boards.{changed_at, content_or_empty, empty_content, place_named, with_content}
use Rattle.cam_edits.specs.Editing.{edited, edited_at, edited_sheet, drill_step_checks, step_unless}
use Rattle.cam_edits.specs.Editing.{judged_change, judged_drill, step_checks, with_drill, with_gerber, with_step}
use Rattle.cam_edits.specs.Machinery.PlaceLaws.{changed_is, element_at, reordered_is, within}
use Rattle.cam_edits.specs.Moving.{way}
use Rattle.cam_edits.specs.Places.{changed, changed_to, reordered}
use Rattle.cam_edits.specs.Planning.{EditsStaySound}
use Rattle.cam_edits.specs.Sheets.{AreSound, Content, Gerber, IsSound, IsSoundGerber, Sheet}
use Rattle.cam_edits.specs.Steps.{after_step, items_after, with_aperture, with_object, with_polarity}
use Rattle.cam_edits.proofs.ChangedItems.{count_with_polarity, sound_with_polarity}
use Rattle.cam_edits.proofs.EditedLists.{all_here, length_behind, length_of_other, set_here, split_here, sum_behind, sum_of_other}
use Rattle.cam_edits.proofs.MetSteps.{IsMet, met}
use Rattle.cam_edits.proofs.FittingEdits.{change_accepted, not_refused}
use Rattle.cam_edits.proofs.SoundAttributes.{attributes_stay_sound}
use Rattle.cam_edits.proofs.SoundDrillEdits.{drill_step_stays_sound}

-- ---- Gerber layers

module _ (es : List (ℕ × Entry)) (xs : List Item) (h : IsSoundContent es xs) where
  abbrev AreSoundItems : List Item → Type 0
  AreSoundItems ys = IsSoundContent es ys

  inserted : (k : ℕ) (item : Item) → IsSoundItem es item → KeepsLimits es (insert xs k item)
      → AreSoundItems (insert xs k item)
  inserted k item good room = grind (arith, layer_edits, take-append-drop, length_behind, sum_behind)

  module _ (k : ℕ) (item : Item) (here : slice_get xs k ≡ Some item) where
    abbrev before : List Item
    before = take k xs

    abbrev after : List Item
    after = drop (suc k) xs

    split : AreSoundItems (before ++ item ∷ after)
    split = subst AreSoundItems (split_here xs k item here) h

    changed_here : (f : Item → Item) → changed f xs k ≡ before ++ f item ∷ after
    changed_here f = changed_is xs k item here f ∙ set_here xs k (f item) (within xs k item here)

    good : IsSoundItem es item
    good = all_here (IsSoundItem es) xs k item h.items here

    removed : AreSoundItems (remove xs k)
    removed = layer_edits.remove es before after item split

    moved : (by : Point) → IsInside es (shifted_item by item) → AreSoundItems (changed (shifted_item by) xs k)
    moved by inside =
        subst AreSoundItems (sym (changed_here (shifted_item by)))
        (layer_edits.move es before after item by split inside)

    carried : (m : ℕ) → AreSoundItems (reordered xs k m)
    carried m =
        subst AreSoundItems (sym (reordered_is xs k item here m))
        (layer_edits.reorder es before after (take m (remove xs k)) (drop m (remove xs k)) item split
        (take-append-drop m (remove xs k)))

    replaced : (f : Item → Item) → IsSoundItem es (f item) → KeepsLimits es (changed f xs k)
        → AreSoundItems (changed f xs k)
    replaced f sound limits = grind (arith, changed_here, layer_edits, split)

    inked : (dark : Bool) → AreSoundItems (changed (with_object (with_polarity dark)) xs k)
    inked dark =
        let f = with_object (with_polarity dark) in
        let limits = split.limits in
        let same = count_with_polarity dark (weight_in es) item in
        replaced f (sound_with_polarity dark es item good)
        (subst (KeepsLimits es) (sym (changed_here f))
        (record {
          few = subst (λ n. n ≤ 1000000) (length_of_other before after item (f item)) limits.few;
          leaves =
              subst (λ n. n ≤ 4000000) (sum_of_other (item_count (weight_in es)) before after item (f item) same)
              limits.leaves;
        }))

met_step_sound : (c : GerberContent) (step : Step) → IsSoundContent c.entries c.items → IsMet c step
    → IsSoundContent c.entries (items_after step c.items)
met_step_sound c (steps.Insert k item) h m = inserted c.entries c.items h k item m.1 m.2
met_step_sound c (steps.Delete k) h m =
    let there = element_at c.items k m in removed c.entries c.items h k there.0 there.1
met_step_sound c (steps.Move k dx dy) h m = moved c.entries c.items h k m.0 m.1 (way dx dy) m.2
met_step_sound c (steps.Reorder k m) h both =
    let there = element_at c.items k both.0 in carried c.entries c.items h k there.0 there.1 m
met_step_sound c (steps.Aperture k n) h m =
    replaced c.entries c.items h k m.0 m.1 (with_object (with_aperture n)) m.2.1 m.2.2
met_step_sound c (steps.Polarity k dark) h m = inked c.entries c.items h k m.0 m.1 dark
met_step_sound c (steps.PutAttribute k a) h m = h
met_step_sound c (steps.TakeAttribute k) h m = h
met_step_sound c (steps.SetFields k fields) h m = h

pub step_stays_sound : (c : GerberContent) (step : Step) → IsSoundContent c.entries c.items
    → first_holding (step_checks c step) ≡ None → IsSoundContent c.entries (items_after step c.items)
step_stays_sound c step h none = met_step_sound c step h (met c step none)

-- ---- boards

empty_sound : IsSound empty_content
empty_sound = grind (arith, none_set, All-nil)

pub held_sound : (sheets : List Sheet) (place : ℕ) (o : Option Sheet) → AreSound sheets → slice_get sheets place ≡ o
    → IsSound (content_or_empty o)
held_sound sheets place None h e = empty_sound
held_sound sheets place (Some s) h e = all_here (λ s. IsSound s.content) sheets place s h e

changed_sound : (sheets : List Sheet) (place : ℕ) (new : Content) (o : Option Sheet) → AreSound sheets → IsSound new
    → AreSound (changed_to (with_content (λ _. new)) sheets place o)
changed_sound sheets place new o h sound = grind (arith, common_steps, All-set)

abbrev accepted : List Sheet → Result (List Sheet) EditFault
accepted sheets = Ok sheets

module _ (sheets after : List Sheet) (h : AreSound sheets) where
  -- the sheets after an edit of the sheet at a place, where what that holds then is sound
  put_sound : (place : ℕ) (new : Content) → IsSound new → accepted (changed_at (λ _. new) place sheets) ≡ Ok after
      → AreSound after
  put_sound place new sound e = grind (arith, changed_sound)

  stepped : (change : Change) (place : ℕ) (c : GerberContent) (r : Result Step EditFault) → IsSoundGerber c
      → judged_change c change ≡ r → with_step (with_gerber c) sheets place r ≡ Ok after → AreSound after
  stepped change place c (Ok step) sound judgement e =
      let told = change_accepted c change step judgement in
      let new : IsSoundGerber (after_step step c) =
      record {
        attributes =
            attributes_stay_sound c.attributes sound.attributes change (not_refused c change step judgement) step told.0;
        content = step_stays_sound c step sound.content told.1;
      } in
      put_sound place (Gerber (after_step step c)) new e
  stepped change place c (Err fault) sound judgement e = absurd cc

  drill_stepped : (place : ℕ) (c : DrillContent) (step : DrillStep) (o : Option EditFault)
      → IsSoundDrillContent c.tools c.items
      → first_holding (drill_step_checks c step) ≡ o
      → with_step (with_drill c) sheets place (step_unless step o) ≡ Ok after → AreSound after
  drill_stepped place c step o sound none e = grind (arith, common_steps, put_sound, drill_step_stays_sound)

  drill_judged_sound : (place : ℕ) (c : DrillContent) (o : Option DrillStep) → IsSoundDrillContent c.tools c.items
      → with_step (with_drill c) sheets place (judged_drill c o) ≡ Ok after → AreSound after
  drill_judged_sound place c o sound e = grind (arith, drill_stepped)

  sheet_sound : (change : Change) (place : ℕ) (c : Content) → IsSound c → edited_sheet change sheets place c ≡ Ok after
      → AreSound after
  sheet_sound change place c sound e = grind (arith, stepped, drill_judged_sound)

  edited_at_sound : (change : Change) (o : Option ℕ) → edited_at change sheets o ≡ Ok after → AreSound after
  edited_at_sound change o e = grind (arith, sheet_sound, held_sound)

pub edits_stay_sound : EditsStaySound
unfolding edited
edits_stay_sound edit sheets after h e = edited_at_sound sheets after h edit.change (place_named edit.name sheets) e
