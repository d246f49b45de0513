-- Edits of a Gerber layer that are not refused: their steps fit.
use Rattle.std.proofs.Common.{arith, ◌≡◌, true, Option, None, Some, Ok, refl}
use Rattle.cam_refusals.specs.Checks.{first_holding}
use Rattle.cam_objects.specs.Contents.{Content}
use Rattle.cam_objects.specs.Soundness.{IsSoundContent, IsSoundItem}
use Rattle.cam_objects.specs.declared.item.Item.{Item}
use Rattle.cam_objects.proofs.SoundItems.{none_told}
use Rattle.cam_edits.specs.declared.edit.Change.{Change}
use Rattle.cam_edits.specs.declared.fault.EditFault.{EditFault}
use Rattle.cam_edits.specs.declared.step.Step.{Step}
use Rattle.cam_edits.specs.declared.step.Step.TheVariants.{Insert, Delete, Move, Reorder, Aperture, Polarity}
use Rattle.cam_edits.specs.declared.step.Step.TheVariants.{PutAttribute, TakeAttribute, SetFields}
use Rattle.cam_edits.specs.AttributeEdits.{attribute_checks}
use Rattle.cam_edits.specs.Editing.{has_aperture, has_polarity, judged, judged_change, judged_unless, step_checks, step_of}
use Rattle.cam_edits.specs.Machinery.Judging.{IsItemStep, step_answer}
use Rattle.cam_edits.specs.Moving.{IsMovableItem, way}
use Rattle.cam_edits.specs.Steps.{HasAperture, IsFit, IsOne}
use Rattle.cam_edits.proofs.EditedLists.{all_here}
use Rattle.cam_edits.proofs.ItemMoves.{movable_item, shiftable_way, short_item}
use Rattle.cam_edits.proofs.MetSteps.{IsMet, met}
use Rattle.cam_edits.proofs.Refusals.{accepted, has_at}

module _ (c : Content) where
  -- ---- an edit of items

  one_aperture : (x : Item) → has_aperture x ≡ true → IsOne HasAperture x
  one_aperture x e = grind arith

  one_object : (x : Item) → has_polarity x ≡ true → IsOne (λ _. Unit {0}) x
  one_object x e = grind arith

  fits : (step : Step) → IsItemStep step → IsSoundContent c.entries c.items → IsMet c step → IsFit step c
  fits (Insert k item) is h m = m.0
  fits (Delete k) is h m = m
  fits (Move k dx dy) is h m =
      let by = way dx dy in
      let sound : IsSoundItem c.entries m.0 = all_here (IsSoundItem c.entries) c.items k m.0 h.items m.1 in (
        shiftable_way by (short_item by c.entries m.0 sound m.2),
        has_at (IsMovableItem by) c.items k m.0 m.1 (movable_item by c.entries m.0 sound m.2),
      )
  fits (Reorder k m) is h both = both
  fits (Aperture k n) is h m = has_at (IsOne HasAperture) c.items k m.0 m.1 (one_aperture m.0 m.2.0)
  fits (Polarity k dark) is h m = has_at (IsOne (λ _. Unit {0})) c.items k m.0 m.1 (one_object m.0 m.2)
  fits (PutAttribute k a) is h m = absurd is
  fits (TakeAttribute k) is h m = absurd is
  fits (SetFields k fields) is h m = absurd is

  pub passes_fits : (step : Step) (done : Unit) → Ok done ≡ step_answer c step → IsItemStep step
      → IsSoundContent c.entries c.items → IsFit step c
  passes_fits step done e item h = fits step item h (met c step (none_told (first_holding (step_checks c step)) done e))

  -- ---- changes

  module _ (change : Change) (step : Step) (e : judged_change c change ≡ Ok step) where
    -- one that is answered is not refused for attributes either
    answered : (o : Option EditFault) → first_holding (attribute_checks c.attributes change) ≡ o
        → judged_unless c o (step_of c.attributes change) ≡ Ok step
        → (o ≡ None) × (judged c (step_of c.attributes change) ≡ Ok step)
    answered o is e = grind arith

    pub not_refused : first_holding (attribute_checks c.attributes change) ≡ None
    not_refused = (answered (first_holding (attribute_checks c.attributes change)) refl e).0

    pub change_accepted : (step_of c.attributes change ≡ Some step) × (first_holding (step_checks c step) ≡ None)
    change_accepted = grind (arith, accepted, answered)
