use Rattle.std.proofs.Common.{◌∙◌, ◌∷◌, ◌++◌, [], List, ap, subst, sym, arith}
use Rattle.cam_units.specs.declared.bounds.Bounds.{Bounds}
use Rattle.cam_objects.specs.Attributes.{AreAttributes}
use Rattle.cam_objects.specs.Cells.{AreCellsOf, AreFirstCopiesOf}
use Rattle.cam_objects.specs.Contents.{Content, content_of}
use Rattle.cam_objects.specs.declared.layer.Layer.{Layer}
use Rattle.cam_edits.specs.Steps.{HasRoom, after_step, inverse_step}
use Rattle.cam_edits.proofs.ShiftedItems.{boxes_of, kept_before, layer_cells, layer_leaves}
use Rattle.cam_edits.proofs.indexed.IndexedLayer.play.Goals as goal

pub leaves_at-gone-requires : goal.leaves_at-gone-requires
leaves_at-gone-requires c = c.self.invariant.kept.sound

pub overflow_add-self : goal.overflow_add-self
overflow_add-self c =
    let was = kept_before _ c.play-answer.new.layer _ c.args.step c.of-shift.result _ c.leaves_at-gone.result
    c.self.invariant.kept c.self.view_is c.requires.fits c.play-answer.ensures.content
    c.of-shift.ensures c.leaves_at-gone.ensures in
    let all = layer_leaves _ _ _ _ _ was c.leaves_at-come.ensures in
    omega (arith, all.few)

pub overflow_sub-self : goal.overflow_sub-self
overflow_sub-self c =
    let was = kept_before _ c.play-answer.new.layer _ c.args.step c.of-shift.result _ c.leaves_at-gone.result
    c.self.invariant.kept c.self.view_is c.requires.fits c.play-answer.ensures.content
    c.of-shift.ensures c.leaves_at-gone.ensures in
    let all = layer_leaves _ _ _ _ _ was c.leaves_at-come.ensures in
    omega (arith, all.sum)

pub mend-requires : goal.mend-requires
mend-requires c = grind (arith, kept_before, boxes_of, layer_cells)

pub invariant_of-self : goal.invariant_of-self
invariant_of-self c =
    let was = kept_before _ c.play-answer.new.layer _ c.args.step c.of-shift.result _ c.leaves_at-gone.result
    c.self.invariant.kept c.self.view_is c.requires.fits c.play-answer.ensures.content
    c.of-shift.ensures c.leaves_at-gone.ensures in
    let all = layer_leaves _ _ _ _ _ was c.leaves_at-come.ensures in
    record {
      attributes =
          subst (λ (x : Content). AreAttributes x.attributes)
          (sym (c.play-answer.ensures.content ∙ ap (λ (l : Layer). after_step c.args.step (content_of l)) c.self.view_is))
          c.requires.fits.after.attributes;
      kept = record {
        sound = was.sound;
        leaves = omega (arith, all.sum);
        cells = subst (λ (those : List Bounds). AreCellsOf those c.mend.new.cells) (ap boxes_of c.boxes.ensures)
            c.mend.ensures;
      };
      copies = c.mend_copies.ensures;
    }

pub mend_copies-requires-clause-sound : goal.mend_copies-requires-clause-sound
mend_copies-requires-clause-sound c =
    let was = kept_before _ c.play-answer.new.layer _ c.args.step c.of-shift.result _ c.leaves_at-gone.result
    c.self.invariant.kept c.self.view_is c.requires.fits c.play-answer.ensures.content
    c.of-shift.ensures c.leaves_at-gone.ensures in
    was.sound

pub mend_copies-requires-clause-was : goal.mend_copies-requires-clause-was
mend_copies-requires-clause-was c =
    let was = kept_before _ c.play-answer.new.layer _ c.args.step c.of-shift.result _ c.leaves_at-gone.result
    c.self.invariant.kept c.self.view_is c.requires.fits c.play-answer.ensures.content
    c.of-shift.ensures c.leaves_at-gone.ensures in
    record {
      before = was.before.items.items;
      known = subst (λ es. AreFirstCopiesOf es c.self.inside.layer.items.items c.self.inside.copies) was.entries
          c.self.invariant.copies;
      edit = was.shifted;
    }

pub returns-clause-content : goal.returns-clause-content
returns-clause-content c =
    c.play-answer.ensures.content ∙ ap (λ (l : Layer). after_step c.args.step (content_of l)) c.self.view_is

pub returns-clause-answer : goal.returns-clause-answer
returns-clause-answer c =
    c.play-answer.ensures.answer ∙ ap (λ (l : Layer). inverse_step c.args.step (content_of l)) c.self.view_is

pub returns-clause-room : goal.returns-clause-room
returns-clause-room c = λ rest room.
    c.play-answer.ensures.room rest (subst (HasRoom (rest ++ c.args.step ∷ [])) (sym c.self.view_is) room)

pub boxes-requires : goal.boxes-requires
boxes-requires c = grind (arith)

pub leaves_at-come-requires : goal.leaves_at-come-requires
leaves_at-come-requires c = grind (arith)
