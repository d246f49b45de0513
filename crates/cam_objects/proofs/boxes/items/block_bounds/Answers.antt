use Rattle.std.proofs.Common.{rules, List, ap, sym, ◌∙◌, arith}
use Rattle.std.proofs.lemmas.Grind.{common_steps}
use Rattle.std.proofs.lemmas.List.{take_all}
use Rattle.cam_objects.specs.declared.object.Object.{Object}
use Rattle.cam_objects.specs.Bounds.{bounds_of, box_of_all}
use Rattle.cam_objects.specs.Leaves.{meaning_in, object_leaves, origin}
use Rattle.cam_objects.proofs.ItemBounds.{bounded_block, near_block}
use Rattle.cam_objects.proofs.boxes.items.block_bounds.Goals as goal

pub returns-clause-value : goal.returns-clause-value
returns-clause-value c =
    let es = c.args.entries.now in
    c.loop-object.invariant.box
    ∙ ap (λ (os : List Object). box_of_all (λ o. bounds_of (object_leaves (meaning_in es) origin o)) os)
    (take_all c.loop-object.object-index c.args.objects.now (omega arith))
    ∙ sym (bounded_block es c.soundness.ensures c.args.objects.now c.requires.board)

pub returns-clause-near : goal.returns-clause-near
returns-clause-near c = search (rules, returns-clause-value, near_block)

pub loop-object-preserved : goal.loop-object-preserved
loop-object-preserved c = grind (arith, common_steps)
