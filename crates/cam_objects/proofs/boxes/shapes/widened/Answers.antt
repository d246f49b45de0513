use Rattle.std.proofs.Common.{◌≡◌, ℤ, ap, sym, subst, ◌∙◌, arith}
use Rattle.std.proofs.lemmas.Int.{ints}
use Rattle.cam_units.specs.declared.bounds.Bounds.{Bounds}
use Rattle.cam_apertures.proofs.Corners.{same_box}
use Rattle.cam_objects.specs.Bounds.{widened}
use Rattle.cam_objects.specs.Machinery.Boxes.{IsNearBox, widened_by}
use Rattle.cam_objects.proofs.boxes.shapes.widened.Goals as goal

alike : (across up : ℤ) (b : Bounds) → across ≡ up → widened_by across up b ≡ widened across b
alike across up b same = grind arith

pub returns-in-Closed-clause-sides : goal.returns-in-Closed-clause-sides
returns-in-Closed-clause-sides c =
    let near = subst IsNearBox c.in-Closed.is c.requires.bounds in
    same_box _ _ _ _ _ _ _ _ (omega (arith, ints, near.0.x)) (omega (arith, ints, near.0.y)) (omega (arith, ints, near.1.x))
    (omega (arith, ints, near.1.y))
    ∙ ap (widened_by c.args.across.now.0 c.args.up.now.0) (sym c.in-Closed.is)

pub returns-in-Closed-clause-even : goal.returns-in-Closed-clause-even
returns-in-Closed-clause-even c = λ same. grind (arith, returns-in-Closed-clause-sides, alike)

pub overflow_sub-result-in-Closed : goal.overflow_sub-result-in-Closed
overflow_sub-result-in-Closed c = grind (arith)

pub overflow_add-result-in-Closed : goal.overflow_add-result-in-Closed
overflow_add-result-in-Closed c = grind (arith)

pub overflow_sub-result : goal.overflow_sub-result
overflow_sub-result c = grind (arith)

pub overflow_add-result : goal.overflow_add-result
overflow_add-result c = grind (arith)
