use Rattle.std.proofs.Common.{◌↔◌, IsTrue, ◌&&◌, sym, subst, arith}
use Rattle.cam_units.specs.declared.bounds.Bounds.{Bounds}
use Rattle.cam_units.specs.declared.bounds.Bounds.TheVariants.{Closed}
use Rattle.cam_objects.specs.Enclosed.{IsEnclosed}
use Rattle.cam_objects.proofs.Enclosed.{enclosed}
use Rattle.cam_objects.proofs.asking.enclosed.is_enclosed.Goals as goal

pub returns-in-Closed-Closed : goal.returns-in-Closed-Closed
returns-in-Closed-Closed c =
    let a = c.is_between.result in
    let b = c.is_between-in-Closed-Closed.result in
    let d = c.is_between-in-Closed-Closed-2.result in
    let k = c.in-Closed-Closed in
    subst (λ (inner : Bounds). IsTrue ((a && b) && d) ↔ IsEnclosed inner c.args.outer) (sym k.is-0)
    (subst (λ (outer : Bounds). IsTrue ((a && b) && d) ↔ IsEnclosed (Closed k.low k.high) outer) (sym k.is-1)
    (enclosed k.low k.high k.least k.greatest a b d c.is_between.ensures c.is_between-in-Closed-Closed.ensures
    c.is_between-in-Closed-Closed-2.ensures))

pub returns-in_default-2 : goal.returns-in_default-2
returns-in_default-2 c = grind (arith)

pub returns-in_default : goal.returns-in_default
returns-in_default c = grind (arith)
