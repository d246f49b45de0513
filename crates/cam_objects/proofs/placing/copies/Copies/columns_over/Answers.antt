use Rattle.std.proofs.Common.{rules, ◌↔◌, pos, ◌*ℤ◌, FitsSigned, w64, sym, subst, arith}
use Rattle.std.proofs.lemmas.Int.{to_z-of_z}
use Rattle.cam_units.specs.declared.bounds.Bounds.TheVariants.{Closed}
use Rattle.cam_units.specs.declared.point.Point.{Point}
use Rattle.cam_objects.specs.Bounds.{moved}
use Rattle.cam_objects.specs.Machinery.Runs.{IsInRun, MeetsAcross}
use Rattle.cam_objects.proofs.placing.copies.Copies.columns_over.Goals as goal

pub returns-in-Closed-Closed-clause-each : goal.returns-in-Closed-Closed-clause-each
returns-in-Closed-Closed-clause-each c = λ k other here.
    let at = c.in-Closed-Closed in
    let fs : FitsSigned w64 c.args.self.now.i = search rules in
    let fl : FitsSigned w64 at.low.x = search rules in
    let fh : FitsSigned w64 at.high.x = search rules in
    let fn : FitsSigned w64 at.left.x = search rules in
    let fm : FitsSigned w64 at.right.x = search rules in
    let each = simp to_z-of_z at (c.over.ensures.each k here) in
    let by : Point = record { x = pos k *ℤ c.args.self.now.i; y = other } in
    subst (λ b. IsInRun c.over.result k ↔ MeetsAcross (moved by b) c.args.canvas) (sym at.is-0)
    (subst (λ b. IsInRun c.over.result k ↔ MeetsAcross (moved by (Closed at.low at.high)) b) (sym at.is-1) each)

pub over-requires : goal.over-requires
over-requires c = grind (arith)

pub returns-in_default-clause-each : goal.returns-in_default-clause-each
returns-in_default-clause-each c = grind (arith)

pub returns-in_default-2-clause-each : goal.returns-in_default-2-clause-each
returns-in_default-2-clause-each c = grind (arith)
