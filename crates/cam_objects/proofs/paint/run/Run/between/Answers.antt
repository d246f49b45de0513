use Rattle.std.proofs.Common.{rules, FitsSigned, w64}
use Rattle.std.proofs.lemmas.Int.{to_z-of_z}
use Rattle.cam_objects.proofs.Runs.{between}
use Rattle.cam_objects.proofs.paint.run.Run.between.Goals as goal

pub returns-clause-each : goal.returns-clause-each
returns-clause-each c = λ k here.
    let fl : FitsSigned w64 c.args.least = c.ranges.least in
    let fm : FitsSigned w64 c.args.most = c.ranges.most in
    let fb : FitsSigned w64 c.saturating_sub.result = search rules in
    between (record { first = c.reached.result; end = c.reached-2.result }) c.args.count c.args.stride k c.args.least
    c.args.most c.saturating_sub.result here fl (simp to_z-of_z at c.saturating_sub.ensures)
    (simp to_z-of_z at c.reached.ensures.each) (simp to_z-of_z at c.reached-2.ensures.each)
