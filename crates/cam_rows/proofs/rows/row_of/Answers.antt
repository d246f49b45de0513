use Rattle.std.proofs.Common.{arith}
use Rattle.cam_rows.proofs.OneRow.{marks_run}
use Rattle.cam_rows.proofs.rows.row_of.Goals as goal

pub returns : goal.returns
returns g c =
    let found = c.find.ensures in
    marks_run c.run_row.result _ _ c.args.centres.now (g.S.RunShape.holds c.args.shape.now) c.run_row.ensures
    (λ i small. (
      (λ on. found.held 0 i (omega arith) small on),
      (λ held. found.all 0 i (omega arith) small (omega arith, omega (arith, small)) held),
    ))

pub find-requires-clause-rows : goal.find-requires-clause-rows
find-requires-clause-rows c = grind (arith)
