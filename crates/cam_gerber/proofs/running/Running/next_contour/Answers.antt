use Rattle.std.proofs.Common.{sym, ◌∙◌}
use Rattle.cam_commands.specs.Commands.{Operate}
use Rattle.cam_gerber.specs.Statements.{Says}
use Rattle.cam_gerber.proofs.Contours.{refused_alike, next_checks, next_made, next_tracks}
use Rattle.cam_gerber.proofs.running.Running.next_contour.Goals as goal

pub returns-in-Err : goal.returns-in-Err
returns-in-Err c = λ past none t inside moves.
    let k = c.in-Err.ensures past (Says (Operate c.args.operation.now)) none t tt (next_made past c.args.operation.now inside moves) in
    refused_alike c.in-Err.stop _ _ _ _ (next_checks past c.args.operation.now c.args.self.now t c.in-Some.ensures.1) k

pub returns : goal.returns
returns c = λ past none t inside moves.
    let k = c.in_default-end_contour.ensures past (Says (Operate c.args.operation.now)) none t tt
    (next_made past c.args.operation.now inside moves) in (
      sym (next_checks past c.args.operation.now c.args.self.now t c.in-Some.ensures.1) ∙ k.0,
      next_tracks past c.args.operation.now c.args.self.now c.end_contour.new.self c.in-Some.to c.operated.new.self t inside moves
          k.1 c.in-Some.ensures.0 c.operated.ensures,
    )
