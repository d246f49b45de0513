use Rattle.std.proofs.Common.{sym, ◌∙◌, refl}
use Rattle.cam_commands.specs.Commands.{EndRegion}
use Rattle.cam_gerber.specs.Statements.{Says}
use Rattle.cam_gerber.proofs.Contours.{refused_alike, closed_checks, closed_tracks}
use Rattle.cam_gerber.proofs.running.Running.end_region.Goals as goal

pub returns-in-Err : goal.returns-in-Err
returns-in-Err c = λ past none t.
    let k = c.in-Err.ensures past (Says EndRegion) none t tt refl in
    refused_alike c.in-Err.stop _ _ _ _ (closed_checks past c.args.self.now t c.if-not-self.false) k

pub returns : goal.returns
returns c = λ past none t.
    let k = c.in_default.ensures past (Says EndRegion) none t tt refl in
    (sym (closed_checks past c.args.self.now t c.if-not-self.false) ∙ k.0, closed_tracks past c.args.self.now c.end_contour.new.self t k.1)
