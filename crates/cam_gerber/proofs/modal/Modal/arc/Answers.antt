use Rattle.cam_gerber.specs.Machinery.Tracking.{centre_by, moved_point}
use Rattle.cam_gerber.proofs.Paths.{on_board_test, centre_outside}
use Rattle.cam_gerber.proofs.modal.Modal.arc.Goals as goal

pub returns-in_default-clause-faults : goal.returns-in_default-clause-faults
returns-in_default-clause-faults c =
    centre_outside c.args.self.now.arcs c.args.self.now.point (moved_point c.args.self.now c.args.operation.now)
    (centre_by c.args.self.now c.args.operation.now) c.if-not-self.false
    (on_board_test c.args.self.now.point c.args.self.now.on_board) c.in_default.ensures
