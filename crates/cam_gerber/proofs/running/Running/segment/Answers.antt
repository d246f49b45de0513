use Rattle.std.proofs.Common.{length, refl, subst, arith}
use Rattle.std.proofs.lemmas.Bool.{le-leb, lt-leb}
use Rattle.cam_gerber.specs.Machinery.Tracking.{IsOperated}
use Rattle.cam_gerber.proofs.Contours.{segment_tracks, segment_full, segment_told}
use Rattle.cam_gerber.proofs.running.Running.segment.Goals as goal

pub returns-in-Err : goal.returns-in-Err
returns-in-Err c = λ past none t inside plots.
    segment_told past c.args.operation.now c.args.self.now.modal _ t.modal c.in-Err.ensures.faults

pub returns-then-len-ge-COUNT_LIMIT : goal.returns-then-len-ge-COUNT_LIMIT
returns-then-len-ge-COUNT_LIMIT c = λ past none t inside plots. grind (arith, segment_full, le-leb)

pub returns : goal.returns
returns c = λ past none t inside plots.
    segment_tracks past c.args.operation.now c.args.self.now _ c.operated.new.self c.in-Ok.seg t inside plots c.in-Ok.ensures.faults
    (lt-leb 1000000 (length c.args.self.now.region.segs.items) (omega arith))
    c.in-Ok.ensures.ok refl refl c.in_ok-push.ensures.items
    (subst (λ to. IsOperated c.args.self.now.modal c.args.operation.now to c.operated.new.self) c.end.ensures.value c.operated.ensures)
