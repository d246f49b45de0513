use Rattle.cam_script.specs.Items.{points_in}
use Rattle.cam_script.proofs.Parts.{reads_none, reads_one, reads_all}
use Rattle.cam_script.proofs.segments.take_points.Goals as goal

pub loop-point-init : goal.loop-point-init
loop-point-init c = rw c.in-Ok.ensures.items (reads_none (points_in c.args.words.now))

pub loop-point-preserved : goal.loop-point-preserved
loop-point-preserved c =
    rw c.in-Ok-push.ensures.items
    (reads_one (points_in c.args.words.now) (points_in c.loop-point.words) (points_in c.next_point.new.words) c.in-Some.point
    c.loop-point.points.items c.loop-point.invariant c.in-Some.ensures.some)

pub returns-clause-ok : goal.returns-clause-ok
returns-clause-ok c =
    rw c.from_vec.ensures
    (reads_all (points_in c.args.words.now) (points_in c.loop-point.words) c.loop-point.points.items c.args.count
    c.loop-point.invariant c.requires c.in_default-next_point.ensures.none)
