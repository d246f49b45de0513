use Rattle.cam_writers.proofs.InForce.{rout_written}
use Rattle.cam_writers.proofs.drill_text.DrillText.write_rout.Goals as goal

pub returns : goal.returns
returns c =
    λ lines h.
    rout_written c.args.points.now lines c.args.self.now c.push_point_line.new.text c.push_line.new.text c.push_cuts.new.text
    c.push_line-2.new.text h c.in-len1-up.len_at_least c.in_ok-push_point_line.ensures c.in_ok-push_line.ensures
    c.in_ok-push_cuts.ensures c.in_ok-push_line-2.ensures
