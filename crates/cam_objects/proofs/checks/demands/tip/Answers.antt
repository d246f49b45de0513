use Rattle.cam_objects.proofs.Numbers.{tip_none, tip_told}
use Rattle.cam_objects.proofs.checks.demands.tip.Goals as goal

pub returns-in-Some : goal.returns-in-Some
returns-in-Some c =
    tip_told c.args.entries.now c.in-Some.field-0-0 c.args.number c.in-Some.entry.now c.tip.result c.in-Some.ensures.distinct
    c.in-Some.ensures.found c.tip.ensures

pub returns-in-None : goal.returns-in-None
returns-in-None c = tip_none c.args.entries.now c.args.number c.in-None.ensures.absent
