use Rattle.cam_objects.proofs.Extents.{extent_absent, extent_found}
use Rattle.cam_objects.proofs.boxes.extent.Extent.of.Goals as goal

pub returns-in-Some-clause-extent : goal.returns-in-Some-clause-extent
returns-in-Some-clause-extent c =
    let found = c.in-Some.ensures in
    extent_found c.args.entries.now c.in-Some.field-0-0 c.args.number c.in-Some.entry.now c.in-Some.facts.now
    c.tip.result found.distinct found.found found.value found.reach c.tip.ensures

pub returns-in-None-clause-extent : goal.returns-in-None-clause-extent
returns-in-None-clause-extent c = extent_absent c.args.entries.now c.args.number c.in-None.ensures.absent
