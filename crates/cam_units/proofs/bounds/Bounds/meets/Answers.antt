use Rattle.cam_units.proofs.BoxLaws.{meeting}
use Rattle.cam_units.proofs.bounds.Bounds.meets.Goals as goal

pub returns : goal.returns
returns c = rw (c.is_empty.ensures.value, c.clipped.ensures.value) (meeting c.args.self c.args.other)
