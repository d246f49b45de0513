use Rattle.std.proofs.Common.{rules}
use Rattle.cam_units.proofs.BoxLaws.{no_place_at}
use Rattle.cam_units.proofs.bounds.Bounds.is_empty.Goals as goal

pub returns-in-Closed-clause-meaning : goal.returns-in-Closed-clause-meaning
returns-in-Closed-clause-meaning c = no_place_at c.args.self c.is_crossed.result (search rules)
