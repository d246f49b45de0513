use Rattle.std.proofs.Common.{rules}
use Rattle.cam_units.proofs.BoxLaws.{clip_apart_at, clip_places_at}
use Rattle.cam_units.proofs.bounds.Bounds.clipped.Goals as goal

pub returns-in-Closed-Closed-clause-places : goal.returns-in-Closed-Closed-clause-places
returns-in-Closed-Closed-clause-places c = clip_places_at c.args.self c.args.other c.between.result (search rules)

pub returns-in-Closed-Closed-clause-apart : goal.returns-in-Closed-Closed-clause-apart
returns-in-Closed-Closed-clause-apart c = clip_apart_at c.args.self c.args.other c.between.result (search rules)
