use Rattle.std.proofs.Common.{rules}
use Rattle.cam_objects.proofs.Copies.{items_same}
use Rattle.cam_objects.proofs.layer.Layer.try_copy.Goals as goal

pub returns-clause-items : goal.returns-clause-items
returns-clause-items c = search (rules, items_same)
