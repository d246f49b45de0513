use Rattle.std.proofs.Common.{arith}
use Rattle.indexmap.proofs.CallerLemmas.{insert_entry-new}
use Rattle.cam_objects.proofs.tools.Tools.push.Goals as goal

pub returns-clause-ok : goal.returns-clause-ok
returns-clause-ok c = grind (arith, insert_entry-new)
