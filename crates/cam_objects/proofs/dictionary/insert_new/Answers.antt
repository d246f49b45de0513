use Rattle.std.proofs.Common.{arith}
use Rattle.indexmap.proofs.CallerLemmas.{insert_entry-new}
use Rattle.cam_objects.proofs.dictionary.insert_new.Goals as goal

pub returns : goal.returns
returns c = grind (arith, insert_entry-new)
