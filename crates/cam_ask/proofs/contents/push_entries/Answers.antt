use Rattle.std.proofs.Common.{arith}
use Rattle.cam_ask.proofs.Lists.{entries_all, entry_added}
use Rattle.cam_ask.proofs.contents.push_entries.Goals as goal

pub loop-place-preserved : goal.loop-place-preserved
loop-place-preserved c = grind (arith, entry_added)

pub returns : goal.returns
returns c = grind (arith, entries_all)
