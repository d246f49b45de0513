use Rattle.std.proofs.Common.{arith}
use Rattle.std.proofs.lemmas.Grind.{common_steps}
use Rattle.cam_words.proofs.HeadBytes.{starts_with-same, starts_with-other, starts_with-short, starts_with-end}
use Rattle.cam_words.proofs.HeadBytes.{drop_one, behind_head-there, behind_head-absent}
use Rattle.cam_words.proofs.heads.behind_head.Goals as goal

pub returns-in_default-clause-behind : goal.returns-in_default-clause-behind
returns-in_default-clause-behind c = grind (arith, behind_head-absent, starts_with-short)

pub returns-then-byte-wanted-clause-behind : goal.returns-then-byte-wanted-clause-behind
returns-then-byte-wanted-clause-behind c = grind (arith, behind_head-absent, starts_with-other)

pub loop-wanted-preserved : goal.loop-wanted-preserved
loop-wanted-preserved c = grind (arith, starts_with-same, drop_one)

pub returns-clause-behind : goal.returns-clause-behind
returns-clause-behind c = grind (arith, behind_head-there, starts_with-end)

pub returns-clause-begins : goal.returns-clause-begins
returns-clause-begins c = grind (arith, common_steps)

pub returns-then-byte-wanted-clause-begins : goal.returns-then-byte-wanted-clause-begins
returns-then-byte-wanted-clause-begins c = grind (arith, common_steps)

pub returns-in_default-clause-begins : goal.returns-in_default-clause-begins
returns-in_default-clause-begins c = grind (arith, common_steps)
