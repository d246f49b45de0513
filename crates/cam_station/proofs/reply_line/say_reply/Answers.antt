use Rattle.std.proofs.Common.{arith}
use Rattle.cam_station.proofs.reply_line.say_reply.Goals as goal

pub returns-in-None-clause-said : goal.returns-in-None-clause-said
returns-in-None-clause-said c = grind (arith)

pub returns-in-Some-clause-said : goal.returns-in-Some-clause-said
returns-in-Some-clause-said c = grind (arith)

pub returns-in-Ok-Numbers-Three-clause-said : goal.returns-in-Ok-Numbers-Three-clause-said
returns-in-Ok-Numbers-Three-clause-said c = grind (arith)

pub returns-in-Ok-Bytes-clause-said : goal.returns-in-Ok-Bytes-clause-said
returns-in-Ok-Bytes-clause-said c = grind (arith)

pub returns-in-Ok-Done-clause-said : goal.returns-in-Ok-Done-clause-said
returns-in-Ok-Done-clause-said c = grind (arith)

pub returns-in-Ok-Numbers-Two-clause-said : goal.returns-in-Ok-Numbers-Two-clause-said
returns-in-Ok-Numbers-Two-clause-said c = grind (arith)

pub returns-in-Ok-Numbers-One-clause-said : goal.returns-in-Ok-Numbers-One-clause-said
returns-in-Ok-Numbers-One-clause-said c = grind (arith)
