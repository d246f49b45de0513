use Rattle.std.proofs.Common.{arith}
use Rattle.cam_script.proofs.Tests.{ascii_words}
use Rattle.cam_script.proofs.names.name_of.Goals as goal

pub returns-clause-ok : goal.returns-clause-ok
returns-clause-ok c = grind (arith, ascii_words)
