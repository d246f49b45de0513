use Rattle.std.proofs.Common.{arith}
use Rattle.cam_words.specs.Heads.{packed}
use Rattle.cam_commands.proofs.Heads.{text_by_head, text_without_head}
use Rattle.cam_commands.proofs.text.is_text.Goals as goal

pub returns-in-Some : goal.returns-in-Some
returns-in-Some c = grind (arith, text_by_head)

pub returns-in-None : goal.returns-in-None
returns-in-None c = text_without_head c.args.wanted.now (packed c.args.text.now) c.in-None.ensures.behind
