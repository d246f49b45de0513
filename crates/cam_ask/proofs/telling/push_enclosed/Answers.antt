use Rattle.std.proofs.Common.{arith}
use Rattle.std.proofs.lemmas.Grind.{common_steps}
use Rattle.cam_edits.specs.Sheets.{content_of}
use Rattle.cam_ask.proofs.Gathering.{gathered_all, gathered_more}
use Rattle.cam_ask.proofs.telling.push_enclosed.Goals as goal

pub loop-place-preserved : goal.loop-place-preserved
loop-place-preserved c = grind (arith, gathered_more)

pub returns : goal.returns
returns c =
    gathered_all (content_of c.args.content.now) c.args.outer c.loop-place.from c.loop-place.text.items c.loop-place.invariant
    c.in_default.ensures

pub overflow_add-from : goal.overflow_add-from
overflow_add-from c = grind (arith, common_steps)
