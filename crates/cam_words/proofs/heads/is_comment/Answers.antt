use Rattle.std.proofs.Common.{arith}
use Rattle.cam_words.proofs.HeadBytes.{comment_at_G04, comment_at_G4, no_comment, no_comment_without_G}
use Rattle.cam_words.proofs.heads.is_comment.Goals as goal

pub returns-then-not-begins_with : goal.returns-then-not-begins_with
returns-then-not-begins_with c = no_comment_without_G c.args.text.now c.if-not-begins_with.ensures

pub returns-then-begins_with : goal.returns-then-begins_with
returns-then-begins_with c = comment_at_G04 c.args.text.now c.if-begins_with.ensures

pub returns-in-Some : goal.returns-in-Some
returns-in-Some c = grind (arith, comment_at_G4)

pub returns-in-None : goal.returns-in-None
returns-in-None c = grind (arith, no_comment)
