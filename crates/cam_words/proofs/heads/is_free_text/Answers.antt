use Rattle.std.proofs.Common.{arith}
use Rattle.cam_words.proofs.HeadBytes.{free_at_T, free_at_IN, free_by_LN}
use Rattle.cam_words.proofs.heads.is_free_text.Goals as goal
use Rattle.cam_words.proofs.heads.is_free_text.Goals.{then-begins_with, else-begins_with}

pub returns-then-begins_with-2 : goal.returns-then-begins_with-2
returns-then-begins_with-2 c = grind (arith, free_at_T, free_at_IN)

pub returns-else-begins_with-2 : goal.returns-else-begins_with-2
returns-else-begins_with-2 c =
    elim c.if-begins_with.branch [
      | then-begins_with w ↦ absurd cc
      | else-begins_with w ↦
          free_by_LN c.args.text.now c.begins_with-else-begins_with-2.result (cc) (cc)
          c.begins_with-else-begins_with-2.ensures
    ]
