use Rattle.std.proofs.Common.{arith}
use Rattle.cam_tiles.proofs.InkWords.{next_taken}
use Rattle.cam_tiles.proofs.masks.inks.taking.take_words.Goals as goal

pub loop-k-preserved : goal.loop-k-preserved
loop-k-preserved c =
    next_taken c.args.ink c.args.bits.now c.args.decided.now c.args.dark.now c.loop-k.k c.loop-k.decided c.loop-k.dark _ _
    c.ink_word-ink.result c.loop-k.invariant (omega arith) (omega arith) c.take_word.ensures c.ink_word-ink.ensures

pub returns-clause-each : goal.returns-clause-each
returns-clause-each c = grind (arith)
