use Rattle.std.proofs.Common.{arith}
use Rattle.cam_words.proofs.CutLemmas.{split_at, split_nowhere}
use Rattle.cam_words.proofs.pieces.cut.Goals as goal

pub returns-then-byte-separator-clause-pieces : goal.returns-then-byte-separator-clause-pieces
returns-then-byte-separator-clause-pieces c =
    split_at c.args.separator c.args.text.now c.loop-place.place (omega arith) c.loop-place.invariant
    c.if-byte-separator.true

pub returns-then-byte-separator-clause-all : goal.returns-then-byte-separator-clause-all
returns-then-byte-separator-clause-all c = grind (arith, split_at)

pub returns-clause-all : goal.returns-clause-all
returns-clause-all c =
    split_nowhere c.args.separator c.args.text.now (λ k h. c.loop-place.invariant k (omega arith))

pub returns-clause-pieces : goal.returns-clause-pieces
returns-clause-pieces c =
    split_nowhere c.args.separator c.args.text.now (λ k h. c.loop-place.invariant k (omega arith))

pub returns-then-byte-separator-clause-shorter : goal.returns-then-byte-separator-clause-shorter
returns-then-byte-separator-clause-shorter c = grind (arith)
