use Rattle.cam_shapes.proofs.Ends.{before_end, before_start, without_length}
use Rattle.cam_shapes.proofs.bar.is_between_ends.Goals as goal

pub returns-then-length-le0 : goal.returns-then-length-le0
returns-then-length-le0 c =
    without_length c.args.way c.args.seen c.dot-length.result c.dot-length.ensures.value c.dot-length.ensures.bound
    c.if-length-le0.true

pub returns-then-along-ge0 : goal.returns-then-along-ge0
returns-then-along-ge0 c =
    before_end c.args.way c.args.seen c.dot-length.result c.dot-along.result
    c.dot-length.ensures.value c.dot-along.ensures.value c.dot-length.ensures.bound c.dot-along.ensures.bound
    c.if-length-le0.false c.if-along-ge0.true

pub returns-else-along-ge0 : goal.returns-else-along-ge0
returns-else-along-ge0 c =
    before_start c.args.way c.args.seen c.dot-along.result c.dot-along.ensures.value c.dot-along.ensures.bound
    c.if-along-ge0.false
