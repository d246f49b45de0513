use Rattle.cam_units.proofs.Nanometres.{below_nought, from_nought, nearest_size, negative_nearest, own_size, positive_nearest}
use Rattle.cam_units.proofs.length.Quotient.nearest.Goals as goal

pub returns-then-self-lt0 : goal.returns-then-self-lt0
returns-then-self-lt0 c =
    let value = negative_nearest c.args.self.above c.args.self.below c.unsigned_abs.result c.from-below.result
    (own_size c.args.self.above c.unsigned_abs.result c.unsigned_abs.ensures.value c.requires.short) c.from-below.ensures
    c.requires.some c.requires.short
    (below_nought c.args.self.above c.requires.short c.if-self-lt0.true) in
    record { value = value; bound = rw value (nearest_size c.args.self.above c.args.self.below c.requires.some) }

pub returns-else-self-lt0 : goal.returns-else-self-lt0
returns-else-self-lt0 c =
    let value = positive_nearest c.args.self.above c.args.self.below c.unsigned_abs.result c.from-below.result
    (own_size c.args.self.above c.unsigned_abs.result c.unsigned_abs.ensures.value c.requires.short) c.from-below.ensures
    c.requires.some c.requires.short
    (from_nought c.args.self.above c.requires.short c.if-self-lt0.false) in
    record { value = value; bound = rw value (nearest_size c.args.self.above c.args.self.below c.requires.some) }
