use Rattle.cam_objects.proofs.BesideLines.{item_missed}
use Rattle.cam_objects.proofs.KeptBoxes.{listed_stands}
use Rattle.cam_objects.proofs.boxes.item_boxes.ItemBoxes.line_misses.Goals as goal

pub line_misses-requires-clause-stands : goal.line_misses-requires-clause-stands
line_misses-requires-clause-stands c =
    listed_stands c.self.inside.layer.now c.args.self.now c.args.place c.index.result.now c.in-One.object
    c.self.invariant.sound c.self.view_is c.requires c.index.ensures c.in-One.is

pub returns-in-One-clause-off : goal.returns-in-One-clause-off
returns-in-One-clause-off c = λ off item at s held.
    item_missed c.self.inside.layer.now c.args.self.now c.args.place c.index.result.now item c.in-One.object s c.self.view_is
    c.index.ensures at c.in-One.is (c.line_misses.ensures.off off s held)
