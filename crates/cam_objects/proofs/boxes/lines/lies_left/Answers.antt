use Rattle.std.proofs.Common.{◌^◌, ◌<◌, pos, arith}
use Rattle.std.specs.Int.RustNames.{unsigned_abs}
use Rattle.std.proofs.lemmas.Int.{ints}
use Rattle.cam_shapes.proofs.Widths.{passed_less}
use Rattle.cam_objects.specs.Machinery.Lines.{crossed}
use Rattle.cam_objects.proofs.BesideLines.{left_of, place_on_board}
use Rattle.cam_objects.proofs.boxes.lines.lies_left.Goals as goal

pub relative-way-requires-clause-spot : goal.relative-way-requires-clause-spot
relative-way-requires-clause-spot c = place_on_board c.args.to c.place.result c.place.ensures c.requires.to

pub returns : goal.returns
returns c = λ less s inside.
    let few : unsigned_abs c.from.result < 2 ^ 67 = omega (arith, ints) in
    left_of c.args.from c.args.to c.args.width.0 c.args.height.0 s c.place.result c.relative-way.result
    c.relative-nearest.result c.rightmost.result c.corner_reach.result c.place.ensures c.relative-way.ensures.value
    c.relative-nearest.ensures.value c.corner_reach.ensures
    ((passed_less c.from.result c.cross.result (pos c.corner_reach.result)
    (crossed c.relative-way.result c.relative-nearest.result) few c.cross.ensures.short c.from.ensures
    c.cross.ensures.value).0 less)
    (c.rightmost.ensures.least c.args.from s inside)
