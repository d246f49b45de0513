use Rattle.std.proofs.Common.{arith}
use Rattle.std.proofs.lemmas.Grind.{common_steps}
use Rattle.cam_apertures.proofs.Outlines.{outline_placeable, outline_places}
use Rattle.cam_tiles.proofs.masks.mask.Mask.primitive.Goals as goal

pub fill_outline-requires-clause-points : goal.fill_outline-requires-clause-points
fill_outline-requires-clause-points c =
    outline_placeable c.args.turn c.args.primitive.now.shape c.in-Outline.points c.as_slice.result.now c.in-Outline.is
    c.as_slice.ensures c.requires.primitive

pub returns-in-Outline : goal.returns-in-Outline
returns-in-Outline c = grind (arith, outline_places)

pub returns-in-Disc : goal.returns-in-Disc
returns-in-Disc c = grind (arith)

pub join-requires-clause-sound : goal.join-requires-clause-sound
join-requires-clause-sound c = grind (arith)

pub returns-in-Rect : goal.returns-in-Rect
returns-in-Rect c = grind (arith, common_steps)

pub returns-in-Bar : goal.returns-in-Bar
returns-in-Bar c = grind (arith, common_steps)

pub join-requires-in-Bar-clause-sound : goal.join-requires-in-Bar-clause-sound
join-requires-in-Bar-clause-sound c = grind (arith)

pub join-requires-in-Rect-clause-sound : goal.join-requires-in-Rect-clause-sound
join-requires-in-Rect-clause-sound c = grind (arith)
