use Rattle.std.proofs.Common.{◌↔◌, IsTrue, subst, arith}
use Rattle.cam_apertures.proofs.Outlines.{outline_placeable, outline_places}
use Rattle.cam_apertures.proofs.shape.holds.Goals as goal

pub in_outline-requires-clause-points : goal.in_outline-requires-clause-points
in_outline-requires-clause-points c =
    outline_placeable c.args.turn c.args.shape.now c.in-Outline.points c.as_slice.result.now c.in-Outline.is c.as_slice.ensures
    c.requires.shape

pub returns-in-Outline : goal.returns-in-Outline
returns-in-Outline c =
    let places = outline_places c.args.turn c.args.shape.now c.in-Outline.points c.as_slice.result.now c.args.spot c.in-Outline.is
    c.as_slice.ensures in
    subst (λ (P : Type 0). IsTrue c.in_outline.result ↔ P) places c.in_outline.ensures

pub returns-in-Rect : goal.returns-in-Rect
returns-in-Rect c = grind (arith)

pub returns-in-Disc : goal.returns-in-Disc
returns-in-Disc c = grind (arith)

pub returns-in-Bar : goal.returns-in-Bar
returns-in-Bar c = grind (arith)

pub in_rect-requires-clause-rectangle : goal.in_rect-requires-clause-rectangle
in_rect-requires-clause-rectangle c = grind (arith)

pub in_bar-requires-clause-bar : goal.in_bar-requires-clause-bar
in_bar-requires-clause-bar c = grind (arith)
