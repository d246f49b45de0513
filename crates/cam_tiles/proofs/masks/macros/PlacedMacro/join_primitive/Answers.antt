use Rattle.std.proofs.Common.{subst, arith}
use Rattle.cam_units.specs.declared.point.Spot.{Spot}
use Rattle.cam_apertures.proofs.Outlines.{outline_places}
use Rattle.cam_objects.specs.Image.{relative}
use Rattle.cam_tiles.specs.Machinery.Masks.{inked}
use Rattle.cam_tiles.specs.Machinery.Words.{JoinsCentres}
use Rattle.cam_tiles.proofs.masks.macros.PlacedMacro.join_primitive.Goals as goal

pub returns-in-Outline : goal.returns-in-Outline
returns-in-Outline c =
    let primitive = c.args.primitive.now in
    subst
    (λ (P : Spot → Type 0). JoinsCentres c.args.grid.now c.args.columns (inked primitive.paint) P c.args.marks.now
    c.join.new.marks)
    (λ i s. outline_places c.args.self.now.turn primitive.shape c.in-Outline.points c.as_slice-points.result.now (relative c.args.self.now.at s)
    c.in-Outline.is c.as_slice-points.ensures i)
    (rw c.inked-how.ensures at c.join.ensures)

pub returns-in-Rect : goal.returns-in-Rect
returns-in-Rect c =
    rw c.in-Rect.is
    (rw (c.inked-how.ensures, c.apply-in-Rect.ensures.value, c.turned_width.ensures, c.turned_height.ensures)
    at c.join_shape-in-Rect.ensures)

pub returns-in-Bar : goal.returns-in-Bar
returns-in-Bar c =
    rw c.in-Bar.is
    (rw (c.inked-how.ensures, c.apply-in-Bar.ensures.value, c.apply-in-Bar-2.ensures.value) at c.join_shape-in-Bar.ensures)

pub returns-in-Disc : goal.returns-in-Disc
returns-in-Disc c =
    rw c.in-Disc.is (rw (c.inked-how.ensures, c.apply.ensures.value) at c.join_shape.ensures)

pub join_shape-requires-in-Bar-clause-sound : goal.join_shape-requires-in-Bar-clause-sound
join_shape-requires-in-Bar-clause-sound c = grind (arith)

pub join_shape-requires-in-Rect-clause-sound : goal.join_shape-requires-in-Rect-clause-sound
join_shape-requires-in-Rect-clause-sound c = grind (arith)

pub join_shape-requires-clause-sound : goal.join_shape-requires-clause-sound
join_shape-requires-clause-sound c = grind (arith)
