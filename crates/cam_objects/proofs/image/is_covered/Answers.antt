use Rattle.std.proofs.Common.{◌↔◌, IsTrue, subst, sym, arith}
use Rattle.cam_units.specs.Board.{IsInReach, IsPlace}
use Rattle.cam_units.specs.declared.point.Spot.{Spot}
use Rattle.cam_objects.specs.declared.canvas.Figure.{Figure}
use Rattle.cam_objects.specs.Canvases.{IsSoundFigure, shape_of}
use Rattle.cam_objects.specs.Image.{Covers}
use Rattle.cam_objects.proofs.image.is_covered.Goals as goal

-- a place of the board is in reach
reached : (s : Spot) → IsPlace s → IsInReach s
reached s h = record { x = omega (arith, h.x); y = omega (arith, h.y) }

pub in_capsule-requires : goal.in_capsule-requires
in_capsule-requires c = record { spot = reached c.args.spot c.requires.spot; capsule = subst IsSoundFigure c.in-Stroke.is c.requires.figure }

pub returns-in-Stroke : goal.returns-in-Stroke
returns-in-Stroke c = grind arith

pub in_swept-requires : goal.in_swept-requires
in_swept-requires c = record { spot = reached c.args.spot c.requires.spot; swept = subst IsSoundFigure c.in-Swept.is c.requires.figure }

pub returns-in-Swept : goal.returns-in-Swept
returns-in-Swept c = grind arith

pub in_arc-requires : goal.in_arc-requires
in_arc-requires c = record { spot = reached c.args.spot c.requires.spot; arc = subst IsSoundFigure c.in-Sweep.is c.requires.figure }

pub returns-in-Sweep : goal.returns-in-Sweep
returns-in-Sweep c = grind arith

pub in_disc-requires : goal.in_disc-requires
in_disc-requires c = record { spot = reached c.args.spot c.requires.spot; disc = subst IsSoundFigure c.in-Drilled.is c.requires.figure }

pub returns-in-Drilled : goal.returns-in-Drilled
returns-in-Drilled c = grind arith

pub in_contour-requires : goal.in_contour-requires
in_contour-requires c = record { spot = reached c.args.spot c.requires.spot; contour = subst IsSoundFigure c.in-Filled.is c.requires.figure }

pub returns-in-Filled : goal.returns-in-Filled
returns-in-Filled c =
    subst (λ (f : Figure). IsTrue c.in_contour.result ↔ Covers (shape_of f) c.args.spot) (sym c.in-Filled.is) c.in_contour.ensures

pub covers-requires-clause-sound : goal.covers-requires-clause-sound
covers-requires-clause-sound c = grind (arith)

pub returns-in-Stamp : goal.returns-in-Stamp
returns-in-Stamp c = grind (arith)
