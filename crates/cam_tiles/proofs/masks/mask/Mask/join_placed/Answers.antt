use Rattle.std.proofs.Common.{arith, ◌≡◌, subst, sym}
use Rattle.cam_units.specs.declared.point.Point.{Point}
use Rattle.cam_objects.specs.Image.{relative}
use Rattle.cam_tiles.specs.declared.masks.figures.RunFigure.{RunFigure}
use Rattle.cam_tiles.specs.declared.masks.join.Join.{Join}
use Rattle.cam_tiles.specs.Machinery.Figures.{IsInFigure}
use Rattle.cam_tiles.specs.Machinery.Masks.{Joins, Marking}
use Rattle.cam_tiles.proofs.masks.mask.Mask.join_placed.Goals as goal

-- the figure that it is
joins_it : (f g : RunFigure) (at : Point) (how : Join) (old new : Marking) → f ≡ g
    → Joins how (λ s. IsInFigure g (relative at s)) old new → Joins how (λ s. IsInFigure f (relative at s)) old new
joins_it f g at how old new is = subst (λ (f : RunFigure). Joins how (λ s. IsInFigure f (relative at s)) old new) (sym is)

pub returns-in-Straight : goal.returns-in-Straight
returns-in-Straight c = joins_it _ _ c.args.placed.now.at c.args.how _ _ c.in-Straight.is c.join.ensures

pub returns-in-Round : goal.returns-in-Round
returns-in-Round c = joins_it _ _ c.args.placed.now.at c.args.how _ _ c.in-Round.is c.join-in-Round.ensures

pub returns-in-Swept : goal.returns-in-Swept
returns-in-Swept c = joins_it _ _ c.args.placed.now.at c.args.how _ _ c.in-Swept.is c.join-in-Swept.ensures

pub returns-in-Disc : goal.returns-in-Disc
returns-in-Disc c = joins_it _ _ c.args.placed.now.at c.args.how _ _ c.in-Disc.is c.join_pierced.ensures

pub returns-in-Rectangle : goal.returns-in-Rectangle
returns-in-Rectangle c = grind (arith, joins_it)

pub returns-in-Obround : goal.returns-in-Obround
returns-in-Obround c =
    joins_it _ _ c.args.placed.now.at c.args.how _ _ c.in-Obround.is c.join_pierced-in-Obround.ensures

pub join-requires-clause-sound : goal.join-requires-clause-sound
join-requires-clause-sound c = grind (arith)

pub join-requires-in-Round-clause-sound : goal.join-requires-in-Round-clause-sound
join-requires-in-Round-clause-sound c = grind (arith)

pub join-requires-in-Swept-clause-sound : goal.join-requires-in-Swept-clause-sound
join-requires-in-Swept-clause-sound c = grind (arith)

pub join_pierced-requires-clause-hole : goal.join_pierced-requires-clause-hole
join_pierced-requires-clause-hole c = grind (arith)

pub join_pierced-requires-clause-sound : goal.join_pierced-requires-clause-sound
join_pierced-requires-clause-sound c = grind (arith)

pub join_pierced-requires-in-Rectangle-clause-sound : goal.join_pierced-requires-in-Rectangle-clause-sound
join_pierced-requires-in-Rectangle-clause-sound c = grind (arith)

pub join_pierced-requires-in-Obround-clause-hole : goal.join_pierced-requires-in-Obround-clause-hole
join_pierced-requires-in-Obround-clause-hole c = grind (arith)

pub join_pierced-requires-in-Rectangle-clause-hole : goal.join_pierced-requires-in-Rectangle-clause-hole
join_pierced-requires-in-Rectangle-clause-hole c = grind (arith)

pub join_pierced-requires-in-Obround-clause-sound : goal.join_pierced-requires-in-Obround-clause-sound
join_pierced-requires-in-Obround-clause-sound c = grind (arith)
