use Rattle.std.proofs.Common.{sym, subst, arith}
use Rattle.cam_objects.specs.Canvases.{shape_of}
use Rattle.cam_objects.specs.Image.{Covers}
use Rattle.cam_objects.specs.declared.canvas.Figure.{Figure}
use Rattle.cam_tiles.specs.declared.masks.join.Join.TheVariants.{Add}
use Rattle.cam_tiles.specs.Machinery.Masks.{Joins}
use Rattle.cam_tiles.proofs.masks.mask.Mask.add.Goals as goal

pub returns-in-Filled : goal.returns-in-Filled
returns-in-Filled c =
    subst (λ (f : Figure). Joins Add (Covers (shape_of f)) c.args.self.now c.fill.new.self) (sym c.in-Filled.is) c.fill.ensures

pub fill-requires : goal.fill-requires
fill-requires c = grind (arith)

pub returns-in_default-2 : goal.returns-in_default-2
returns-in_default-2 c = grind (arith)

pub returns-in_default : goal.returns-in_default
returns-in_default c = grind (arith)

pub primitives-requires-clause-prims : goal.primitives-requires-clause-prims
primitives-requires-clause-prims c = grind (arith)

pub returns-in-Some : goal.returns-in-Some
returns-in-Some c = grind (arith)
