use Rattle.std.proofs.Common.{Bool, [], ◌∷◌, subst, sym}
use Rattle.cam_objects.specs.Canvases.{shape_of}
use Rattle.cam_objects.specs.Image.{Covers}
use Rattle.cam_objects.specs.Leaves.{leaf}
use Rattle.cam_tiles.specs.declared.grid.Grid.{Grid}
use Rattle.cam_tiles.specs.Machinery.Masks.{AreMarksOf}
use Rattle.cam_tiles.proofs.PlainTiles.{PaintsTile, Tile, clear_painted, dark_painted}
use Rattle.cam_tiles.proofs.plain.PlainTileCanvas.paint.Goals as goal

pub returns-then-print : goal.returns-then-print
returns-then-print c =
    let p : Tile = (c.self.inside.decided, c.self.inside.dark) in
    let q : Tile = (c.merge-2.new.self, c.merge-then-print.new.self) in
    let shape = shape_of c.args.print.figure in
    let covered = subst (λ (g : Grid). AreMarksOf g (Covers shape) c.of-new.result) c.grid.ensures.value c.of-new.ensures in
    let painted = dark_painted p shape c.of-new.result c.merge.new.self q.0 c.self.invariant.dark covered c.merge.ensures
    c.merge-2.ensures q.1 c.self.invariant.same c.merge-then-print.ensures in
    subst (λ (old : Tile). PaintsTile old (leaf shape c.args.print.dark ∷ []) q) c.self.view_is
    (subst (λ (dark : Bool). PaintsTile p (leaf shape dark ∷ []) q) (sym c.if-print.true) painted)

pub returns-else-print : goal.returns-else-print
returns-else-print c =
    let p : Tile = (c.self.inside.decided, c.self.inside.dark) in
    let q : Tile = (c.merge-2.new.self, c.self.inside.dark) in
    let shape = shape_of c.args.print.figure in
    let covered = subst (λ (g : Grid). AreMarksOf g (Covers shape) c.of-new.result) c.grid.ensures.value c.of-new.ensures in
    let painted = clear_painted p shape c.of-new.result c.merge.new.self q.0 c.self.invariant.dark covered c.merge.ensures
    c.merge-2.ensures in
    subst (λ (old : Tile). PaintsTile old (leaf shape c.args.print.dark ∷ []) q) c.self.view_is
    (subst (λ (dark : Bool). PaintsTile p (leaf shape dark ∷ []) q) (sym c.if-print.false) painted)
