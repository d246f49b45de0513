use Rattle.std.proofs.Common.{subst, sym, ◌∙◌}
use Rattle.cam_tiles.specs.Machinery.Shown.{leaves_of}
use Rattle.cam_tiles.proofs.PlainTiles.{PaintsTile, Tile, dark_rows}
use Rattle.cam_tiles.proofs.plain.tile_of.Goals as goal

pub returns : goal.returns
returns c =
    let leaves = leaves_of c.args.shown.now in
    let p : Tile = (c.blank.result, c.blank-2.result) in
    let q : Tile = (c.tile.inside.decided, c.tile.inside.dark) in
    let painted = subst (λ (new : Tile). PaintsTile p leaves new) (sym c.tile.view_is) c.paint.ensures in
    c.rows.ensures.rows
    ∙ dark_rows leaves c.args.grid p q c.blank.ensures.grid c.blank.ensures.marks
    painted c.tile.invariant.same c.tile.invariant.dark c.rows.ensures.mask
