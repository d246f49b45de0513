use Rattle.std.proofs.Common.{ap, sym, ◌∙◌, arith}
use Rattle.cam_tiles.specs.Sources.{Painted, picture_of}
use Rattle.cam_tiles.specs.Tables.{all_drawn_from}
use Rattle.cam_tiles.specs.Tiles.{grid_of, tile_rows}
use Rattle.cam_tiles.proofs.TilesInOrder.{all_clean}
use Rattle.cam_tiles.proofs.source.SourcePainter.draw.Goals.{then-dirty-gt0, else-dirty-gt0}
use Rattle.cam_tiles.proofs.source.SourcePainter.draw.Goals as goal

pub returns-clause-tiles : goal.returns-clause-tiles
returns-clause-tiles c =
    let grid = grid_of c.args.window.now in
    let tiles = c.args.tiles.now in
    elim c.if-dirty-gt0.branch [
      | then-dirty-gt0 w ↦ w.tiles-is ∙ w.draw.ensures
          ∙ ap (λ (p : Painted). all_drawn_from (λ k. tile_rows (picture_of p) (grid k)) c.args.first tiles) c.self.view_is
      | else-dirty-gt0 w ↦ w.tiles-is
          ∙ sym (all_clean (λ k. tile_rows (picture_of c.args.self.now) (grid k)) c.args.first tiles
          (omega (arith, c.dirty_in-dirty.ensures, w.if-dirty-gt0.false)))
    ]

pub returns-clause-asked : goal.returns-clause-asked
returns-clause-asked c = grind (arith)
