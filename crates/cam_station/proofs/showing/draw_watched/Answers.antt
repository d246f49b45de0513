use Rattle.std.proofs.Common.{◌≡◌, ◌∙◌, ◌+◌, ◌-◌, ap, arith, sym}
use Rattle.cam_edits.specs.Images.{image_of}
use Rattle.cam_edits.specs.Sheets.{content_of}
use Rattle.cam_tiles.specs.Tables.{dirty_count, redrawn}
use Rattle.cam_tiles.proofs.DrawnTiles.{redraw_law}
use Rattle.cam_station.proofs.DrawnInTurn.{none_redrawn, redrawn_more}
use Rattle.cam_station.proofs.showing.draw_watched.Goals as goal

pub loop-done-init : goal.loop-done-init
loop-done-init g c = record {
  tiles = none_redrawn (image_of (content_of c.args.content.now)) c.args.raster.now;
  few = omega arith;
  dirty = c.dirty-dirty.ensures;
}

pub loop-done-preserved : goal.loop-done-preserved
loop-done-preserved g c =
    let i = c.loop-done.invariant in
    let l = c.loop-done in
    let image = image_of (content_of c.args.content.now) in
    let t = c.args.raster.now in
    let n = c.min.result in
    let left : dirty_count l.raster ≡ dirty_count t - l.done = ap dirty_count i.tiles ∙ redraw_law.count image l.done t in
    let all : c.draw-done.result ≡ n = omega (arith, c.draw-done.ensures.drawn, c.min.ensures, left, i.dirty, i.few) in
    record {
      tiles = c.draw-done.ensures.tiles
          ∙ (ap (redrawn image n) i.tiles ∙ (redrawn_more image t l.done n ∙ ap (λ m. redrawn image (l.done + m) t) (sym all)));
      few = omega (arith, all, c.min.ensures, i.few);
      dirty = i.dirty;
    }

pub loop-done-smaller : goal.loop-done-smaller
loop-done-smaller g c =
    let i = c.loop-done.invariant in
    let l = c.loop-done in
    let image = image_of (content_of c.args.content.now) in
    let t = c.args.raster.now in
    let left : dirty_count l.raster ≡ dirty_count t - l.done = ap dirty_count i.tiles ∙ redraw_law.count image l.done t in
    omega (
      arith,
      c.draw-done.ensures.drawn,
      c.min.ensures,
      c.max-at_once.ensures,
      left,
      i.dirty,
      i.few,
      c.loop-done-test.true,
    )
