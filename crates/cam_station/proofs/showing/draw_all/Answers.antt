use Rattle.std.proofs.Common.{rules, ◌∙◌, ◌<◌, ◌≤◌, ◌-◌, arith, length, refl}
use Rattle.std.proofs.lemmas.Grind.{common_steps}
use Rattle.cam_edits.specs.Sheets.{sheets_of}
use Rattle.cam_station.proofs.Redraws.{all_redrawn, next_counted, next_redrawn}
use Rattle.cam_station.proofs.showing.draw_all.Goals as goal

pub loop-place-preserved : goal.loop-place-preserved
loop-place-preserved c =
    let i = c.loop-place.invariant in
    let l = c.loop-place in
    let sheets = sheets_of c.args.board.now in
    let t = c.index-rasters-place.result in
    let drawn = c.draw-left.new.raster in
    let count = c.draw-left.ensures.drawn in
    let here : l.place < length l.rasters = omega (arith, c.loop-place-test.true, l.auto.rasters) in
    let few : length l.rasters ≤ length sheets = omega (arith, l.auto.rasters, c.requires.layers) in
    record {
      tiles = next_redrawn l.left sheets l.rasters l.place t here few drawn (l.left - c.draw-left.result)
          (search rules) (omega (arith, count)) ∙ i.tiles;
      drawn = next_counted l.left sheets l.rasters l.place t here few drawn c.args.at_most (l.left - c.draw-left.result)
          c.draw-left.result i.few count refl ∙ i.drawn;
      few = search rules;
    }

pub returns-clause-tiles : goal.returns-clause-tiles
returns-clause-tiles c =
    let l = c.loop-place in
    all_redrawn l.left (sheets_of c.args.board.now) l.rasters l.place (omega (arith, c.loop-place-test.false, l.auto.rasters))
    ∙ l.invariant.tiles

pub returns-clause-drawn : goal.returns-clause-drawn
returns-clause-drawn c = grind (arith, common_steps)
