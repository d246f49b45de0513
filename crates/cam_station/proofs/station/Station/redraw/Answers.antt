use Rattle.std.proofs.Common.{rules, arith}
use Rattle.std.proofs.lemmas.Grind.{common_steps}
use Rattle.cam_edits.specs.Sheets.{sheets_of}
use Rattle.cam_station.proofs.StationTiles.{station_redrawn}
use Rattle.cam_station.proofs.station.Station.redraw.Goals as goal

pub invariant_of-self : goal.invariant_of-self
invariant_of-self c =
    let i = c.self.inside in (
      station_redrawn i.history.depth i.window (sheets_of i.board) i.rasters.len c.args.at_most i.rasters.items
          c.draw_all-drawn.new.rasters c.self.invariant.0 (search rules) (search rules),
      c.self.invariant.1,
      c.self.invariant.2,
    )

pub draw_all-drawn-requires-clause-layers : goal.draw_all-drawn-requires-clause-layers
draw_all-drawn-requires-clause-layers c = grind (arith)

pub returns : goal.returns
returns c = grind (arith, common_steps)

pub returns-then-is_none : goal.returns-then-is_none
returns-then-is_none c = grind (arith)
