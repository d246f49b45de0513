use Rattle.std.proofs.Common.{◌≡◌, map, take}
use Rattle.cam_edits.specs.Touches.{touch_of}
use Rattle.cam_station.specs.TileTables.{touched_in}
use Rattle.cam_station.proofs.touching.touch.Given as goal

-- the steps so far have touched their tiles
abbrev pub invariant-loop-step : goal.invariant-loop-step
invariant-loop-step l = l.rasters ≡ touched_in (map touch_of (take l.step-index l.steps)) l.fn.rasters
