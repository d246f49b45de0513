use Rattle.std.proofs.Common.{◌≡◌, take}
use Rattle.cam_tiles.specs.Touched.{touched_by}
use Rattle.cam_station.proofs.touching.touch_boxes.Given as goal

-- the boxes so far have touched their tiles
abbrev pub invariant-loop-bounds : goal.invariant-loop-bounds
invariant-loop-bounds l = l.raster ≡ touched_by (take l.bounds-index l.boxes) l.fn.raster
