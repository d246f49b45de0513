use Rattle.std.proofs.Common.{◌≡◌, ◌-◌, ◌≤◌}
use Rattle.cam_edits.specs.Images.{image_of}
use Rattle.cam_edits.specs.Sheets.{content_of}
use Rattle.cam_tiles.specs.Tables.{dirty_count, redrawn}
use Rattle.cam_station.proofs.showing.draw_watched.Given as goal

-- so many tiles of those that were dirty are drawn
abbrev pub invariant-loop-done : goal.invariant-loop-done
invariant-loop-done g l = record {
  tiles : l.raster ≡ redrawn (image_of (content_of l.content)) l.done l.fn.raster;
  few : l.done ≤ l.dirty;
  dirty : l.dirty ≡ dirty_count l.fn.raster;
}

abbrev pub decreases-loop-done : goal.decreases-loop-done
decreases-loop-done g l = l.dirty - l.done
