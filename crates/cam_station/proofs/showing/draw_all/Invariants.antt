use Rattle.std.proofs.Common.{◌≡◌, ◌+◌, ◌-◌, ◌≤◌, ◌++◌, drop, min, take}
use Rattle.cam_edits.specs.Sheets.{sheets_of}
use Rattle.cam_station.specs.TileTables.{dirty_in, redrawn_in}
use Rattle.cam_station.proofs.showing.draw_all.Given as goal

-- with what is left to draw of the others, all of it is drawn
abbrev pub invariant-loop-place : goal.invariant-loop-place
invariant-loop-place l = record {
  tiles : take l.place l.rasters ++ redrawn_in l.left (drop l.place (sheets_of l.board)) (drop l.place l.rasters)
      ≡ redrawn_in l.at_most (sheets_of l.board) l.fn.rasters;
  drawn : (l.at_most - l.left) + min l.left (dirty_in (drop l.place l.rasters)) ≡ min l.at_most (dirty_in l.fn.rasters);
  few : l.left ≤ l.at_most;
}
