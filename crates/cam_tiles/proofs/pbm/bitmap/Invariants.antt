use Rattle.std.proofs.Common.{◌≡◌, ◌++◌}
use Rattle.cam_tiles.specs.Pbm.{header}
use Rattle.cam_tiles.specs.Tables.{is_pixel_black}
use Rattle.cam_tiles.proofs.PbmLemmas.{rows_of}
use Rattle.cam_tiles.proofs.pbm.bitmap.Given as goal

-- the header and the first rows
abbrev pub invariant-loop-row : goal.invariant-loop-row
invariant-loop-row l =
    l.file.items
    ≡ header l.window.width l.window.height
    ++ rows_of (is_pixel_black (record { window = l.window; tiles = l.tiles })) l.window.width l.row
