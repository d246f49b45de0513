use Rattle.std.proofs.Common.{◌≡◌, length}
use Rattle.cam_tiles.specs.Tables.{Table, is_pixel_black}
use Rattle.cam_tiles.proofs.PbmLemmas.{AreEights, byte_in}
use Rattle.cam_tiles.proofs.pbm.push_row.Given as goal

-- the bytes of the first tiles
abbrev pub invariant-loop-column : goal.invariant-loop-column
invariant-loop-column l =
    let t : Table = record { window = l.window; tiles = l.tiles } in
    record {
      whole : length l.line ≡ 512;
      bytes : AreEights (byte_in (λ column. is_pixel_black t column l.row) l.window.width) 0 l.column l.line;
    }
