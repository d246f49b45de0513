use Rattle.std.proofs.Common.{◌≡◌, ◌++◌, ap, ◌∙◌, arith}
use Rattle.cam_tiles.specs.Pbm.{header, pbm}
use Rattle.cam_tiles.specs.Tables.{Table, is_pixel_black, pbm_of}
use Rattle.cam_tiles.proofs.PbmLemmas.{more_rows, row_in, rows_of}
use Rattle.cam_tiles.proofs.pbm.bitmap.Goals as goal

pub loop-row-preserved : goal.loop-row-preserved
loop-row-preserved c =
    let w = c.args.window.now in
    let t : Table = record { window = w; tiles = c.args.tiles.now } in
    more_rows (row_in (is_pixel_black t) w.width) c.loop-row.row (header w.width w.height)
    c.loop-row.file.items _ c.in_ok-push_row.ensures c.loop-row.invariant

pub returns : goal.returns
unfolding pbm pbm_of
returns c =
    let w = c.args.window.now in
    let t : Table = record { window = w; tiles = c.args.tiles.now } in
    let all : c.loop-row.row ≡ w.height = omega arith in
    c.loop-row.invariant ∙ ap (λ n. header w.width w.height ++ rows_of (is_pixel_black t) w.width n) all

pub push_row-requires-clause-row : goal.push_row-requires-clause-row
push_row-requires-clause-row c = grind (arith)
