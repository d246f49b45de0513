use Rattle.std.proofs.Common.{◌≡◌, ◌*◌, arith, rules}
use Rattle.std.proofs.lemmas.Grind.{common_steps}
use Rattle.cam_tiles.specs.Pbm.{bytes_across, padded, row_of}
use Rattle.cam_tiles.specs.Tables.{Table, is_pixel_black}
use Rattle.cam_tiles.proofs.Bytes.{bytes_told}
use Rattle.cam_tiles.proofs.PbmLemmas.{byte_in, more_eights, row_of_eights}
use Rattle.cam_tiles.proofs.WindowLemmas.{accepted}
use Rattle.cam_tiles.proofs.pbm.push_row.Goals as goal

pub bounds-line-column : goal.bounds-line-column
bounds-line-column c =
    let limits = accepted c.args.window.now c.requires.table.accepted in
    omega arith

pub loop-column-preserved : goal.loop-column-preserved
loop-column-preserved c =
    let w = c.args.window.now in
    let t : Table = record { window = w; tiles = c.args.tiles.now } in
    let limits = accepted c.args.window.now c.requires.table.accepted in
    record {
      whole = search rules;
      bytes = more_eights (byte_in (λ column. is_pixel_black t column c.args.row) w.width) c.loop-column.column
          c.loop-column.line c.pbm_bytes.result (omega arith) (search rules)
          (λ k near. bytes_told (padded (λ column. is_pixel_black t column c.args.row) w.width) (64 * c.loop-column.column)
          (8 * c.loop-column.column) c.word_in.result c.pbm_bytes.result (omega arith) c.pbm_bytes.ensures c.word_in.ensures k near
          (search rules))
          c.loop-column.invariant.bytes;
    }

pub returns : goal.returns
unfolding row_of
returns c =
    let w = c.args.window.now in
    let t : Table = record { window = w; tiles = c.args.tiles.now } in
    let limits = accepted w c.requires.table.accepted in
    let row = row_of_eights (byte_in (λ column. is_pixel_black t column c.args.row) w.width) c.loop-column.column
    c.div_ceil-bytes.result c.loop-column.line c.as_flattened.result.now c.as_flattened.ensures.value
    (omega arith) (omega arith) (omega (arith, c.as_flattened.ensures.len)) c.loop-column.invariant.bytes in
    let count : c.div_ceil-bytes.result ≡ bytes_across w.width = omega arith in
    grind (arith, common_steps, row, count)

pub slice_bounds-extend_from_slice-end : goal.slice_bounds-extend_from_slice-end
slice_bounds-extend_from_slice-end c = grind (arith, common_steps)
