use Rattle.std.proofs.Common.{◌/◌, arith}
use Rattle.cam_tiles.specs.Tables.{Table}
use Rattle.cam_tiles.proofs.Bytes.{clean_word, dirty_word, few_before, tile_there}
use Rattle.cam_tiles.proofs.WindowLemmas.{accepted}
use Rattle.cam_tiles.proofs.pbm.word_in.Goals as goal

pub overflow_add-tile : goal.overflow_add-tile
overflow_add-tile c =
    let limits = accepted c.args.window.now c.requires.table.accepted in
    let few = few_before (c.args.row / 64) c.across.result c.args.column (omega arith) (omega arith) (omega arith) in
    omega (arith, few)

pub overflow_mul-tile : goal.overflow_mul-tile
overflow_mul-tile c =
    let limits = accepted c.args.window.now c.requires.table.accepted in
    let few = few_before (c.args.row / 64) c.across.result c.args.column (omega arith) (omega arith) (omega arith) in
    omega (arith, few)

pub returns-in-Some : goal.returns-in-Some
returns-in-Some c i low =
    let t : Table = record { window = c.args.window.now; tiles = c.args.tiles.now } in
    clean_word t c.args.column c.args.row c.requires.row c.in-Some.rows c.min-inside.result i c.min-inside.ensures low
    (tile_there t c.args.column c.args.row c.requires.row c.across.result _ c.across.ensures c.in-Some.is i low)

pub returns-in-None : goal.returns-in-None
returns-in-None c i low =
    let t : Table = record { window = c.args.window.now; tiles = c.args.tiles.now } in
    dirty_word t c.args.column c.args.row c.requires.row i low
    (tile_there t c.args.column c.args.row c.requires.row c.across.result _ c.across.ensures c.in-None.is i low)
