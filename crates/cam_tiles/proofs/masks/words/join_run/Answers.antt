use Rattle.std.proofs.Common.{◌≡◌, ◌+◌, ◌*◌, ◌/◌, ◌%◌, length, min, refl, arith}
use Rattle.std.specs.Int.{IsBitSet}
use Rattle.cam_rows.specs.Runs.{IsInRun}
use Rattle.cam_tiles.proofs.JoinedWords.{joins_more, next_part, word_joined}
use Rattle.cam_tiles.proofs.masks.words.join_run.Goals as goal

pub loop-tile-preserved : goal.loop-tile-preserved
loop-tile-preserved c =
    let here = c.loop-tile in
    let tile = here.tile in
    let row = c.args.row in
    let first = c.args.first in
    let end = c.args.end in
    let bits = c.bits.result in
    joins_more (length c.args.words.now) c.args.how
    (λ r column. (r ≡ row) × IsInRun first (min end (64 * tile)) column)
    (λ r column. (r ≡ row) × (column / 64 ≡ tile) × IsBitSet bits (column % 64))
    (λ r column. (r ≡ row) × IsInRun first (min end (64 * (tile + 1))) column)
    c.args.words.now here.words _
    (λ r column low near. next_part row first end tile _ _ bits r column here.auto.tile c.saturating_sub.ensures
    c.min.ensures c.bits.ensures)
    here.invariant
    (word_joined (length c.args.words.now) c.args.how here.words tile row _ c.join_row.result bits refl c.requires.row
    (omega (arith, c.requires.row, c.requires.wide.room, c.requires.wide.tiles)) c.join_row.ensures)

pub returns : goal.returns
returns c = grind (arith)

pub loop-tile-init : goal.loop-tile-init
loop-tile-init c = grind (arith)
