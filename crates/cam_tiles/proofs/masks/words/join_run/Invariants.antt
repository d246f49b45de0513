use Rattle.std.proofs.Common.{◌≡◌, ◌*◌, length, min}
use Rattle.cam_rows.specs.Runs.{IsInRun}
use Rattle.cam_tiles.specs.Machinery.Words.{JoinsColumns}
use Rattle.cam_tiles.proofs.masks.words.join_run.Given as goal

abbrev pub invariant-loop-tile : goal.invariant-loop-tile
invariant-loop-tile l =
    JoinsColumns (length l.fn.words) l.how (λ r column. (r ≡ l.row) × IsInRun l.first (min l.end (64 * l.tile)) column)
    l.fn.words l.words
