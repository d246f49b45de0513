use Rattle.std.proofs.Common.{◌<◌}
use Rattle.cam_tiles.specs.Machinery.Runs.{HasColumn}
use Rattle.cam_tiles.specs.Machinery.Words.{JoinsColumns}
use Rattle.cam_tiles.proofs.masks.words.join_wide.Given as goal

abbrev pub invariant-loop-row : goal.invariant-loop-row
invariant-loop-row l =
    JoinsColumns l.columns l.how (λ row column. (row < l.row) × HasColumn l.runs row column) l.fn.words l.words
