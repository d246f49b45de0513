use Rattle.std.proofs.Common.{arith, Bool}
use Rattle.std.proofs.lemmas.Bool.{false≢true}
use Rattle.cam_shapes.specs.declared.vector.Vector.{Vector}
use Rattle.cam_rows.specs.ArcRuns.{IsLeftOut, IsPastHalf, by_turn}
use Rattle.cam_tiles.proofs.RunColumns.{without_rows}
use Rattle.cam_tiles.proofs.masks.runs.Runs.find_beyond.Goals as goal

-- what leaves something out is more than a half turn
past_half : (ccw : Bool) (s e v : Vector) → by_turn IsLeftOut ccw s e v → by_turn (λ s e _. IsPastHalf s e) ccw s e e
past_half ccw s e v out = grind arith

pub returns-then-not-is_wide_arc : goal.returns-then-not-is_wide_arc
returns-then-not-is_wide_arc c = grind (arith, without_rows, false≢true, past_half)
