use Rattle.std.proofs.Common.{refl}
use Rattle.cam_shapes.proofs.SweptLaws.{ends}
use Rattle.cam_rows.proofs.WideRows.{runs_like}
use Rattle.cam_rows.proofs.runs.rect.rect_runs.Goals as goal

pub returns : goal.returns
returns c = runs_like c.swept_runs.new.firsts c.swept_runs.new.ends c.args.top.now _ _ (λ s. ends.point s _ refl) c.swept_runs.ensures
