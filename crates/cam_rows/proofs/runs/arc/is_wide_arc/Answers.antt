use Rattle.cam_shapes.specs.Plane.{cross, way}
use Rattle.cam_shapes.proofs.Widths.{passed_less}
use Rattle.cam_rows.specs.ArcRuns.{IsPastHalf}
use Rattle.std.proofs.Common.{pos, refl, arith}
use Rattle.cam_rows.proofs.ArcRuns.{by_ends}
use Rattle.cam_rows.proofs.runs.arc.is_wide_arc.Goals as goal

pub returns : goal.returns
returns c =
    let arc = c.args.arc.now in
    let start = way arc.centre c.counterclockwise.result.0 in
    let end = way arc.centre c.counterclockwise.result.1 in
    let told = passed_less c.cross.result (pos 0) (cross start end) (pos 0) c.cross.ensures.bound (omega arith)
    (rw (c.between.ensures.value, c.between-2.ensures.value) at c.cross.ensures.value) refl in
    let turn = by_ends (λ s e _. IsPastHalf s e) arc.ccw arc.centre arc.from arc.to _ _ (way arc.centre arc.to)
    c.counterclockwise.ensures.ends in
    ((λ t. turn.1 (told.0 t)), (λ h. told.1 (turn.0 h)))
