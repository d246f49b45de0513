use Rattle.std.proofs.Common.{arith}
use Rattle.cam_rows.proofs.Corners.{least_number, least_test}
use Rattle.cam_rows.proofs.RowNumbers.{columns_fit, number_there_fits}
use Rattle.cam_rows.proofs.half_plane.HalfPlane.holds_all.Goals as goal

pub overflow_mul-result : goal.overflow_mul-result
overflow_mul-result c = grind (arith, columns_fit)

pub overflow_add-result : goal.overflow_add-result
overflow_add-result c = grind (arith, number_there_fits)

pub returns : goal.returns
returns c =
    let numbers = c.args.self.now in
    let row = c.least_of-row in
    let column = c.least_of-column in
    let told = least_test numbers row.result column.result c.number_below.result c.number_below.ensures
    (c.requires.short.rows row.result row.ensures.within) c.requires.short.plane.step
    (omega (arith, column.ensures.within, c.requires.few)) in (
      (λ up k i below within.
          least_number numbers row.result column.result k i c.requires.short.plane.down c.requires.short.plane.step
          (row.ensures.least k below) (column.ensures.least i within) (told.0 up)),
      (λ held. told.1 (held row.result column.result row.ensures.within column.ensures.within)),
    )

pub returns-then-columns-eq0 : goal.returns-then-columns-eq0
returns-then-columns-eq0 c = grind (arith)

pub number_below-requires : goal.number_below-requires
number_below-requires c = grind (arith)
