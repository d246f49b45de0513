use Rattle.std.proofs.Common.{◌≡◌, pos, ◌+ℤ◌, arith}
use Rattle.std.proofs.lemmas.Int.{ints}
use Rattle.cam_shapes.proofs.Widths.{narrow}
use Rattle.cam_rows.specs.Rows.{centre_at}
use Rattle.cam_rows.proofs.Steps.{columns_in_strip}
use Rattle.cam_rows.proofs.centres.Centres.columns_between.Goals as goal

pub returns-clause-each : goal.returns-clause-each
returns-clause-each c i small =
    let left = c.args.left in
    let right = c.args.right in
    let low : narrow left ≡ left = omega (arith, ints, c.requires.left) in
    let high : narrow (narrow right +ℤ pos 1) ≡ right +ℤ pos 1 = omega (arith, ints, c.requires.right) in
    columns_in_strip i c.count_left_of.result c.count_left_of-2.result (centre_at c.args.self.now i).x left right _ _ low high
    (c.count_left_of.ensures.each i small) (c.count_left_of-2.ensures.each i small)
