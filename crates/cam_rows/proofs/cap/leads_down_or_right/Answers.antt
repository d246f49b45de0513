use Rattle.std.proofs.Common.{arith}
use Rattle.std.proofs.lemmas.Int.{ints}
use Rattle.cam_shapes.specs.Plane.{way}
use Rattle.cam_shapes.proofs.Widths.{narrow}
use Rattle.cam_rows.proofs.CapTies.{leads_down, leads_right}
use Rattle.cam_rows.proofs.cap.leads_down_or_right.Goals as goal

pub returns-then-to-from : goal.returns-then-to-from
returns-then-to-from c =
    let cap = c.args.cap.now in
    let from = c.requires.from in
    let to = c.requires.to in
    leads_right (way cap.from cap.to) (narrow cap.from.x) (narrow cap.to.x)
    (omega (arith, ints, from.y, to.y, c.if-to-from.true)) (omega (arith, ints, from.x, to.x))

pub returns : goal.returns
returns c =
    let cap = c.args.cap.now in
    let from = c.requires.from in
    let to = c.requires.to in
    leads_down (way cap.from cap.to) (narrow cap.to.y) (narrow cap.from.y)
    (λ level. c.if-to-from.false (omega (arith, ints, from.y, to.y, level))) (omega (arith, ints, from.y, to.y))
