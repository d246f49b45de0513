use Rattle.std.proofs.Common.{◌≡◌, w64, of_z, to_z, arith}
use Rattle.std.proofs.lemmas.Int.{ints}
use Rattle.cam_objects.proofs.Enclosed.{between}
use Rattle.cam_objects.proofs.asking.enclosed.is_between.Goals as goal

pub returns : goal.returns
returns c =
    let low = c.args.low in
    let high = c.args.high in
    let s = c.args.spot in
    let a : to_z w64 (of_z w64 low.x) ≡ low.x = omega (arith, ints) in
    let b : to_z w64 (of_z w64 low.y) ≡ low.y = omega (arith, ints) in
    let d : to_z w64 (of_z w64 high.x) ≡ high.x = omega (arith, ints) in
    let e : to_z w64 (of_z w64 high.y) ≡ high.y = omega (arith, ints) in
    let x : to_z w64 (of_z w64 s.x) ≡ s.x = omega (arith, ints) in
    let y : to_z w64 (of_z w64 s.y) ≡ s.y = omega (arith, ints) in
    simp (a, b, d, e, x, y) (between low high s)
