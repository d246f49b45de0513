use Rattle.std.proofs.Common.{◌≡◌, pos, FitsSigned, w64, rules, arith}
use Rattle.std.proofs.lemmas.Bool.{eqb-true}
use Rattle.std.proofs.lemmas.Int.{ints}
use Rattle.cam_tiles.proofs.TurnedContours.{kept_seg}
use Rattle.cam_tiles.proofs.masks.placed.keeps_segs.Goals as goal

pub returns-then-placing-eq0 : goal.returns-then-placing-eq0
returns-then-placing-eq0 c = λ told seg.
    let o = c.args.placing.offset in
    let fits_x : FitsSigned w64 o.x = search rules in
    let fits_y : FitsSigned w64 o.y = search rules in
    let no_x : o.x ≡ pos 0 = omega (arith, ints, fits_x, c.if-placing-eq0.true) in
    let no_y : o.y ≡ pos 0 = omega (arith, ints, fits_y, eqb-true _ 0 told) in
    rw c.in-R0.is (kept_seg o no_x no_y seg)
