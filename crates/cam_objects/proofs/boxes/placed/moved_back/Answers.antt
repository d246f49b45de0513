use Rattle.std.proofs.Common.{rules, FitsSigned, w64, pos, ◌*ℤ◌, arith}
use Rattle.std.proofs.lemmas.Int.{ints, to_z-of_z}
use Rattle.cam_objects.proofs.SeenBoxes.{back_from}
use Rattle.cam_objects.proofs.boxes.placed.moved_back.Goals as goal

pub returns : goal.returns
returns c =
    let a = c.args in
    let fa : FitsSigned w64 a.at = c.ranges.at in
    let fb : FitsSigned w64 a.by = c.ranges.by in
    let ft : FitsSigned w64 (pos 2 *ℤ a.by) = omega (arith, ints, c.requires) in
    let fs : FitsSigned w64 c.saturating_sub.result = search rules in
    let fc : FitsSigned w64 c.clamp.result = search rules in
    rw to_z-of_z (back_from a.at a.by c.saturating_sub.result c.clamp.result (simp to_z-of_z at c.saturating_sub.ensures)
    (simp to_z-of_z at c.clamp.ensures.value))
