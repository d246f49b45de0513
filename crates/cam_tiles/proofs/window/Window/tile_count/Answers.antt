use Rattle.std.proofs.Common.{◌≤◌, arith}
use Rattle.std.proofs.lemmas.Nat.{mul-le}
use Rattle.cam_tiles.proofs.TileCounts.{few_across, few_down}
use Rattle.cam_tiles.proofs.window.Window.tile_count.Goals as goal

pub overflow_mul-result : goal.overflow_mul-result
overflow_mul-result c =
    let w = c.args.self.now in
    let across : c.across.result ≤ 512 = omega (arith, few_across w c.requires, c.across.ensures) in
    let down : c.div_ceil.result ≤ 512 = omega (arith, few_down w c.requires, c.div_ceil.ensures) in
    omega (arith, mul-le c.across.result c.div_ceil.result 512 512 across down)
