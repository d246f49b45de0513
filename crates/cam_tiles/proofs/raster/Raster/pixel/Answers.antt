use Rattle.std.proofs.Common.{arith}
use Rattle.cam_tiles.specs.Machinery.Kept.{table_of}
use Rattle.cam_tiles.proofs.TablePixels.{tile_number-lt, bit_in, bit_shifted, pixel_in}
use Rattle.cam_tiles.proofs.raster.Raster.pixel.Goals as goal

pub overflow_mul-row : goal.overflow_mul-row
overflow_mul-row c =
    let few = tile_number-lt (table_of c.self.inside) _ c.args.column c.args.row c.self.invariant.table
    c.self.invariant.wide c.if-column-self.false c.if-row-self.false in
    omega (arith, few)

pub overflow_add-row : goal.overflow_add-row
overflow_add-row c =
    let few = tile_number-lt (table_of c.self.inside) _ c.args.column c.args.row c.self.invariant.table
    c.self.invariant.wide c.if-column-self.false c.if-row-self.false in
    omega (arith, few)

pub returns-in-Some : goal.returns-in-Some
returns-in-Some c = grind (arith, bit_in, bit_shifted, pixel_in)

pub returns-in-None : goal.returns-in-None
returns-in-None c = grind (arith, bit_in, bit_shifted, pixel_in)

pub index-requires : goal.index-requires
index-requires c = grind (arith)
