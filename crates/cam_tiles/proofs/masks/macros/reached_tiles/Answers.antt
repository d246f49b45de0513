use Rattle.std.proofs.Common.{refl, rules, subst, sym, FitsSigned, w64, arith, ◌/◌, ◌≤ℤ◌}
use Rattle.std.proofs.lemmas.Int.{to_z-of_z}
use Rattle.cam_units.specs.Boxes.{Holds, IsInBox}
use Rattle.cam_units.specs.declared.bounds.Bounds.{Bounds}
use Rattle.cam_objects.specs.Image.{relative}
use Rattle.cam_tiles.specs.Tiles.{centre_in}
use Rattle.cam_tiles.proofs.SeenRows.{are_columns_seen, column_seen, first_fits, first_seen, twice_fits}
use Rattle.cam_tiles.proofs.masks.macros.reached_tiles.Goals as goal

pub returns-then-rows : goal.returns-then-rows
returns-then-rows c = grind (arith, to_z-of_z)

pub between-requires : goal.between-requires
between-requires c = search (rules, are_columns_seen, first_seen, to_z-of_z)

pub overflow_mul-across : goal.overflow_mul-across
overflow_mul-across c = twice_fits c.args.at.x c.requires.at.x

pub overflow_sub-across : goal.overflow_sub-across
overflow_sub-across c = first_fits c.args.grid.now c.args.at c.requires.grid.grid c.requires.at

pub returns : goal.returns
returns c =
    let g = c.args.grid.now in
    let low = c.in-Closed.low in
    let high = c.in-Closed.high in
    let at = c.args.at in
    let left : FitsSigned w64 low.x = search rules in
    let right : FitsSigned w64 high.x = search rules in
    let told = simp to_z-of_z at c.between.ensures.each in
    let fits : FitsSigned w64 g.step = search rules in
    let first = first_seen g at c.requires.grid.grid c.requires.at in
    record {
      end = omega (arith, c.tiles.ensures.few, c.between.ensures.few);
      each = λ column row near below held.
          let between : IsInBox low high (relative at (centre_in g column row)) =
          subst (λ (b : Bounds). Holds b (relative at (centre_in g column row))) c.in-Closed.is held in
          let on = (told column near).1
          (subst (λ x. (low.x ≤ℤ x) × (x ≤ℤ high.x)) (sym (column_seen g at _ _ first (to_z-of_z w64 g.step fits) column)) (between.left, between.right)) in
          let tile = (c.tiles.ensures.each (column / 64)).1 (column, (on.0, (on.1, refl))) in
          (omega (arith, tile.0), omega (arith, tile.1));
    }

pub band-rows-requires-clause-grid : goal.band-rows-requires-clause-grid
band-rows-requires-clause-grid c = assumption arith

pub returns-in_default : goal.returns-in_default
returns-in_default c = grind (arith)
