use Rattle.std.proofs.Common.{◌↔◌, ℕ, [], ◌∷◌, ◌/◌, ◌<◌, ◌≤◌, ◌≤ℤ◌, subst, FitsSigned, w64, refl, rules, arith}
use Rattle.std.proofs.lemmas.Int.{to_z-of_z}
use Rattle.cam_objects.specs.Leaves.{Filled, leaf}
use Rattle.cam_objects.proofs.Canvases.{paints_off}
use Rattle.cam_objects.proofs.Inking.{uncovered_cons, uncovered_nil}
use Rattle.cam_tiles.specs.Machinery.Swaths.{IsInSwath, Swathed, ink_in, place_in}
use Rattle.cam_tiles.proofs.masks.swath.Swath.paint_contour.Goals.{After-columns_between-columns}
use Rattle.cam_tiles.proofs.masks.swath.Swath.paint_contour.Goals as goal

pub columns_between-columns-requires-clause-centres : goal.columns_between-columns-requires-clause-centres
columns_between-columns-requires-clause-centres c = λ column near.
    let kept = c.self.invariant in
    (kept.wide (omega (arith, near))).centres column 0 near kept.grid.rows.0

-- the columns that lie between the two places
reached : (c : After-columns_between-columns) → (column : ℕ) → column < c.args.self.now.columns
    → ((c.columns_between-columns.result.first ≤ column) × (column < c.columns_between-columns.result.end))
    ↔ ((c.args.left ≤ℤ (place_in c.args.self.now column 0).x) × ((place_in c.args.self.now column 0).x ≤ℤ c.args.right))
reached c =
    let span = c.columns_between-columns.result in
    let left : FitsSigned w64 c.args.left = search rules in
    let right : FitsSigned w64 c.args.right = search rules in
    subst
    (λ (v : Swathed). (column : ℕ) → column < v.columns → ((span.first ≤ column) × (column < span.end))
    ↔ ((c.args.left ≤ℤ (place_in v column 0).x) × ((place_in v column 0).x ≤ℤ c.args.right)))
    c.self.view_is (simp to_z-of_z at c.columns_between-columns.ensures.each)

pub returns-then-columns : goal.returns-then-columns
returns-then-columns c =
    let now = c.args.self.now in
    let shape = leaf (Filled c.args.contour.now.contour.now) c.args.dark in
    let here = reached (goal.at.returns-then-columns c).After-columns_between-columns in
    paints_off IsInSwath place_in ink_in now (shape ∷ []) (λ column row there.
    let at = place_in now column row in
    uncovered_cons at shape [] (λ on.
    let within = (here column there.0).1 (c.requires.sides at on) in
    omega (arith, within.0, within.1, c.if-columns.true)) (uncovered_nil at))

pub paint_marked-requires-clause-within : goal.paint_marked-requires-clause-within
paint_marked-requires-clause-within c column row there on =
    let here = reached (goal.at.paint_marked-requires-clause-within c).After-columns_between-columns in
    let within = (here column there.0).1 (c.requires.sides (place_in c.args.self.now column row) on) in
    (c.tiles.ensures.each (column / 64)).1 (column, (within.0, (within.1, refl)))

pub paint_marked-requires-clause-tiles : goal.paint_marked-requires-clause-tiles
paint_marked-requires-clause-tiles c = grind (arith)

pub columns_between-columns-requires-clause-grid : goal.columns_between-columns-requires-clause-grid
columns_between-columns-requires-clause-grid c = grind (arith)
