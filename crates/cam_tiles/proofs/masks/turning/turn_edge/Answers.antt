use Rattle.std.proofs.Common.{◌≡◌, ◌≢◌, ◌↔◌, ℕ, ◌-◌, ◌<◌, ◌≤◌, IsTrue, length, slice_index, pos, ◌+ℤ◌, ◌*ℤ◌, ◌≤ℤ◌, FitsSigned, w64, arith, rules}
use Rattle.std.proofs.lemmas.Grind.{common_steps}
use Rattle.std.proofs.lemmas.Int.{clamps, ints, to_z-of_z}
use Rattle.cam_units.specs.declared.point.Spot.{Spot}
use Rattle.cam_shapes.specs.Edge.{crosses_ray, edge, is_above}
use Rattle.cam_shapes.proofs.Widths.{at_most_is}
use Rattle.cam_apertures.proofs.Painting.{through}
use Rattle.cam_tiles.specs.Machinery.Levels.{IsOnRow, levels_of}
use Rattle.cam_tiles.specs.Tiles.{centre_in}
use Rattle.cam_tiles.proofs.EdgeSpans.{after_ends, met_apart, missed_right, most_kept}
use Rattle.cam_tiles.proofs.Fields.{field_rows, up_right}
use Rattle.cam_tiles.proofs.GridLemmas.{long}
use Rattle.cam_tiles.proofs.Lattices.{some_steps}
use Rattle.cam_tiles.proofs.TurnedMarks.{ends_turned, no_rows, top_crossed, turns_nothing}
use Rattle.cam_tiles.proofs.masks.turning.turn_edge.Goals.{After-edge_runs, Else-band}
use Rattle.cam_tiles.proofs.masks.turning.turn_edge.Goals as goal

pub returns-then-band : goal.returns-then-band
returns-then-band c =
    no_rows c.args.field.now c.band-band.result.first c.band-band.result.end c.crossed_heights.result
    (λ s. IsTrue (crosses_ray s (edge c.args.from c.args.to))) c.args.marks.now c.if-band.true
    (rw c.levels.ensures.value at c.band-band.ensures.rows)
    (λ s met. (c.crossed_heights.ensures s).1 (met_apart s c.args.from c.args.to met))

-- the rows of the band are those that the edge crosses
crossed : (c : Else-band) → (row : ℕ) (s : Spot) → IsOnRow (levels_of c.args.field.now.grid) row s
    → ((c.band-band.result.first ≤ row) × (row < c.band-band.result.end)) ↔ (is_above c.args.from s ≢ is_above c.args.to s)
crossed c = λ row s on. through ((rw c.levels.ensures.value at c.band-band.ensures.rows) row s on) (c.crossed_heights.ensures s)

pub height-requires-clause-row : goal.height-requires-clause-row
height-requires-clause-row c =
    rw c.levels-2.ensures.value (omega (arith, rw c.levels.ensures.value at c.band-band.ensures.end, c.if-band.false))

pub edge_runs-requires-clause-rows : goal.edge_runs-requires-clause-rows
edge_runs-requires-clause-rows c =
    let band = c.band-band.result in
    let low = rw c.levels.ensures.value at c.band-band.ensures.end in
    field_rows c.args.field.now band.first _ _ _ (band.end - band.first) _
    (search rules) (search rules) (search rules) (omega (arith, low, c.if-band.false)) (search rules)

pub edge_runs-requires-clause-crossed : goal.edge_runs-requires-clause-crossed
edge_runs-requires-clause-crossed c =
    let band = c.band-band.result in
    top_crossed c.args.field.now band.first band.end c.args.from c.args.to
    c.args.field.now.grid.x _ _ (search rules) (search rules) (rw c.levels.ensures.value at c.band-band.ensures.end)
    (crossed (goal.at.edge_runs-requires-clause-crossed c).Else-band) _ (search rules)

pub returns-in-Some : goal.returns-in-Some
returns-in-Some c =
    let rows = crossed (goal.at.returns-in-Some c).Else-band in
    ends_turned c.args.field.now c.band-band.result.first c.band-band.result.end
    (λ s. IsTrue (crosses_ray s (edge c.args.from c.args.to))) _ _ _ c.args.marks.now c.mark_column.new.marks
    (search rules) (search rules) (search rules) (omega (arith, c.if-band.false)) c.requires.wide.room
    (λ row s on met. (rows row s on).1 (met_apart s c.args.from c.args.to met)) _
    (λ _. c.in-Some.end) (search rules) c.in-Some.ensures (rw c.edge_runs.auto.ends at c.mark_column.ensures)

pub returns-in-None : goal.returns-in-None
returns-in-None c =
    let rows = crossed (goal.at.returns-in-None c).Else-band in
    ends_turned c.args.field.now c.band-band.result.first c.band-band.result.end
    (λ s. IsTrue (crosses_ray s (edge c.args.from c.args.to))) _ _ _ c.args.marks.now c.mark_ends.new.marks
    (search rules) (search rules) (search rules) (omega (arith, c.if-band.false)) c.requires.wide.room
    (λ row s on met. (rows row s on).1 (met_apart s c.args.from c.args.to met)) _
    (λ k. slice_index c.edge_runs.new.ends k) (search rules) c.in-None.ensures
    (rw c.edge_runs.auto.ends at c.mark_ends.ensures)

size : (c : After-edge_runs) → length c.edge_runs.new.ends ≡ c.band-band.result.end - c.band-band.result.first
size c = search rules

pub mark_column-requires-clause-end : goal.mark_column-requires-clause-end
mark_column-requires-clause-end c =
    let size = size (goal.at.mark_column-requires-clause-end c).After-edge_runs in
    omega (arith, c.in-Some.ensures.within 0 (omega (arith, size, c.edge_runs.auto.ends, c.if-band.false)), c.requires.wide.room)

pub mark_ends-requires-clause-ends : goal.mark_ends-requires-clause-ends
mark_ends-requires-clause-ends c = λ k there.
    omega (arith, c.in-None.ensures.within k (rw c.edge_runs.auto.ends at there), c.requires.wide.room)

-- no ray meets an edge left of all columns
pub returns-then-max-field : goal.returns-then-max-field
returns-then-max-field c =
    let g = c.args.field.now.grid in
    let p = c.args.from in
    let q = c.args.to in
    let fits : FitsSigned w64 g.x = search rules in
    let past : long (pos 2 *ℤ long c.max.result) ≤ℤ long g.x = (at_most_is _ _).0 c.if-max-field.true in
    let reach = rw (to_z-of_z w64 g.x fits) at past in
    turns_nothing c.args.field.now (λ s. IsTrue (crosses_ray s (edge p q))) c.args.marks.now (λ column row within met.
    let ends = after_ends (g.x +ℤ pos column *ℤ g.step) p.x q.x _
    (most_kept p.x q.x c.max.result c.requires.from.x c.requires.to.x c.max.ensures.value)
    (up_right g.x (pos column *ℤ g.step) _ (some_steps g.step column c.args.field.now.seen.step) reach) in
    missed_right (centre_in g column row) p q ends.0 ends.1 met)

pub levels-requires : goal.levels-requires
levels-requires c = c.args.field.now.seen.levels

pub band-band-requires : goal.band-band-requires
band-band-requires c = c.levels.ensures.levels

pub overflow_mul-max : goal.overflow_mul-max
overflow_mul-max c = omega (arith, ints, clamps, c.max.ensures.value)

pub slice_bounds-ends-end : goal.slice_bounds-ends-end
slice_bounds-ends-end c = omega (arith, rw c.levels.ensures.value at c.band-band.ensures.end, c.args.field.now.seen.rows)

pub mark_ends-requires-clause-rows : goal.mark_ends-requires-clause-rows
mark_ends-requires-clause-rows c = grind (arith, common_steps)

pub mark_column-requires-clause-rows : goal.mark_column-requires-clause-rows
mark_column-requires-clause-rows c = grind (arith, common_steps)

pub slice_bounds-ends-end-2 : goal.slice_bounds-ends-end-2
slice_bounds-ends-end-2 c = grind (arith, common_steps)

pub levels-requires-2 : goal.levels-requires-2
levels-requires-2 c = assumption arith

pub height-requires-clause-levels : goal.height-requires-clause-levels
height-requires-clause-levels c = grind (arith)
