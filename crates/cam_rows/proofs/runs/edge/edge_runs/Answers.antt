use Rattle.std.proofs.Common.{IsTrue, pos, ◌<ℤ◌, length, sym, ◌∙◌, arith, rules}
use Rattle.cam_shapes.specs.Edge.{crosses_ray, edge}
use Rattle.cam_shapes.specs.Plane.{cross, seen_from, way}
use Rattle.cam_rows.specs.Runs.{end_in}
use Rattle.cam_rows.proofs.CountedRuns.{ends_like}
use Rattle.cam_rows.proofs.EdgeSides.{falls_through, falls_to, rises_through, rises_to}
use Rattle.cam_rows.proofs.runs.edge.edge_runs.Goals as goal

pub runs_left-requires-clause-rises : goal.runs_left-requires-clause-rises
runs_left-requires-clause-rises c =
    falls_to c.args.from c.args.to c.args.top.now
    (sym c.is_above.ensures ∙ c.if-is_above.true)
    (c.requires.crossed 0 (search rules))

pub runs_left-requires-else-is_above-clause-rises : goal.runs_left-requires-else-is_above-clause-rises
runs_left-requires-else-is_above-clause-rises c =
    rises_to c.args.from c.args.to c.args.top.now
    (sym c.is_above.ensures ∙ c.if-is_above.false)
    (c.requires.crossed 0 (search rules))

pub returns-then-is_above : goal.returns-then-is_above
returns-then-is_above c =
    let p = c.args.from in
    let q = c.args.to in
    ends_like (end_in c.runs_left.result c.runs_left.new.ends) (length c.args.ends.now) c.args.top.now (λ s. pos 0 <ℤ cross (way q p) (seen_from q s))
    (λ s. IsTrue (crosses_ray s (edge p q)))
    (λ k i within.
    falls_through p q c.args.top.now k i (c.requires.rows k within).step
    (sym c.is_above.ensures ∙ c.if-is_above.true)
    (c.requires.crossed k within))
    c.runs_left.ensures

pub returns-else-is_above : goal.returns-else-is_above
returns-else-is_above c =
    let p = c.args.from in
    let q = c.args.to in
    let left = c.runs_left-else-is_above in
    ends_like (end_in left.result left.new.ends) (length c.args.ends.now) c.args.top.now (λ s. pos 0 <ℤ cross (way p q) (seen_from p s))
    (λ s. IsTrue (crosses_ray s (edge p q)))
    (λ k i within.
    rises_through p q c.args.top.now k i (c.requires.rows k within).step
    (sym c.is_above.ensures ∙ c.if-is_above.false)
    (c.requires.crossed 0 (omega (arith, within)))
    (c.requires.crossed k within))
    left.ensures
