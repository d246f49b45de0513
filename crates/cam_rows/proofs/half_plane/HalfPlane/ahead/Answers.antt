use Rattle.std.proofs.Common.{◌≡◌, ◌<◌, ◌^◌, pos, ◌+ℤ◌, ◌-ℤ◌, ◌*ℤ◌, FitsSigned, w64, refl, rules, arith}
use Rattle.std.specs.Int.RustNames.{unsigned_abs}
use Rattle.std.proofs.lemmas.Int.{ints}
use Rattle.cam_shapes.specs.Plane.{dot, seen_from}
use Rattle.cam_shapes.proofs.Widths.{wide}
use Rattle.cam_rows.specs.Rows.{centre_at, first_centre, row_below}
use Rattle.cam_rows.specs.declared.half_plane.HalfPlane.{HalfPlane}
use Rattle.cam_rows.proofs.HalfPlanes.{by_numbers, dot_fits}
use Rattle.cam_rows.proofs.WayProducts.{dots_are, first_in_reach, kept_sum, opposite_short, passed_centre}
use Rattle.cam_rows.proofs.WayProducts.{step_product, step_short, sum_fits, sum_passed}
use Rattle.cam_rows.proofs.half_plane.HalfPlane.ahead.Goals as goal
use Rattle.cam_rows.proofs.half_plane.HalfPlane.ahead.Goals.{After-from-4}

fits : (c : After-from-4) → FitsSigned w64 c.args.top.now.step
fits c = search rules

-- the numbers, as 128 bits compute them
first : (c : After-from-4) → wide c.dot.result +ℤ wide c.args.reach
    ≡ dot c.args.way (seen_from c.args.from.now (first_centre c.args.top.now)) +ℤ c.args.reach
first c = grind (arith, passed_centre, sum_passed)

short : (c : After-from-4) → unsigned_abs (dot c.args.way (seen_from c.args.from.now (first_centre c.args.top.now)) +ℤ c.args.reach)
    < 2 ^ 100
short c = search (rules, dot_fits, first_in_reach)

across : (c : After-from-4) → wide (wide c.from.result *ℤ wide c.from-2.result) ≡ c.args.way.x *ℤ c.args.top.now.step
across c = search (rules, step_product, fits)

fall : (c : After-from-4) → wide (wide c.from-3.result *ℤ wide c.from-4.result) ≡ c.args.way.y *ℤ c.args.top.now.step
fall c = search (rules, step_product, fits)

fall_short : (c : After-from-4) → unsigned_abs (pos 0 -ℤ c.args.way.y *ℤ c.args.top.now.step) < 2 ^ 100
fall_short c = opposite_short (c.args.way.y *ℤ c.args.top.now.step) (step_short c.args.way.y c.args.top.now.step c.requires.way.y (fits c))

pub overflow_add-result : goal.overflow_add-result
overflow_add-result c = omega (arith, ints, c.dot.ensures.bound, c.requires.reach)

pub overflow_sub-result : goal.overflow_sub-result
overflow_sub-result c = rw (fall c) (sum_fits _ (fall_short c))

pub returns : goal.returns
returns c =
    let from = c.args.from.now in
    let way = c.args.way in
    let top = c.args.top.now in
    let reach = c.args.reach in
    let plane : HalfPlane = record {
      first = dot way (seen_from from (first_centre top)) +ℤ reach;
      step = way.x *ℤ top.step;
      down = pos 0 -ℤ way.y *ℤ top.step;
    } in
    rw (first c, kept_sum _ (short c), across c, fall c, kept_sum _ (fall_short c)) (record {
      holds = by_numbers top (λ s. dot way (seen_from from s) +ℤ reach) plane (dots_are way from top reach)
          (record { first = short c; step = step_short way.x top.step c.requires.way.x (fits c); down = fall_short c })
          (λ k row. dot_fits way from (centre_at (row_below top k) 0) reach c.requires.way c.requires.from
          (row.centres 0 (omega (arith, row.count.0))) c.requires.reach);
      numbers = dots_are way from top reach;
      step = refl;
    })

pub overflow_mul-result-2 : goal.overflow_mul-result-2
overflow_mul-result-2 c = search rules

pub seen_from-requires-clause-spot : goal.seen_from-requires-clause-spot
seen_from-requires-clause-spot c = grind (arith)

pub overflow_mul-result : goal.overflow_mul-result
overflow_mul-result c = search rules
