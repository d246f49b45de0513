use Rattle.std.proofs.Common.{◌↔◌, ℤ, pos, negsuc, ◌+ℤ◌, ◌-ℤ◌, ◌*ℤ◌, ◌≤ℤ◌, ◌<ℤ◌, length, arith}
use Rattle.std.proofs.lemmas.Int.{ints}
use Rattle.cam_shapes.specs.Plane.{way}
use Rattle.cam_rows.proofs.CountedRuns.{counted_ends, falls_right}
use Rattle.cam_rows.proofs.WideRows.{top_is_wide}
use Rattle.cam_rows.proofs.runs.edge.runs_left.Goals as goal

-- a whole number less 1 is not negative where it is more than 0
less_natural : (z : ℤ) → (pos 0 ≤ℤ (z +ℤ negsuc 0)) ↔ (pos 0 <ℤ z)
less_natural z = ((λ h. omega (arith, ints)), (λ h. omega (arith, ints)))

rises : (a b : ℤ) → a <ℤ b → pos 0 <ℤ (pos 2 *ℤ b -ℤ pos 2 *ℤ a)
rises a b h = omega (arith, ints)

pub count_columns-requires-clause-short : goal.count_columns-requires-clause-short
count_columns-requires-clause-short c = c.left.ensures.holds.short _ c.requires.rows

pub returns : goal.returns
returns c = grind (arith, counted_ends, less_natural)

pub left-requires-clause-row : goal.left-requires-clause-row
left-requires-clause-row c = top_is_wide c.args.top.now (length c.args.ends.now) c.requires.some c.requires.rows

pub count_columns-requires-clause-few : goal.count_columns-requires-clause-few
count_columns-requires-clause-few c = grind (arith, top_is_wide)

pub count_columns-requires-clause-falls : goal.count_columns-requires-clause-falls
count_columns-requires-clause-falls c =
    falls_right (way c.args.from.now c.args.to.now).y c.args.top.now.step c.left.result.step
    (rises c.args.from.now.y c.args.to.now.y c.requires.rises)
    (top_is_wide c.args.top.now (length c.args.ends.now) c.requires.some c.requires.rows).step
    c.left.ensures.step

pub count_columns-requires-clause-some : goal.count_columns-requires-clause-some
count_columns-requires-clause-some c = c.requires.some
