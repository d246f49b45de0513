use Rattle.std.proofs.Common.{◌≡◌, ℕ, IsTrue, List, Option, slice_index, subst, sym, ◌∙◌, arith}
use Rattle.std.specs.Option.{unwrap_or}
use Rattle.cam_rows.proofs.EdgeSides.{only_crossed}
use Rattle.cam_shapes.specs.Edge.{crosses_ray, edge}
use Rattle.cam_rows.specs.Rows.{row_below}
use Rattle.cam_rows.specs.Runs.{IsWideRow, end_in}
use Rattle.cam_rows.proofs.OneRow.{marks_run}
use Rattle.cam_rows.proofs.Slopes.{top_row}
use Rattle.cam_rows.proofs.Steps.{wide_row}
use Rattle.cam_rows.proofs.edge.edge_row.Goals as goal

-- the end of the one row
end_is : (one : Option ℕ) (ends : List ℕ) → end_in one ends 0 ≡ unwrap_or one (slice_index ends 0)
end_is one ends = grind arith

pub edge_runs-requires-clause-rows : goal.edge_runs-requires-clause-rows
edge_runs-requires-clause-rows c k within =
    let first : 0 ≡ k = omega arith in
    subst (λ n. IsWideRow (row_below c.args.centres n)) first
    (subst IsWideRow (sym (top_row c.args.centres)) (wide_row c.args.centres c.requires.row))

pub returns : goal.returns
returns c =
    marks_run c.run_row.result 0 _ c.args.centres (λ s. IsTrue (crosses_ray s (edge c.args.from c.args.to)))
    c.run_row.ensures
    (λ i small.
    let here = c.edge_runs.ensures.each 0 i (omega arith) small in
    let same = c.unwrap_or-end.ensures ∙ sym (end_is c.edge_runs.result c.edge_runs.new.ends) in
    ((λ on. here.0 (omega (arith, on.1, same))), (λ held. (omega arith, omega (arith, here.1 held, same)))))

pub edge_runs-requires-clause-crossed : goal.edge_runs-requires-clause-crossed
edge_runs-requires-clause-crossed c = grind (arith, only_crossed)
