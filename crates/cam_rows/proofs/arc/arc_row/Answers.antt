use Rattle.std.proofs.Common.{◌↔◌, ◌⊎◌, arith}
use Rattle.cam_rows.specs.Rows.{centre_at}
use Rattle.cam_rows.proofs.ArcRuns.{arc_is_its_runs}
use Rattle.cam_rows.proofs.NarrowedRuns.{run_by}
use Rattle.cam_rows.proofs.OneRow.{in_either, in_rest}
use Rattle.cam_rows.proofs.arc.arc_row.Goals as goal

-- the parts of an arc, one after another
parts : (A O H B S E : Type 0) → A ↔ ((O × (H → ⊥) × (B → ⊥)) ⊎ S ⊎ E)
    → ((((O × (H → ⊥)) × (B → ⊥)) ⊎ S) ⊎ E) ↔ A
parts A O H B S E told = grind (arith, told)

pub returns : goal.returns
returns c = λ i small.
    let around = in_rest _ _ i _ _ _ c.row_of-hollow.type_inv small (c.row_of-outer.ensures i small)
    (c.row_of-hollow.ensures i small) in
    let middle = in_rest _ _ i _ _ _ c.row_of-beyond.type_inv small around (c.row_of-beyond.ensures i small) in
    let first = in_either _ _ i _ _ _ middle (c.disc_row.ensures i small) in
    run_by _ _ _ _ (in_either _ _ i _ _ _ first (c.disc_row-2.ensures i small))
    (parts _ _ _ _ _ _ (arc_is_its_runs (centre_at c.args.centres i) c.args.arc))
