use Rattle.cam_rows.specs.Rows.{centre_at}
use Rattle.cam_rows.proofs.CapsuleParts.{in_capsule}
use Rattle.cam_rows.proofs.NarrowedRuns.{run_by}
use Rattle.cam_rows.proofs.OneRow.{in_either}
use Rattle.cam_rows.proofs.capsule.capsule_row.Goals as goal

pub returns : goal.returns
returns c = λ i small.
    let told = in_capsule (centre_at c.args.centres i) c.args.capsule in
    let first = in_either _ _ i _ _ _ (c.bar_row.ensures i small) (c.disc_row.ensures i small) in
    run_by _ _ _ _ (in_either _ _ i _ _ _ first (c.disc_row-2.ensures i small)) (told.1, told.0)
