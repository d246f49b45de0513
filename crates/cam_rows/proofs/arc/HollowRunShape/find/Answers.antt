use Rattle.cam_rows.specs.ArcRuns.{IsHollow}
use Rattle.cam_rows.specs.Machinery.Narrowing.{IsNearer}
use Rattle.cam_rows.proofs.ArcRuns.{in_inner}
use Rattle.cam_rows.proofs.FoundRuns.{found_narrowed}
use Rattle.cam_rows.proofs.arc.HollowRunShape.find.Goals as goal

pub returns : goal.returns
returns c =
    let arc = c.args.self.now.arc in
    let ring = c.args.self.now.ring in
    found_narrowed c.args.firsts.now c.args.ends.now c.narrow_to_circle.new.firsts c.narrow_to_circle.new.ends
    c.args.top.now (IsNearer arc.centre ring.inner) (λ s. IsHollow arc s) (λ s. in_inner ring arc s c.requires.sound.1)
    c.narrow_to_circle.ensures
