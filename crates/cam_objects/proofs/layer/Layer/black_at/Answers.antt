use Rattle.std.proofs.Common.{◌↔◌, false, IsTrue, ap, sym, subst, ◌∙◌}
use Rattle.std.specs.Option.{unwrap_or}
use Rattle.cam_objects.specs.Image.{IsBlack}
use Rattle.cam_objects.specs.Leaves.{leaves_of}
use Rattle.cam_objects.proofs.LastInks.{inked, last_law}
use Rattle.cam_objects.proofs.TestLaws.{black_law}
use Rattle.cam_objects.proofs.layer.Layer.black_at.Goals as goal

pub returns-clause-test : goal.returns-clause-test
returns-clause-test c =
    let leaves = leaves_of c.args.self.now.apertures c.args.self.now.items.items in
    c.is_dark.ensures
    ∙ ap (λ o. unwrap_or o false) (inked leaves c.at-pixel.result c.paint.new.canvas c.args.spot c.at-pixel.ensures c.paint.ensures)
    ∙ sym (last_law leaves c.args.spot)

pub returns-clause-image : goal.returns-clause-image
returns-clause-image c =
    let leaves = leaves_of c.args.self.now.apertures c.args.self.now.items.items in
    subst (λ b. IsTrue b ↔ IsBlack leaves c.args.spot) (sym (returns-clause-test c)) (black_law leaves c.args.spot)
