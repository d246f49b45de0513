use Rattle.std.proofs.Common.{sym, subst, ap, map, ◌∙◌}
use Rattle.std.specs.List.{remove}
use Rattle.cam_objects.specs.Cells.{AreFirstCopiesOf}
use Rattle.cam_objects.specs.Machinery.FirstCopies.{once_gone}
use Rattle.cam_objects.proofs.KeptCopies.{item_went}
use Rattle.cam_objects.proofs.boxes.first_copies.FirstCopies.remove.Goals as goal

pub returns : goal.returns
returns c = λ entries before known within.
    let found = c.self.inside.found.items in
    subst (AreFirstCopiesOf entries (remove before c.args.place))
    (sym (c.close_gap.ensures ∙ ap (map (once_gone c.args.place)) c.let_go.ensures))
    (item_went entries before found (subst (AreFirstCopiesOf entries before) (sym c.self.view_is) known) c.args.place within)
