use Rattle.std.proofs.Common.{sym, ◌∙◌, arith}
use Rattle.std.proofs.lemmas.Bool.{false_from_ne_true, false≢true}
use Rattle.cam_objects.specs.declared.item.Item.TheVariants.{One}
use Rattle.cam_objects.specs.Soundness.{is_inside}
use Rattle.cam_objects.proofs.PaintedBoxes.{inside_one}
use Rattle.cam_objects.proofs.TestLaws.{inside_law, same_test}
use Rattle.cam_objects.proofs.checks.inside.is_object_inside.Goals as goal

pub returns-then-not-stands_on_board : goal.returns-then-not-stands_on_board
returns-then-not-stands_on_board c =
    let item = One c.args.object.now in
    sym (false_from_ne_true (is_inside c.args.entries.now item) (λ t. false≢true (sym c.if-not-stands_on_board.true
    ∙ c.stands_on_board.ensures.1 (((inside_law c.args.entries.now item).0 t).points 0 c.args.object.now (omega arith)))))

pub returns : goal.returns
returns c =
    same_test c.fits_box.result _
    (inside_one c.args.entries.now c.args.object.now c.painted_box.result c.fits_box.result
    (c.stands_on_board.ensures.0 c.if-not-stands_on_board.false)
    c.painted_box.ensures c.fits_box.ensures) (inside_law c.args.entries.now (One c.args.object.now))
