use Rattle.std.proofs.Common.{sym, ap, ◌∙◌, arith}
use Rattle.std.proofs.lemmas.Bool.{false_from_ne_true, false≢true}
use Rattle.cam_units.specs.declared.point.Point.{Point}
use Rattle.cam_objects.specs.declared.item.Item.TheVariants.{Repeat}
use Rattle.cam_objects.specs.Bounds.{moved}
use Rattle.cam_objects.specs.Soundness.{is_inside}
use Rattle.cam_objects.proofs.PaintedBoxes.{inside_repeat, outside_repeat}
use Rattle.cam_objects.proofs.TestLaws.{inside_law, same_test}
use Rattle.cam_objects.proofs.checks.inside.is_repeat_inside.Goals as goal

pub returns-then-not-stand_on_board : goal.returns-then-not-stand_on_board
returns-then-not-stand_on_board c =
    let es = c.args.entries.now in
    let copies = c.args.copies.now in
    let item = Repeat copies.columns copies.rows copies.i copies.j c.args.objects.now in
    sym (false_from_ne_true (is_inside es item)
    (λ t. false≢true (sym c.if-not-stand_on_board.true ∙ c.stand_on_board.ensures.1 ((inside_law es item).0 t).points)))

pub returns-then-not-are_short : goal.returns-then-not-are_short
returns-then-not-are_short c =
    let es = c.args.entries.now in
    let copies = c.args.copies.now in
    let item = Repeat copies.columns copies.rows copies.i copies.j c.args.objects.now in
    sym (false_from_ne_true (is_inside es item)
    (λ t. false≢true (sym c.if-not-are_short.true ∙ c.are_short.ensures.1 ((inside_law es item).0 t).steps)))

pub returns-then-not-fits_box : goal.returns-then-not-fits_box
returns-then-not-fits_box c =
    let es = c.args.entries.now in
    let copies = c.args.copies.now in
    same_test _ _
    (outside_repeat es copies.columns copies.rows copies.i copies.j c.args.objects.now c.painted_boxes-one.result
    c.requires.copies c.painted_boxes-one.ensures (λ h. false≢true (sym c.if-not-fits_box.true ∙ c.fits_box.ensures.1 h)))
    (inside_law es (Repeat copies.columns copies.rows copies.i copies.j c.args.objects.now))

pub returns : goal.returns
returns c =
    let es = c.args.entries.now in
    let copies = c.args.copies.now in
    same_test c.fits_box-2.result _
    (inside_repeat es copies.columns copies.rows copies.i copies.j
    c.args.objects.now c.painted_boxes-one.result c.moved.result c.fits_box-2.result
    c.requires.copies (c.stand_on_board.ensures.0 c.if-not-stand_on_board.false) (c.are_short.ensures.0 c.if-not-are_short.false)
    c.painted_boxes-one.ensures (c.fits_box.ensures.0 c.if-not-fits_box.false)
    (c.moved.ensures ∙ ap (λ (o : Point). moved o c.painted_boxes-one.result) c.last.ensures.value) c.fits_box-2.ensures)
    (inside_law es (Repeat copies.columns copies.rows copies.i copies.j c.args.objects.now))

pub last-requires-clause-up : goal.last-requires-clause-up
last-requires-clause-up c = grind (arith)

pub last-requires-clause-copies : goal.last-requires-clause-copies
last-requires-clause-copies c = grind (arith)

pub painted_boxes-one-requires : goal.painted_boxes-one-requires
painted_boxes-one-requires c = grind (arith)

pub moved-requires-clause-bounds : goal.moved-requires-clause-bounds
moved-requires-clause-bounds c = grind (arith)

pub last-requires-clause-across : goal.last-requires-clause-across
last-requires-clause-across c = grind (arith)
