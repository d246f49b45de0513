use Rattle.std.proofs.Common.{IsTrue, sym, ap, subst, ◌∙◌, rules, arith}
use Rattle.cam_shapes.specs.declared.segments.Seg.{Seg}
use Rattle.cam_shapes.specs.Contour.{end_of}
use Rattle.cam_shapes.specs.Placing.{IsPlaceableSeg}
use Rattle.cam_shapes.specs.Sides.{changes_side}
use Rattle.cam_tiles.specs.Machinery.Turning.{TurnsCentres}
use Rattle.cam_tiles.proofs.masks.placed.turn_placed.Goals as goal

pub turn_line-requires-clause-to : goal.turn_line-requires-clause-to
turn_line-requires-clause-to c =
    let p = c.args.placing in (subst (IsPlaceableSeg p.turn p.offset) c.in-Line.is c.requires.seg).here

pub returns-in-Line-clause-board : goal.returns-in-Line-clause-board
returns-in-Line-clause-board c =
    let p = c.args.placing in (subst (IsPlaceableSeg p.turn p.offset) c.in-Line.is c.requires.seg).here

pub returns-in-Line-clause-end : goal.returns-in-Line-clause-end
returns-in-Line-clause-end c =
    let stays : IsTrue c.args.stays = search rules in
    sym (ap end_of (c.requires.stays stays c.args.seg.now ∙ c.in-Line.is))

pub returns-in-Line-clause-turned : goal.returns-in-Line-clause-turned
returns-in-Line-clause-turned c =
    let stays : IsTrue c.args.stays = search rules in
    subst (λ (seg : Seg). TurnsCentres c.args.field.now
    (λ s. IsTrue (changes_side s c.args.here seg)) c.args.marks.now c.turn_line.new.marks)
    (sym (c.requires.stays stays c.args.seg.now ∙ c.in-Line.is)) c.turn_line.ensures

pub returns-clause-board : goal.returns-clause-board
returns-clause-board c = c.end.ensures.on_board c.seg-seg.ensures.sound

pub returns-clause-turned : goal.returns-clause-turned
returns-clause-turned c = grind (arith)
