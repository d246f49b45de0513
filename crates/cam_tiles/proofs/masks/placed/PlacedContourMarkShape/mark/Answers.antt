use Rattle.std.proofs.Common.{◌*◌, drop, refl, rules, arith}
use Rattle.std.proofs.lemmas.Grind.{common_steps}
use Rattle.std.proofs.lemmas.List.{places}
use Rattle.cam_shapes.specs.Contour.{IsInContour}
use Rattle.cam_shapes.specs.Placing.{placed_contour}
use Rattle.cam_tiles.proofs.Fields.{field_of_wide}
use Rattle.cam_tiles.proofs.TurnedMarks.{marks_before}
use Rattle.cam_tiles.proofs.masks.placed.PlacedContourMarkShape.mark.Goals as goal

pub new-field-requires : goal.new-field-requires
new-field-requires c = field_of_wide c.args.grid.now c.args.columns c.requires.grid

pub returns : goal.returns
returns c =
    let placing = c.args.self.now.placing in
    rw (c.new-field.ensures.grid, c.new-field.ensures.columns) at
    (marks_before c.new-field.result
    (λ s. IsInContour s (placed_contour placing.turn placing.offset c.args.self.now.contour.now)) c.div_ceil.result
    c.fill.new.self c.turn_contour.new.marks c.spread_marks.new.marks
    (drop (64 * c.div_ceil.result) c.args.marks.now) (omega (arith, c.div_ceil.ensures, c.new-field.ensures.columns))
    (search (rules, places)) (λ k within. c.fill.ensures.clones k 0 (rw c.fill.ensures.len at within) refl)
    c.turn_contour.auto.marks c.spread_marks.auto.marks c.turn_contour.ensures c.spread_marks.ensures)

pub turn_contour-requires-clause-contour : goal.turn_contour-requires-clause-contour
turn_contour-requires-clause-contour c = assumption arith

pub turn_contour-requires-clause-wide : goal.turn_contour-requires-clause-wide
turn_contour-requires-clause-wide c = grind (arith, common_steps)
