use Rattle.std.proofs.Common.{◌*◌, drop, refl, rules, arith}
use Rattle.std.proofs.lemmas.Grind.{common_steps}
use Rattle.std.proofs.lemmas.List.{places}
use Rattle.cam_shapes.specs.Contour.{IsInContour}
use Rattle.cam_tiles.proofs.Fields.{field_of_wide}
use Rattle.cam_tiles.proofs.TurnedMarks.{marks_before}
use Rattle.cam_tiles.proofs.masks.parts.PartedContourMarkShape.mark.Goals as goal

pub new-field-requires : goal.new-field-requires
new-field-requires c = field_of_wide c.args.grid.now c.args.columns c.requires.grid

pub returns : goal.returns
returns c =
    rw (c.new-field.ensures.grid, c.new-field.ensures.columns) at
    (marks_before c.new-field.result (λ s. IsInContour s c.args.self.now.contour.now) c.div_ceil.result
    c.fill.new.self c.turn_parts.new.marks c.spread_marks.new.marks
    (drop (64 * c.div_ceil.result) c.args.marks.now) (omega (arith, c.div_ceil.ensures, c.new-field.ensures.columns))
    (search (rules, places)) (λ k within. c.fill.ensures.clones k 0 (rw c.fill.ensures.len at within) refl)
    c.turn_parts.auto.marks c.spread_marks.auto.marks c.turn_parts.ensures c.spread_marks.ensures)

pub turn_parts-requires-clause-wide : goal.turn_parts-requires-clause-wide
turn_parts-requires-clause-wide c = grind (arith, common_steps)
