use Rattle.std.proofs.Common.{arith, ap, sym, ◌∙◌, rules}
use Rattle.std.proofs.lemmas.Grind.{common_steps}
use Rattle.cam_units.specs.Turns.{applied, matrix_of}
use Rattle.cam_units.proofs.TurnLaws.{same_point}
use Rattle.cam_units.proofs.Coordinates.{first_kept, first_negated, second_kept, second_negated}
use Rattle.cam_units.proofs.turn.Turn.apply.Goals as goal

pub returns-in-R180-clause-value : goal.returns-in-R180-clause-value
returns-in-R180-clause-value c = grind (arith, same_point, first_negated, second_negated)

pub returns-in-M90-clause-value : goal.returns-in-M90-clause-value
returns-in-M90-clause-value c = grind (arith, same_point, second_negated, first_negated)

pub returns-in-R90-clause-value : goal.returns-in-R90-clause-value
returns-in-R90-clause-value c =
    same_point _ _ (second_negated c.args.point.y c.args.point.x c.requires.y) (first_kept c.args.point.x c.args.point.y c.requires.x)
    ∙ ap (λ t. applied (matrix_of t) c.args.point) (sym c.in-R90.is)

pub returns-in-R270-clause-value : goal.returns-in-R270-clause-value
returns-in-R270-clause-value c =
    same_point _ _ (second_kept c.args.point.y c.args.point.x c.requires.y) (first_negated c.args.point.x c.args.point.y c.requires.x)
    ∙ ap (λ t. applied (matrix_of t) c.args.point) (sym c.in-R270.is)

pub returns-in-M0-clause-value : goal.returns-in-M0-clause-value
returns-in-M0-clause-value c =
    same_point _ _ (first_negated c.args.point.x c.args.point.y c.requires.x) (second_kept c.args.point.y c.args.point.x c.requires.y)
    ∙ ap (λ t. applied (matrix_of t) c.args.point) (sym c.in-M0.is)

pub returns-in-M180-clause-value : goal.returns-in-M180-clause-value
returns-in-M180-clause-value c =
    same_point _ _ (first_kept c.args.point.x c.args.point.y c.requires.x) (second_negated c.args.point.y c.args.point.x c.requires.y)
    ∙ ap (λ t. applied (matrix_of t) c.args.point) (sym c.in-M180.is)

pub returns-in-R0-clause-value : goal.returns-in-R0-clause-value
returns-in-R0-clause-value c = search rules

pub returns-in-R90-clause-turnable : goal.returns-in-R90-clause-turnable
returns-in-R90-clause-turnable c = search rules

pub returns-in-M90-clause-turnable : goal.returns-in-M90-clause-turnable
returns-in-M90-clause-turnable c = search rules

pub returns-in-R0-clause-turnable : goal.returns-in-R0-clause-turnable
returns-in-R0-clause-turnable c = grind (arith)

pub returns-in-R0-clause-on_board : goal.returns-in-R0-clause-on_board
returns-in-R0-clause-on_board c = grind (arith)

pub returns-in-R270-clause-turnable : goal.returns-in-R270-clause-turnable
returns-in-R270-clause-turnable c = search rules

pub returns-in-M0-clause-on_board : goal.returns-in-M0-clause-on_board
returns-in-M0-clause-on_board c = search rules

pub returns-in-M270-clause-turnable : goal.returns-in-M270-clause-turnable
returns-in-M270-clause-turnable c = grind (arith)

pub returns-in-M90-clause-on_board : goal.returns-in-M90-clause-on_board
returns-in-M90-clause-on_board c = search rules

pub returns-in-R180-clause-turnable : goal.returns-in-R180-clause-turnable
returns-in-R180-clause-turnable c = search rules

pub returns-in-M0-clause-turnable : goal.returns-in-M0-clause-turnable
returns-in-M0-clause-turnable c = search rules

pub returns-in-R270-clause-on_board : goal.returns-in-R270-clause-on_board
returns-in-R270-clause-on_board c = search rules

pub returns-in-M270-clause-on_board : goal.returns-in-M270-clause-on_board
returns-in-M270-clause-on_board c = grind (arith)

pub returns-in-M180-clause-turnable : goal.returns-in-M180-clause-turnable
returns-in-M180-clause-turnable c = search rules

pub returns-in-R90-clause-on_board : goal.returns-in-R90-clause-on_board
returns-in-R90-clause-on_board c = search rules

pub returns-in-M270-clause-value : goal.returns-in-M270-clause-value
returns-in-M270-clause-value c = grind (arith, common_steps)

pub returns-in-M180-clause-on_board : goal.returns-in-M180-clause-on_board
returns-in-M180-clause-on_board c = search rules

pub returns-in-R180-clause-on_board : goal.returns-in-R180-clause-on_board
returns-in-R180-clause-on_board c = search rules
