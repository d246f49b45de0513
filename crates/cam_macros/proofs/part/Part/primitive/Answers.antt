use Rattle.std.proofs.Common.{arith, sym, ◌∙◌}
use Rattle.cam_macros.proofs.PartLemmas.{no_code, is_primitive}
use Rattle.cam_macros.proofs.part.Part.primitive.Goals as goal

pub returns-in_default-clause-fault : goal.returns-in_default-clause-fault
returns-in_default-clause-fault c =
    no_code c.args.piece.now c.cut.result.0.now _ c.cut.ensures.all (sym c.in_default.is ∙ c.natural.ensures)

pub returns-clause-ok : goal.returns-clause-ok
returns-clause-ok c = grind (arith, is_primitive)
