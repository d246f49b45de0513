use Rattle.std.proofs.Common.{◌∙◌}
use Rattle.cam_apertures.proofs.Refusals.{answer_defined, answer_refused}
use Rattle.cam_apertures.proofs.definition.parse_ad.Goals as goal

pub returns-clause-ok : goal.returns-clause-ok
returns-clause-ok c =
    answer_defined c.args.text.now c.as_slice.result.now c.args.macros.now c.args.unit c.defined.result (c.as_slice.ensures.value ∙ c.in_ok-text.ensures)
    c.defined.ensures.ok

pub returns-clause-fault : goal.returns-clause-fault
returns-clause-fault c =
    answer_refused c.args.text.now c.as_slice.result.now c.args.macros.now c.args.unit c.defined.result (c.as_slice.ensures.value ∙ c.in_ok-text.ensures)
    c.defined.ensures.fault
