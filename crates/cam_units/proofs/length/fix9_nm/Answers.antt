use Rattle.std.proofs.Common.{rules}
use Rattle.cam_units.proofs.Nanometres.{fitting_length}
use Rattle.cam_units.proofs.length.fix9_nm.Goals as goal

pub overflow_cast-result : goal.overflow_cast-result
overflow_cast-result c = fitting_length c.nearest.result _ c.nearest.ensures.value c.billionths.ensures.length

pub returns : goal.returns
returns c = search rules
