use Rattle.cam_apertures.proofs.Expansions.{expanded_sound}
use Rattle.cam_apertures.proofs.macros.primitives.Goals as goal

pub from_prims-requires : goal.from_prims-requires
from_prims-requires c =
    expanded_sound c.args.unit c.args.parameters.now c.args.parts.now c.in_ok-prims.prims c.in_ok-prims.ensures.ok
