use Rattle.std.proofs.Common.{◌≡◌, drop}
use Rattle.cam_macros.specs.Machinery.Variables.{looked_up}
use Rattle.cam_macros.specs.Expansion.{expansion, expansion_of, with_prims}
use Rattle.cam_macros.proofs.expansion.parts.expanded.Given as goal

abbrev pub invariant-loop-part : goal.invariant-loop-part
invariant-loop-part l =
    with_prims l.prims.items (expansion l.unit (looked_up l.variables) (drop l.part-index l.parts))
    ≡ expansion_of l.unit l.params l.parts
