-- Faults of a part and of the whole.
use Rattle.std.proofs.Common.{arith}
use Rattle.cam_macros.specs.declared.fault.MacroFault.{MacroFault}
use Rattle.cam_macros.specs.Answers.{IsMalformed}

-- what tells one fact tells what follows from it
pub malformed_also : {P Q : Type 0} (fault : MacroFault) → (P → Q) → IsMalformed fault P → IsMalformed fault Q
malformed_also fault g f = grind arith
