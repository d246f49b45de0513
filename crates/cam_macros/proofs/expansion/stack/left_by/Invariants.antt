use Rattle.std.proofs.Common.{◌≡◌, drop, []}
use Rattle.cam_macros.specs.Machinery.Stack.{run}
use Rattle.cam_macros.specs.Machinery.Variables.{looked_up}
use Rattle.cam_macros.proofs.expansion.stack.left_by.Given as goal

abbrev pub invariant-loop-step : goal.invariant-loop-step
invariant-loop-step l = run (looked_up l.variables) (drop l.step-index l.steps) l.stack
    ≡ run (looked_up l.variables) l.steps []
