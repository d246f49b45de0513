-- Laws of the definitions beside this folder, which the instances of `Reversible` hand out as their proofs, and words
-- of the contracts of inner functions. A reader who trusts those definitions has read all that the theorems mean.
pub mod PlaceLaws
pub mod MovingLaws
pub mod StepLaws
pub mod DrillStepLaws
pub mod Room
pub mod BoardStepLaws
pub mod Judging
pub mod Shifts
