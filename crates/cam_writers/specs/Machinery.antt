-- Words of the contracts of inner functions: they mirror the code. A reader who trusts the definitions beside this
-- folder has read all that the theorems mean.
pub mod Tracking
