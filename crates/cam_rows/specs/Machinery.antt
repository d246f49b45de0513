-- Words of the contracts of inner functions: they mirror the code. A reader who trusts the definitions beside this
-- folder has read all that the theorems mean.
pub mod Beside
pub mod Chords
pub mod HalfPlanes
pub mod Narrowing
pub mod Quarters
pub mod Slopes
pub mod Ties
