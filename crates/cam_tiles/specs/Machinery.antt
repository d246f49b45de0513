-- Words of the contracts of inner functions: they mirror the code. A reader who trusts the definitions beside this
-- folder has read all that the theorems mean.
pub mod Drawn
pub mod Fields
pub mod Figures
pub mod Indexes
pub mod Inks
pub mod Kept
pub mod Lattices
pub mod Levels
pub mod Marks
pub mod Masks
pub mod Parts
pub mod Plain
pub mod RowLists
pub mod Runs
pub mod Shown
pub mod Spans
pub mod Spreading
pub mod Swaths
pub mod Turning
pub mod Words
