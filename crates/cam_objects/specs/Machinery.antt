-- Words of the contracts of inner functions: they mirror the code. A reader who trusts the definitions beside this folder has read all
-- that the theorems mean.
pub mod Asked
pub mod ObjectCells
pub mod Slots
pub mod Painting
pub mod Facts
pub mod Boxes
pub mod Tracing
pub mod Inside
pub mod Runs
pub mod Repeats
pub mod Extents
pub mod FirstCopies
pub mod Sides
pub mod Lines
