-- Words of the contracts of inner functions. A reader who trusts the definitions beside this folder has read all that
-- the theorems mean.
pub mod Answers
pub mod Lines
pub mod Stations
pub mod Touching
