-- Words of the contracts of inner functions: they mirror the code. A reader who trusts the definitions beside this
-- folder has read all that the theorems mean.
pub mod OpenNumbers
pub mod Tracking
pub mod WellMade
pub mod Closing
pub mod Names
