pub mod Ring
pub mod Coordinates
pub mod TurnLaws
pub mod NearestLaws
pub mod BoxLaws
pub mod NewtonRoots
pub mod Nanometres
