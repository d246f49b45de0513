pub mod Lists
pub mod Gathering
pub mod Named
pub mod Ends
pub mod Sides
pub mod Arcs
pub mod PaintedBoxes
