pub mod Lengths
pub mod Phrases
pub mod DrillTexts
pub mod GerberTexts
pub mod Laws
pub mod Machinery
