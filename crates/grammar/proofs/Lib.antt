pub mod Digits
pub mod LineEnds
pub mod LineKinds
pub mod NumberParts
pub mod Words
