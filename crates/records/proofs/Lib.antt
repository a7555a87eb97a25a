pub mod FlagLaws
pub mod PlaceLaws
pub mod ReaderLaws
pub mod LoopLaws
pub mod CodeLaws
