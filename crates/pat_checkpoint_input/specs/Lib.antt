pub mod Parts
pub mod CheckedTexts
pub mod OneCheckpoint
pub mod Gives
pub mod Pieces
