pub mod Choices
pub mod Decimals
pub mod Cutting
pub mod CutAgain
pub mod Ways
