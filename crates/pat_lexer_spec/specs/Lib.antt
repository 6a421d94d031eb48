pub mod Words
pub mod Marks
pub mod Tokens
pub mod Characters
pub mod Lexemes
pub mod Spelled
pub mod Divisions
pub mod Held
