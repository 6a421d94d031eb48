pub mod MarkedPrograms
pub mod OneProgram
