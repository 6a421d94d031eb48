pub mod Views
pub mod Places
pub mod Acts
pub mod StepsTaken
pub mod threads
