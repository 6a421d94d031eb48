mod Keeping
mod Lines
mod Guards
mod Numbered
