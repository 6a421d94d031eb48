mod Answered
mod Places
mod Frames
mod Names
