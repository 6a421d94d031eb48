mod Taken
mod Reached
