mod Lines
mod Putting
mod Steps
mod Ends
mod Valued
mod Turning
mod Giving
