mod Halving
mod Rising
