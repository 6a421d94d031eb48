mod Functions
mod Answered
mod SignedNumbers
mod Climbing
mod Parts
mod WalkFunctions
