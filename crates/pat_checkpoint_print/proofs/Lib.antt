mod Found
mod Names
mod Parts
mod Turned
mod Rows
