mod Lines
mod Seats
