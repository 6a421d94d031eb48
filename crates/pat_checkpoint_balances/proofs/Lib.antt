mod Balancing
mod Halves
mod Holding
mod Joining
mod Lets
mod Parting
mod RowLaws
