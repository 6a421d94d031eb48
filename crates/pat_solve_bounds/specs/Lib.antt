pub mod lower_bounds
pub mod renumbered
pub mod productive
pub mod results
