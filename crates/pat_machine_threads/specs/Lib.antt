pub use Rattle.pat_reduce.specs.Views
pub mod Aside
pub mod Bindings
pub mod Handed
pub mod Settling
pub mod table
pub mod store
