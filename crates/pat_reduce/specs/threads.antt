pub use Rattle.pat_core.specs.Views
pub mod ThreadViews
pub mod ThreadActs
pub mod GuardViews
