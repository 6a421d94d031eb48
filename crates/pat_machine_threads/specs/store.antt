pub use Rattle.pat_machine_laws.specs.thread_frames.Alone
pub use Rattle.pat_machine_laws.specs.thread_frames.Laws
pub mod InPlace
pub mod ThreadStore
pub mod Steps
pub mod Remains
