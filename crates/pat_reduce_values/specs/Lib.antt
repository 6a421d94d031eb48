pub mod ValueViews
pub mod Environments
pub mod Results
pub mod programs
