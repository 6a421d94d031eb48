pub mod Ports
pub mod Allowed
pub mod Answers
pub mod Asking
pub mod Calls
pub mod Complete
pub mod Promises
pub mod Processes
