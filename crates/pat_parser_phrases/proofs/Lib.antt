pub mod Steps
mod Openings
mod Typed
mod ExpressionsMarks
mod Joining
mod DeclarationsMarks
mod Items
