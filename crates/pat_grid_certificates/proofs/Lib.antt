mod Marking
mod Points
mod Meaning
mod Including
mod FewPoints
