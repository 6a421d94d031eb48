mod Languages
pub mod Spans
pub mod Forms
pub mod CoverLaws
mod Pumping
pub mod CutLaws
pub mod PointLaws
pub mod Shown
pub mod Replaced
pub mod Exact
pub mod LawParts
pub mod Taking
pub mod UnderLaws
pub mod FormCounts
pub mod FormTags
pub mod TreeLaws
mod AssignmentLaws
pub mod CutSetLaws
mod FlatLaws
pub mod TableLaws
pub mod SearchLaws
pub mod GridLaws
pub mod LayoutLaws
pub mod NumberLaws
mod AnswerLaws
pub mod ClosedLaws
mod ByTable
mod Order
mod Ends
mod Total
mod GridPoints
mod InBounds
