-- for others: what holds of all members of a list, numbers and shapes
pub mod Gathering
pub mod BothLaws
pub mod Lossless
pub mod Facts
pub mod Blocks
pub mod SignatureLaws
pub mod Numbering
pub mod ShapeLaws
pub mod Shown
pub mod TermTyped
-- what each term needs, by look-ups
pub mod Lookups
mod BranchLaws
mod BinderLaws
-- a typing solves the constraints
mod TermSound
mod LetSound
mod ArmsSound
mod GuardSound
mod WalkSound
-- a solution is a typing
mod LetTyped
mod ArmsTyped
mod GuardTyped
mod WalkTyped
mod Enough
-- patterns keep to their interfaces, and needs ascend
mod TermShaped
mod ArmsShaped
mod WalkShaped
mod Order
mod Merging
-- what need only be met from below
mod Least
-- inclusions are shown
mod ShownWalk
