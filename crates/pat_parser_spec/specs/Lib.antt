pub mod Trees
pub mod Items
pub mod Grammar
pub mod Machine
pub mod Claims
